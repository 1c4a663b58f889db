-- What a step does that none of its own tests refuses.
use Rattle.std.specs.Prelude.{◌≡◌, ◌≢◌, ℕ, ◌-◌, ◌<◌, ◌≤◌, true, if◌then◌else◌, nat_lt}
use Rattle.std.specs.Prelude.{[], ◌∷◌, ◌++◌, get_or, length, slice_index, Option, Some, None, is_some}
use Rattle.atomic_table.specs.Seated.{TableId}
use Rattle.sf_base.specs.declared.fences.Seen.{Seen}
use Rattle.sf_actor.specs.sf_picture.declared.picture.Picture.{Picture}
use Rattle.sf_actor.specs.sf_layer.Ranges.{IsOperation}
use Rattle.sf_actor.specs.sf_script_scene.declared.step.Step.{Step}
use Rattle.sf_actor.specs.sf_script_scene.declared.step.Step.TheVariants as step
use Rattle.sf_actor.specs.sf_times.Seats.{raised}
use Rattle.sf_actor.specs.sf_txn.Transactions.{empty, set}
use Rattle.sf_actor.specs.Desks.{ChangesTimes, DeskHome, DeskView, has_queue}
use Rattle.sf_actor.specs.Names.{is_apart, is_frame, is_lent, name_in}
use Rattle.sf_actor.specs.Points.{frame_fence, requested_fence}
use Rattle.sf_actor.specs.Scripts.{layer_of, op_of}
use Rattle.sf_actor.specs.Tests.{refusal_of}
use Rattle.sf_actor.specs.Tries.{Sees}
use Rattle.sf_actor_steps.specs.Doing.{HasQueueOf, MakesCall}
use Rattle.sf_actor_steps.specs.Drawing.{Draws, TakesPicture}
use Rattle.sf_actor_steps.specs.Editing.{AreThere, Edits, HoldsShown, Merges, Shows, TriesSend, with_txn}
use Rattle.sf_actor_steps.specs.Forming.{AreOfTable, ArePoints, IsCrop, permits_of}
use Rattle.sf_actor_steps.specs.Bindings.{holdings_of}
use Rattle.sf_actor_steps.specs.Leaving.{Disconnects, TriesToLeave}
use Rattle.sf_actor_steps.specs.declared.bindings.Bindings.{Bindings}
use Rattle.sf_actor_steps.specs.declared.tried.Tried.{Tried}
use Rattle.sf_actor_steps.specs.declared.tried.Tried.TheVariants as tried

-- a timeline is raised
pub record Signals {B : Type 0} (timeline value : ℕ) (before after : Bindings B) (old new : DeskView B) (came_to : Tried) : Type 0 where
  pub own : came_to ≡ tried.Own 0
  pub bindings : after ≡ before
  pub signalled : new.times ≡ raised old.times (timeline, value)
  pub times : ChangesTimes old new

-- a look shows whether a timeline has reached a value
pub record Waits {B : Type 0} (home : DeskHome) (timeline value : ℕ) (before after : Bindings B) (old new : DeskView B) (came_to : Tried) : Type 0 where
  pub seen : Seen
  pub sees : Sees home old new seen
  pub times : ChangesTimes old new
  pub answers : came_to ≡ (if nat_lt (slice_index seen.values (timeline - 1)) value then tried.NotYet else tried.Own 0)
  pub bindings : after ≡ before

-- a transaction is begun or changed, and nothing else
pub record Changes {B : Type 0} (Changed : Type 0) (old new : DeskView B) (came_to : Tried) : Type 0 where
  pub own : came_to ≡ tried.Own 0
  pub changed : Changed
  pub desk : new ≡ old

module _ {B : Type 0} where
  abbrev pub Acts : (ℕ → Picture) → DeskHome → ℕ → ℕ → Step → Bindings B → Bindings B → DeskView B → DeskView B → Tried → Type 0
  Acts pictures home by step_number (step.Disconnect queue) before after old new came_to =
      Disconnects pictures home by step_number (step.Disconnect queue) queue before after old new came_to
  Acts pictures home by step_number (step.PDetach from to) before after old new came_to =
      TriesToLeave pictures home by step_number (step.PDetach from to) (requested_fence (name_in (holdings_of before) from)) before after old new came_to
  Acts pictures home by step_number (step.CDetach from to) before after old new came_to =
      TriesToLeave pictures home by step_number (step.CDetach from to) (frame_fence (name_in (holdings_of before) from)) before after old new came_to
  Acts pictures home by step_number (step.Draw name picture) before after old new came_to = Draws home name (pictures picture) before after old new came_to
  Acts pictures home by step_number (step.Signal timeline value) before after old new came_to = Signals timeline value before after old new came_to
  Acts pictures home by step_number (step.Wait timeline value) before after old new came_to = Waits home timeline value before after old new came_to
  Acts pictures home by step_number (step.Tx number) before after old new came_to = Changes (after ≡ with_txn before number (Some empty)) old new came_to
  Acts pictures home by step_number (step.Desire number time) before after old new came_to =
      Changes (Edits before after number (λ txn. record txn { desired = Some time })) old new came_to
  Acts pictures home by step_number (step.Barrier number layer frame) before after old new came_to =
      Changes (Edits before after number (λ txn. record txn { barriers = txn.barriers ++ (layer_of layer, frame) ∷ [] })) old new came_to
  Acts pictures home by step_number (step.Set number layer change) before after old new came_to =
      Changes (Edits before after number (λ txn. set txn (layer_of layer, op_of change))) old new came_to
  Acts pictures home by step_number (step.Buffer number layer name) before after old new came_to =
      (came_to ≡ tried.Own 0) × Shows home by step_number number layer name before after old new
  Acts pictures home by step_number (step.Merge number other) before after old new came_to =
      (came_to ≡ tried.Own 0) × Merges home by step_number number other before after old new
  Acts pictures home by step_number (step.Apply number token) before after old new came_to = TriesSend home by step_number number token before after old new came_to
  Acts pictures home by step_number s before after old new came_to = MakesCall pictures home by step_number s before after old new came_to

  -- what a step needs that none of its own tests refuses
  abbrev pub MayAct : (ℕ → Picture) → TableId → DeskHome → Step → Bindings B → Type 0
  MayAct pictures table home (step.Connect queue) bindings = has_queue home queue ≡ true
  MayAct pictures table home (step.Disconnect queue) bindings = (has_queue home queue ≡ true) × (length bindings.names ≡ 32)
  MayAct pictures table home (step.MaxDequeued queue n) bindings = has_queue home queue ≡ true
  MayAct pictures table home (step.Async queue on) bindings = has_queue home queue ≡ true
  MayAct pictures table home (step.Dequeue queue name size) bindings = (has_queue home queue ≡ true) × (0 < length (permits_of bindings)) × AreOfTable table bindings
  MayAct pictures table home (step.DequeueWait queue name size) bindings = (has_queue home queue ≡ true) × (0 < length (permits_of bindings)) × AreOfTable table bindings
  MayAct pictures table home (step.Request name) bindings = (is_lent (name_in (holdings_of bindings) name) ≡ true) × HasQueueOf home (name_in (holdings_of bindings) name)
  MayAct pictures table home (step.Draw name picture) bindings = TakesPicture (pictures picture) (get_or bindings.names name None)
  MayAct pictures table home (step.Queue name picture time crop points) bindings =
      (is_lent (name_in (holdings_of bindings) name) ≡ true) × HasQueueOf home (name_in (holdings_of bindings) name) × ArePoints points × IsCrop crop
  MayAct pictures table home (step.Cancel name points) bindings =
      (is_lent (name_in (holdings_of bindings) name) ≡ true) × HasQueueOf home (name_in (holdings_of bindings) name) × ArePoints points
  MayAct pictures table home (step.PDetach from to) bindings = (is_lent (name_in (holdings_of bindings) from) ≡ true) × HasQueueOf home (name_in (holdings_of bindings) from)
  MayAct pictures table home (step.PAttach queue from to) bindings = (has_queue home queue ≡ true) × (is_apart (name_in (holdings_of bindings) from) ≡ true)
  MayAct pictures table home (step.MaxAcquired queue n) bindings = has_queue home queue ≡ true
  MayAct pictures table home (step.Abandon queue) bindings = has_queue home queue ≡ true
  MayAct pictures table home (step.Acquire queue name at) bindings = has_queue home queue ≡ true
  MayAct pictures table home (step.Release name points) bindings =
      (is_frame (name_in (holdings_of bindings) name) ≡ true) × HasQueueOf home (name_in (holdings_of bindings) name) × ArePoints points
  MayAct pictures table home (step.CDetach from to) bindings = (is_frame (name_in (holdings_of bindings) from) ≡ true) × HasQueueOf home (name_in (holdings_of bindings) from)
  MayAct pictures table home (step.CAttach queue from to) bindings = (has_queue home queue ≡ true) × (is_apart (name_in (holdings_of bindings) from) ≡ true)
  MayAct pictures table home (step.Signal timeline value) bindings = (1 ≤ timeline) × (timeline ≤ 64)
  MayAct pictures table home (step.Wait timeline value) bindings = (1 ≤ timeline) × (timeline ≤ 64)
  MayAct pictures table home (step.Tx number) bindings = Unit {0}
  MayAct pictures table home (step.Desire number time) bindings = is_some (get_or bindings.transactions number None) ≡ true
  MayAct pictures table home (step.Barrier number layer frame) bindings = is_some (get_or bindings.transactions number None) ≡ true
  MayAct pictures table home (step.Apply number token) bindings = is_some (get_or bindings.transactions number None) ≡ true
  MayAct pictures table home (step.Set number layer change) bindings = (is_some (get_or bindings.transactions number None) ≡ true) × IsOperation (layer_of layer, op_of change)
  MayAct pictures table home (step.Buffer number layer name) bindings =
      (is_some (get_or bindings.transactions number None) ≡ true) × HoldsShown (get_or bindings.names name None) × (1 ≤ layer)
      × AreThere home (get_or bindings.transactions number None)
  MayAct pictures table home (step.Merge number other) bindings =
      (is_some (get_or bindings.transactions number None) ≡ true) × (is_some (get_or bindings.transactions other None) ≡ true) × (other ≢ number)
      × AreThere home (get_or bindings.transactions number None) × AreThere home (get_or bindings.transactions other None)

  -- what a try of a step comes to, by the status of the first of its own tests that is met
  abbrev pub Attempts : Option ℕ → (ℕ → Picture) → DeskHome → ℕ → ℕ → Step → Bindings B → Bindings B → DeskView B → DeskView B → Tried → Type 0
  Attempts (Some status) pictures home by step_number s before after old new came_to = (came_to ≡ tried.Own status) × (after ≡ before) × (new ≡ old)
  Attempts None pictures home by step_number s before after old new came_to = Acts pictures home by step_number s before after old new came_to

  -- the same of the step with this number in its actor's script, by what the actor's names and numbers hold
  abbrev pub AttemptsStep : (ℕ → Picture) → DeskHome → ℕ → Step → Bindings B → Bindings B → DeskView B → DeskView B → Tried → Type 0
  AttemptsStep pictures home step_number s before after old new came_to =
      Attempts (refusal_of pictures (holdings_of before) s) pictures home before.by.0 step_number s before after old new came_to

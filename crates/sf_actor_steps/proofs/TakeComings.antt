-- What a step comes to that acquires a frame, or that dequeues a buffer.
use Rattle.std.proofs.Common.{◌≡◌, ℕ, ◌+◌, ◌<◌, ◌==◌, ◌⊎◌, Bool, true, false, List, [], ◌∷◌, ◌++◌, length, inl, inr, arith, ap, ◌∙◌, sym, refl, subst, Option, Some, None}
use Rattle.std.specs.Prelude.{option_to_list, slice_set, unwrap_or}
use Rattle.std.specs.Option.{option_map}
use Rattle.std.proofs.lemmas.Bool.{cases_Bool, eqb-true, eq-eqb, false≢true}
use Rattle.sf_base.specs.declared.ids.QueueId.{QueueId}
use Rattle.sf_actor.specs.sf_picture.declared.picture.Picture.{Picture}
use Rattle.sf_actor.specs.sf_script_scene.declared.step.Step.{Step}
use Rattle.sf_actor.specs.sf_script_scene.declared.step.Step.TheVariants as step
use Rattle.sf_actor.specs.sf_slots.declared.calls.PlainCall.TheVariants as plain_call
use Rattle.sf_actor.specs.sf_slots.declared.calls.PlainReply.{PlainReply}
use Rattle.sf_actor.specs.sf_slots.declared.calls.PlainReply.TheVariants as plain
use Rattle.sf_actor.specs.sf_surface.declared.call.Gives.{Gives}
use Rattle.sf_actor.specs.sf_surface.declared.call.Gives.TheVariants as gives
use Rattle.sf_actor.specs.sf_surface.declared.call.QCall.{QCall}
use Rattle.sf_actor.specs.sf_surface.declared.call.QCall.TheVariants as call
use Rattle.sf_actor.specs.sf_surface.declared.call.QReply.{QReply}
use Rattle.sf_actor.specs.sf_surface.Hands.{IsReply, lent_lease}
use Rattle.sf_actor.specs.sf_surface.Tokens.{ReadLeaseOf}
use Rattle.sf_actor.specs.sf_turns.Views.{PermitView}
use Rattle.sf_actor.specs.declared.holding.Holding.{Holding}
use Rattle.sf_actor.specs.declared.holding.Holding.TheVariants as holding
use Rattle.sf_actor.specs.Desks.{DeskHome, DeskView, MadeCall, WaitsForCall, has_queue, known_of, looks, mark_among}
use Rattle.sf_actor.specs.Holdings.{HoldingsOf}
use Rattle.sf_actor.specs.Scripts.{queue_of}
use Rattle.sf_actor.specs.Tests.{refusal_of}
use Rattle.sf_actor.specs.Tries.{ActorOf, NoSlot, past_of, turn_ended}
use Rattle.sf_actor.proofs.AcquireStep.{acquire_keeps}
use Rattle.sf_actor.proofs.DequeueStep.{dequeue_call, dequeue_keeps, dequeuing, stock_after}
use Rattle.sf_actor.proofs.GoingOn.{keeps_on}
use Rattle.sf_actor.proofs.CallGrowth.{wait_alone, wait_goes}
use Rattle.sf_actor.proofs.QueueMarks.{marked}
use Rattle.sf_actor.proofs.NameChanges.{with_held as parts_with}
use Rattle.sf_actor.proofs.ReplyRecords.{acquire_tells, dequeue_tells}
use Rattle.sf_actor_steps.specs.Acting.{Acts}
use Rattle.sf_actor_steps.specs.Actors.{parts_of}
use Rattle.sf_actor_steps.specs.Calling.{Ends, TriesCall, WaitsToCall, received, with_held, with_spare}
use Rattle.sf_actor_steps.specs.inner.Coming.{Comes, IsReady, LeftWith}
use Rattle.sf_actor_steps.specs.Forming.{TakesPermit, named, permits_of}
use Rattle.sf_actor_steps.specs.declared.asking.Asking.{Asking}
use Rattle.sf_actor_steps.specs.declared.bindings.Bindings.{Bindings}
use Rattle.sf_actor_steps.specs.declared.tried.Tried.{Tried}
use Rattle.sf_actor_steps.specs.declared.tried.Tried.TheVariants as tried
use Rattle.sf_actor_steps.proofs.CallComings.{Came, call_comes, call_done, formed, kept_came, names_there, there_filled, unlooked}

module _ {B : Type 0} where
  -- a reply that gives a frame gives this one
  read_same : (lease other : ReadLeaseOf) (given : Gives B) → given ≡ gives.Read lease → given ≡ gives.Read other → lease ≡ other
  read_same lease other given one two = cc

  read_none : (lease : ReadLeaseOf) (given : Gives B) → given ≡ gives.Read lease → given ≡ gives.Nothing → ⊥
  read_none lease given one none = cc

  -- the frame that an acquire gives is of its queue
  given_queue : (queue : QueueId) (expected : ℕ) (lease : ReadLeaseOf) (told : PlainReply) (reply : QReply B) → IsReply queue (call.Acquire expected) told reply → reply.gives ≡ gives.Read lease → lease.queue ≡ queue
  given_queue queue expected lease (plain.Refused cause) reply is given = absurd (read_none lease reply.gives given (ap (λ (r : QReply B). r.gives) is))
  given_queue queue expected lease plain.Done reply is given = absurd is
  given_queue queue expected lease (plain.Dequeued slot held requested reallocated points) reply is given = absurd is
  given_queue queue expected lease (plain.Requested held) reply is given = absurd is
  given_queue queue expected lease (plain.Queued frame) reply is given = absurd is
  given_queue queue expected lease (plain.Attached slot held) reply is given = absurd is
  given_queue queue expected lease (plain.Acquired item dropped) reply is given = ap (λ (l : ReadLeaseOf). l.queue) (read_same lease _ reply.gives given (ap (λ (r : QReply B). r.gives) is.1))

  pub acquire_comes : (pictures : ℕ → Picture) (home : DeskHome) (actor : ActorOf B) (before after : Bindings B) (old new : DeskView B) (q i : ℕ) (at : Option ℕ) (came_to : Tried) → IsReady pictures home actor before old (step.Acquire q i at) → refusal_of pictures (past_of actor).holdings (step.Acquire q i at) ≡ None → Acts pictures home actor.script.number (length actor.trace + 1) (step.Acquire q i at) before after old new came_to → Comes pictures home actor after old new came_to
  acquire_comes pictures home actor before after old new q i at came_to ready unrefused makes =
      let by = actor.script.number in
      let s : Step = step.Acquire q i at in
      let asked : QCall B = call.Acquire (unwrap_or at 0) in
      let step_number : ℕ = length actor.trace + 1 in
      let asking : Asking B = named (queue_of q) i asked in
      let size = names_there pictures home actor before old s ready in
      let below = ready.playable.ranges.0.below in
      let low : i < length actor.parts.names = omega (arith, size, below) in
      let marking = marked home q ready.playable.queue in
      let queue = (mark_among home.marks q).queue in
      call_comes pictures home actor s before after after old old new asking came_to refl refl (unlooked home old)
      (formed home by step_number makes.asking asking makes.taken before after old new came_to makes.forms.0 makes.forms.1 makes.tries)
      (λ reply called_view was made ends bindings.
      elim (acquire_keeps pictures actor q i at home old called_view reply ready.is_next ready.keeps.kept unrefused low below marking made) [
        | inl given ↦
            let now = holding.Reads given.0 in
            let of_queue = given_queue queue (unwrap_or at 0) given.0 given.3.told reply given.3.replies (ap (λ (r : QReply B). r.gives) given.2) in
            kept_came pictures home actor s after called_view new queue asked reply (parts_with actor.parts i (Some now) actor.parts.stock)
            (λ told is. acquire_tells queue q i at (unwrap_or at 0) (past_of actor).holdings told reply is)
            refl (ap (λ (r : QReply B). r.ends) given.2) ends given.3
            (ap (λ (h : Bindings B). parts_of h) (bindings ∙ ap (received asking.homes before) given.2) ∙ ap (λ (p : HoldingsOf B). parts_with p i (Some now) p.stock) (sym ready.parts))
            (there_filled home actor.parts i now actor.parts.stock low ready.keeps.there
            (subst (λ (of : QueueId). has_queue home of.0 ≡ true) (sym (of_queue ∙ marking)) ready.playable.queue))
        | inr refused ↦
            kept_came pictures home actor s after called_view new queue asked reply actor.parts
            (λ told is. acquire_tells queue q i at (unwrap_or at 0) (past_of actor).holdings told reply is)
            refl (ap (λ (r : QReply B). r.ends) refused.1) ends refused.2
            (ap (λ (h : Bindings B). parts_of h) (bindings ∙ ap (received asking.homes before) refused.1) ∙ sym ready.parts)
            ready.keeps.there
      ])

  -- the permit that a dequeue took is there again where it comes back
  handed_back : (before taken : Bindings B) (permit : PermitView) → TakesPermit before taken permit → parts_of (with_spare taken (Some permit)) ≡ parts_of before
  handed_back before taken permit takes =
      ap (λ (h : Bindings B). let p : HoldingsOf B = record { names = h.names; transactions = h.transactions; stock = permit.buffer ∷ taken.stock.buffers } in p) takes.same
      ∙ ap (λ (stock : List ℕ). let p : HoldingsOf B = record { names = before.names; transactions = before.transactions; stock = stock } in p) (ap (λ (spare : Option PermitView). permit.buffer ∷ (spared spare ++ taken.stock.buffers)) (sym takes.none_spare) ∙ sym takes.one)
    where
      spared : Option PermitView → List ℕ
      spared spare = option_to_list (option_map (λ (p : PermitView). p.buffer) spare)

  -- a name that is filled by a dequeue
  dequeued : (before taken : Bindings B) (permit : PermitView) (name : ℕ) (now : Holding B) (spare : Option PermitView) → TakesPermit before taken permit → (spare ≡ None) ⊎ (spare ≡ Some permit) → parts_of (with_spare (with_held taken name (Some now)) spare) ≡ parts_with (parts_of before) name (Some now) (stock_after (permits_of taken) permit spare)
  dequeued before taken permit name now spare takes (inl none) =
      subst (λ (left : Option PermitView). parts_of (with_spare (with_held taken name (Some now)) left) ≡ parts_with (parts_of before) name (Some now) (stock_after (permits_of taken) permit left)) (sym none)
      (ap (λ (h : Bindings B). let p : HoldingsOf B = record { names = slice_set h.names name (Some now); transactions = h.transactions; stock = permits_of taken } in p) takes.same)
  dequeued before taken permit name now spare takes (inr back) =
      subst (λ (left : Option PermitView). parts_of (with_spare (with_held taken name (Some now)) left) ≡ parts_with (parts_of before) name (Some now) (stock_after (permits_of taken) permit left)) (sym back)
      (ap (λ (p : HoldingsOf B). parts_with p name (Some now) p.stock) (handed_back before taken permit takes)
      ∙ ap (λ (stock : List ℕ). parts_with (parts_of before) name (Some now) stock) takes.one)

  -- what the call of a dequeue came to, which may have asked to wait
  dequeue_came : (pictures : ℕ → Picture) (home : DeskHome) (actor : ActorOf B) (wait : Bool) (q name : ℕ) (size : Option (ℕ × ℕ)) (before taken after : Bindings B) (old called_view new : DeskView B) (permit : PermitView) (reply : QReply B) → IsReady pictures home actor before old (dequeuing wait q name size) → refusal_of pictures (past_of actor).holdings (dequeuing wait q name size) ≡ None → turn_ended actor.parts (dequeuing wait q name size) ≡ [] → name < 32 → has_queue home q ≡ true → TakesPermit before taken permit → MadeCall home old called_view actor.script.number q (length actor.trace + 1, dequeue_call size wait permit) reply → Ends reply.ends called_view new → after ≡ received (named (queue_of q) name (dequeue_call {B = B} size wait permit)).homes taken reply → Came pictures home actor (dequeuing wait q name size) after new reply
  dequeue_came pictures home actor wait q name size before taken after old called_view new permit reply ready unrefused unended below has takes made ends bindings =
      let s : Step = dequeuing wait q name size in
      let asked : QCall B = dequeue_call size wait permit in
      let homes = (named (queue_of q) name asked).homes in
      let names = names_there pictures home actor before old s ready in
      let low : name < length actor.parts.names = omega (arith, names, below) in
      let marking = marked home q has in
      let queue = (mark_among home.marks q).queue in
      let stock = ap (λ (p : HoldingsOf B). p.stock) ready.parts ∙ takes.one in
      elim (dequeue_keeps pictures actor wait q name size permit (permits_of taken) home old called_view reply ready.is_next ready.keeps.kept unrefused stock low below marking made) [
        | inl given ↦
            let lends = given.1 in
            let now = holding.Lends (lent_lease queue lends.slot lends.held lends.requested lends.fence lends.turn) in
            kept_came pictures home actor s after called_view new queue asked reply (parts_with actor.parts name (Some now) (stock_after (permits_of taken) permit lends.spare))
            (λ told is. dequeue_tells queue s (unwrap_or size (0, 0)).0 (unwrap_or size (0, 0)).1 wait permit (past_of actor).holdings told reply is)
            unended (ap (λ (r : QReply B). r.ends) lends.replied) ends given.2
            (ap (λ (h : Bindings B). parts_of h) (bindings ∙ ap (received homes taken) lends.replied)
            ∙ dequeued before taken permit name now lends.spare takes lends.back
            ∙ ap (λ (p : HoldingsOf B). parts_with p name (Some now) (stock_after (permits_of taken) permit lends.spare)) (sym ready.parts))
            (there_filled home actor.parts name now (stock_after (permits_of taken) permit lends.spare) low ready.keeps.there
            (subst (λ (of : QueueId). has_queue home of.0 ≡ true) (sym marking) has))
        | inr refused ↦
            kept_came pictures home actor s after called_view new queue asked reply actor.parts
            (λ told is. dequeue_tells queue s (unwrap_or size (0, 0)).0 (unwrap_or size (0, 0)).1 wait permit (past_of actor).holdings told reply is)
            unended (ap (λ (r : QReply B). r.ends) refused.1) ends refused.2
            (ap (λ (h : Bindings B). parts_of h) (bindings ∙ ap (received homes taken) refused.1) ∙ handed_back before taken permit takes ∙ sym ready.parts)
            ready.keeps.there
      ]

  pub dequeue_comes : (pictures : ℕ → Picture) (home : DeskHome) (actor : ActorOf B) (before after : Bindings B) (old new : DeskView B) (q name : ℕ) (size : Option (ℕ × ℕ)) (came_to : Tried) → IsReady pictures home actor before old (step.Dequeue q name size) → refusal_of pictures (past_of actor).holdings (step.Dequeue q name size) ≡ None → Acts pictures home actor.script.number (length actor.trace + 1) (step.Dequeue q name size) before after old new came_to → Comes pictures home actor after old new came_to
  dequeue_comes pictures home actor before after old new q name size came_to ready unrefused makes =
      let permit = makes.forms.0 in
      let asking : Asking B = named (queue_of q) name (dequeue_call size false permit) in
      call_comes pictures home actor (step.Dequeue q name size) makes.taken after after old old new asking came_to refl refl (unlooked home old)
      (formed home actor.script.number (length actor.trace + 1) makes.asking asking makes.taken makes.taken after old new came_to refl makes.forms.2 makes.tries)
      (λ reply called_view was made ends bindings.
      dequeue_came pictures home actor false q name size before makes.taken after old called_view new permit reply ready unrefused refl ready.playable.ranges.0.below ready.playable.queue makes.forms.1 made ends bindings)

  -- a call that waits leaves the actor and the desk
  still_called : (home : DeskHome) (old new : DeskView B) (by queue other : ℕ) (asked : ℕ × QCall B) → WaitsForCall home old new by queue asked → home.is_exact ≡ true → new.calls other ≡ old.calls other
  still_called home old new by queue other asked waits exact = elim (cases_Bool (other == queue)) [
    | inl met ↦ subst (λ (q : ℕ). new.calls q ≡ old.calls q) (sym (eqb-true other queue met)) (waits.alone exact)
    | inr unmet ↦ waits.changes.others other (λ e. false≢true (sym unmet ∙ eq-eqb other queue e))
  ]

  has_looked : (home : DeskHome) (old new : DeskView B) (by queue : ℕ) (asked : ℕ × QCall B) → WaitsForCall home old new by queue asked → home.is_exact ≡ false → looks old < looks new
  has_looked home old new by queue asked waits inexact =
      let times = ap (λ (view : DeskView B). length view.times.shown) waits.changes.same in
      let turns = ap (λ (view : DeskView B). length view.turns.seen) waits.changes.same in
      let more = waits.looked inexact in
      omega (arith, times, turns, more)

  waits_left : (pictures : ℕ → Picture) (home : DeskHome) (actor : ActorOf B) (q name : ℕ) (size : Option (ℕ × ℕ)) (before taken after : Bindings B) (old new : DeskView B) (permit : PermitView) → IsReady pictures home actor before old (step.DequeueWait q name size) → refusal_of pictures (past_of actor).holdings (step.DequeueWait q name size) ≡ None → TakesPermit before taken permit → WaitsToCall home actor.script.number (length actor.trace + 1) (named (queue_of q) name (dequeue_call size true permit)) taken after old new → LeftWith pictures home actor after old new
  waits_left pictures home actor q name size before taken after old new permit ready unrefused takes is =
      let by = actor.script.number in
      let asked : ℕ × QCall B = (length actor.trace + 1, dequeue_call size true permit) in
      let waits : WaitsForCall home old new by q asked = is.waits in
      record {
        leaves = record {
          next = step.DequeueWait q name size;
          step = ready.is_next;
          unrefused = unrefused;
          why = NoSlot (queue_of q, plain_call.Dequeue (unwrap_or size (0, 0)).0 (unwrap_or size (0, 0)).1 true) asked.1 refl refl waits;
          same = refl;
          signals = ap (λ (view : DeskView B). view.times.signals) waits.changes.same;
          left = ap (λ (view : DeskView B). view.turns.leaves) waits.changes.same;
          looked = has_looked home old new by q asked waits;
          calls = λ exact queue. still_called home old new by q queue asked waits exact;
          arrivals = ap (λ (view : DeskView B). view.arrivals) waits.changes.same;
          alone = λ exact other. wait_alone other home old new by q asked exact waits;
        };
        parts = ap (λ (h : Bindings B). parts_of h) is.bindings ∙ handed_back before taken permit takes ∙ sym ready.parts;
        keeps = record {
          kept = keeps_on pictures actor (known_of home old) (known_of home new) (wait_goes home old new by q asked waits) ready.keeps.kept;
          there = ready.keeps.there;
        };
      }

  tries_to_lend : (pictures : ℕ → Picture) (home : DeskHome) (actor : ActorOf B) (q name : ℕ) (size : Option (ℕ × ℕ)) (before taken after : Bindings B) (old new : DeskView B) (permit : PermitView) (came_to : Tried) → IsReady pictures home actor before old (step.DequeueWait q name size) → refusal_of pictures (past_of actor).holdings (step.DequeueWait q name size) ≡ None → TakesPermit before taken permit → TriesCall home actor.script.number (length actor.trace + 1) (named (queue_of q) name (dequeue_call size true permit)) taken after old new came_to → Comes pictures home actor after old new came_to
  tries_to_lend pictures home actor q name size before taken after old new permit (tried.Own status) ready unrefused takes tries = absurd tries
  tries_to_lend pictures home actor q name size before taken after old new permit (tried.Sent number) ready unrefused takes tries = absurd tries
  tries_to_lend pictures home actor q name size before taken after old new permit tried.NotYet ready unrefused takes tries = waits_left pictures home actor q name size before taken after old new permit ready unrefused takes tries
  tries_to_lend pictures home actor q name size before taken after old new permit (tried.Called status values) ready unrefused takes (reply, same_status, same_values, calls) =
      subst (λ (t : Tried). Comes pictures home actor after old new t) (λ i. tried.Called (same_status i) (same_values i))
      (call_done pictures home actor (step.DequeueWait q name size) after old old calls.made_view new q (length actor.trace + 1, dequeue_call size true permit) reply refl (unlooked home old) calls.made calls.ends
      (dequeue_came pictures home actor true q name size before taken after old calls.made_view new permit reply ready unrefused refl ready.playable.ranges.0.below ready.playable.queue takes calls.made calls.ends calls.bindings))

  pub dequeue_wait_comes : (pictures : ℕ → Picture) (home : DeskHome) (actor : ActorOf B) (before after : Bindings B) (old new : DeskView B) (q name : ℕ) (size : Option (ℕ × ℕ)) (came_to : Tried) → IsReady pictures home actor before old (step.DequeueWait q name size) → refusal_of pictures (past_of actor).holdings (step.DequeueWait q name size) ≡ None → Acts pictures home actor.script.number (length actor.trace + 1) (step.DequeueWait q name size) before after old new came_to → Comes pictures home actor after old new came_to
  dequeue_wait_comes pictures home actor before after old new q name size came_to ready unrefused makes =
      let permit = makes.forms.0 in
      let asking : Asking B = named (queue_of q) name (dequeue_call size true permit) in
      tries_to_lend pictures home actor q name size before makes.taken after old new permit came_to ready unrefused makes.forms.1
      (formed home actor.script.number (length actor.trace + 1) makes.asking asking makes.taken makes.taken after old new came_to refl makes.forms.2 makes.tries)

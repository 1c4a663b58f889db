-- What a step needs that none of its own tests refuses, where its actor keeps what it keeps.
use Rattle.std.proofs.Common.{◌≡◌, ◌≢◌, ℕ, zero, suc, ◌<◌, ◌≤◌, Bool, true, false, not, ◌||◌, List, [], ◌∷◌, length, drop, get_or, Option, Some, None}
use Rattle.std.proofs.Common.{refl, ap, ◌∙◌, sym, subst, arith}
use Rattle.std.specs.Prelude.{◌==◌, is_none, is_some, slice_get, IfSome}
use Rattle.std.specs.List.{All}
use Rattle.std.specs.Option.{option_map}
use Rattle.std.proofs.lemmas.Bool.{eq-eqb, eqb-true, false≢true}
use Rattle.std.proofs.lemmas.List.Elements.{All-cons, All-head, All-nil, All-tail}
use Rattle.atomic_table.specs.Seated.{TableId}
use Rattle.sf_actor.specs.sf_picture.declared.picture.Picture.{Picture}
use Rattle.sf_actor.specs.sf_script_scene.declared.step.Step.{Step}
use Rattle.sf_actor.specs.sf_script_scene.declared.step.Step.TheVariants as step
use Rattle.sf_actor.specs.sf_script_scene.Named.{timelines_in}
use Rattle.sf_actor.specs.sf_script_scene.Ranges.{IsPart}
use Rattle.sf_actor.specs.sf_surface.Tokens.{ReadLeaseOf}
use Rattle.sf_actor.specs.sf_txn.Transactions.{Contents}
use Rattle.sf_actor.specs.declared.holding.Holding.{Holding}
use Rattle.sf_actor.specs.declared.holding.Holding.TheVariants as holding
use Rattle.sf_actor.specs.Desks.{DeskHome, DeskView, has_queue}
use Rattle.sf_actor.specs.Known.{plain_txn}
use Rattle.sf_actor.specs.Names.{Holdings, Token, is_frame, is_lent, is_owing, name_in, transaction_in}
use Rattle.sf_actor.specs.Holdings.{HoldingsOf, ShowsPictures, plain_of, queue_held, token_of}
use Rattle.sf_actor.specs.Tests.{bad_value, can_not_show, empty, first_met, is_frameless, is_taken, occupied, refusal_of, shows_other, tests_of}
use Rattle.sf_actor.specs.Tries.{ActorOf, contents_in, dequeues_in, held_in, is_dequeue, past_of}
use Rattle.sf_actor_steps.specs.Acting.{MayAct}
use Rattle.sf_actor_steps.specs.inner.Coming.{IsReady}
use Rattle.sf_actor_steps.specs.Doing.{HasQueueOf}
use Rattle.sf_actor_steps.specs.Drawing.{TakesPicture}
use Rattle.sf_actor_steps.specs.Editing.{AreThere, HoldsShown, IsThere}
use Rattle.sf_actor_steps.specs.Forming.{AreOfTable, ArePoints, IsCrop, permits_of}
use Rattle.sf_actor_steps.specs.Bindings.{holdings_of}
use Rattle.sf_actor_steps.specs.declared.bindings.Bindings.{Bindings}
use Rattle.sf_actor_steps.proofs.HoldingLemmas.{name_in-held, transaction_in-held}

some_none : {A : Type 0} (a : A) → Some a ≡ None → ⊥
some_none a e = cc

-- a test that is not met, and those behind it
unmet : (met : Bool) (status : ℕ) (tests : List (Bool × ℕ)) → first_met ((met, status) ∷ tests) ≡ None → (met ≡ false) × (first_met tests ≡ None)
unmet true status tests e = absurd (some_none status e)
unmet false status tests e = (refl, e)

untested : (pictures : ℕ → Picture) (holdings : Holdings) (s : Step) → refusal_of pictures holdings s ≡ None → first_met (tests_of pictures holdings s) ≡ None
unfolding refusal_of
untested pictures holdings s e = e

holds_so : (b : Bool) → not b ≡ false → b ≡ true
holds_so true e = refl
holds_so false e = absurd (false≢true (sym e))

neither : (a b : Bool) → (a || b) ≡ false → (a ≡ false) × (b ≡ false)
neither true b e = absurd (false≢true (sym e))
neither false b e = (refl, e)

-- where the first test of a step asks that a name or number holds something, it does
asked_for : (there : Bool) (status : ℕ) (tests : List (Bool × ℕ)) → first_met ((not there, status) ∷ tests) ≡ None → there ≡ true
asked_for there status tests e = holds_so there (unmet (not there) status tests e).0

-- a dequeue is one of the dequeues to come
one_to_come : (steps : List Step) (n : ℕ) (s : Step) → slice_get steps n ≡ Some s → is_dequeue s ≡ true → 0 < dequeues_in (drop n steps)
one_to_come [] n s e is = absurd (some_none s (sym e))
one_to_come (x ∷ xs) zero s e is = let first : x ≡ s = cc in let met : is_dequeue x ≡ true = ap is_dequeue first ∙ is in rw met (omega arith)
one_to_come (x ∷ xs) (suc n) s e is = one_to_come xs n s e is

abbrev IsTimeline : ℕ → Type 0
IsTimeline number = (1 ≤ number) × (number ≤ 64)

abbrev IsPoint : ℕ × ℕ → Type 0
IsPoint p = (1 ≤ p.0) × (p.0 ≤ 64)

points_are : (points : List (ℕ × ℕ)) → All IsTimeline (timelines_in points) → ArePoints points
points_are [] all = All-nil IsPoint
points_are (p ∷ points) all = All-cons IsPoint p points (All-head IsTimeline p.0 (timelines_in points) all) (points_are points (All-tail IsTimeline p.0 (timelines_in points) all))

crop_is : (crop : Option (ℕ × ℕ × ℕ × ℕ)) → IfSome crop IsPart → IsCrop crop
crop_is None part = tt
crop_is (Some crop) part = let a = part.left in let b = part.top in (omega (arith, a), omega (arith, b))

filled_so : (held : Option (Contents ReadLeaseOf)) → is_none (option_map plain_txn held) ≡ false → is_some held ≡ true
filled_so None e = absurd (false≢true (sym e))
filled_so (Some txn) e = refl

frames_of : (home : DeskHome) (held : Option (Contents ReadLeaseOf)) → ((txn : Contents ReadLeaseOf) → held ≡ Some txn → All (IsThere home) txn.buffers) → AreThere home held
frames_of home None there = tt
frames_of home (Some txn) there = there txn refl

module _ {B : Type 0} where
  -- the queue of a lent buffer or of a frame is there
  held_queue : (home : DeskHome) (held : Option (Holding B)) → ((h : Holding B) → held ≡ Some h → has_queue home (queue_held h).0 ≡ true) → HasQueueOf home (option_map token_of held)
  held_queue home None there = tt
  held_queue home (Some (holding.Lends lease)) there = there (holding.Lends lease) refl
  held_queue home (Some (holding.Owes owing held)) there = tt
  held_queue home (Some (holding.Reads lease)) there = there (holding.Reads lease) refl
  held_queue home (Some (holding.Frees queue loose)) there = tt

  -- a picture that no test refuses can be drawn
  can_show : (pictures : ℕ → Picture) (picture : ℕ) (held : Option (Holding B)) → ((h : Holding B) → held ≡ Some h → ShowsPictures pictures h) → first_met ((not (is_lent (option_map token_of held) || is_owing (option_map token_of held)), empty) ∷ (can_not_show pictures picture (option_map token_of held), bad_value) ∷ []) ≡ None → TakesPicture (pictures picture) held
  can_show pictures picture None shows e = absurd (some_none empty e)
  can_show pictures picture (Some (holding.Lends lease)) shows e = asked_for _ bad_value [] e
  can_show pictures picture (Some (holding.Owes owing held)) shows e =
      ap pictures (sym (eqb-true owing.turn.promises.number picture (asked_for (owing.turn.promises.number == picture) bad_value [] e))) ∙ sym (shows (holding.Owes owing held) refl)
  can_show pictures picture (Some (holding.Reads lease)) shows e = absurd (some_none empty e)
  can_show pictures picture (Some (holding.Frees queue loose)) shows e = absurd (some_none empty e)

  -- a name whose frame no test refuses holds one that its queue showed
  can_move : (held : Option (Holding B)) → is_frame (option_map token_of held) ≡ true → is_frameless (option_map token_of held) ≡ false → HoldsShown held
  can_move None is framed = absurd (false≢true is)
  can_move (Some (holding.Lends lease)) is framed = absurd (false≢true is)
  can_move (Some (holding.Owes owing held)) is framed = absurd (false≢true is)
  can_move (Some (holding.Reads lease)) is framed = λ (none : lease.frame ≡ 0). false≢true (sym framed ∙ eq-eqb lease.frame 0 none)
  can_move (Some (holding.Frees queue loose)) is framed = absurd (false≢true is)

  number_holds : (bindings : Bindings B) (number : ℕ) → is_none (transaction_in (holdings_of bindings) number) ≡ false → is_some (get_or bindings.transactions number None) ≡ true
  number_holds bindings number e = filled_so (get_or bindings.transactions number None) (subst (λ (o : Option _). is_none o ≡ false) (transaction_in-held bindings number) e)

  module _ (pictures : ℕ → Picture) (table : TableId) (home : DeskHome) (actor : ActorOf B) (bindings : Bindings B) (view : DeskView B) (s : Step) (ready : IsReady pictures home actor bindings view s) where
    -- what the trace tells of names and numbers is what they hold
    pub holds_told : holdings_of bindings ≡ (past_of actor).holdings
    holds_told = ap (λ (parts : HoldingsOf B). plain_of parts) (sym ready.parts) ∙ ready.keeps.kept.has

    queue_there : (name : ℕ) → HasQueueOf home (name_in (holdings_of bindings) name)
    queue_there name =
        subst (HasQueueOf home) (sym (name_in-held bindings name))
        (held_queue home (get_or bindings.names name None) (λ held there. ready.keeps.there.names name held (ap (λ (parts : HoldingsOf B). held_in parts name) ready.parts ∙ there)))

    frames_there : (number : ℕ) → AreThere home (get_or bindings.transactions number None)
    frames_there number =
        frames_of home (get_or bindings.transactions number None) (λ txn there. ready.keeps.there.frames number txn (ap (λ (parts : HoldingsOf B). contents_in parts number) ready.parts ∙ there))

    shown_there : (name : ℕ) (held : Holding B) → get_or bindings.names name None ≡ Some held → ShowsPictures pictures held
    shown_there name held there = ready.keeps.kept.shows name held (ap (λ (parts : HoldingsOf B). held_in parts name) ready.parts ∙ there)

    permits_left : is_dequeue s ≡ true → 0 < length (permits_of bindings)
    permits_left is =
        let enough = ready.keeps.kept.permits.enough in
        let one = one_to_come actor.script.steps (length actor.trace) s ready.is_next is in
        let sized : length actor.parts.stock ≡ length (permits_of bindings) = ap (λ (parts : HoldingsOf B). length parts.stock) ready.parts in
        omega (arith, enough, one, sized)

    draws_so : (name picture : ℕ) → first_met (tests_of pictures (holdings_of bindings) (step.Draw name picture)) ≡ None → TakesPicture (pictures picture) (get_or bindings.names name None)
    draws_so name picture e =
        can_show pictures picture (get_or bindings.names name None) (shown_there name)
        (subst (λ (t : Option Token). first_met ((not (is_lent t || is_owing t), empty) ∷ (can_not_show pictures picture t, bad_value) ∷ []) ≡ None) (name_in-held bindings name) e)

    moves_so : (number layer name : ℕ) → first_met (tests_of pictures (holdings_of bindings) (step.Buffer number layer name)) ≡ None → (is_some (get_or bindings.transactions number None) ≡ true) × HoldsShown (get_or bindings.names name None)
    moves_so number layer name e =
        let held = name_in (holdings_of bindings) name in
        let first = unmet (is_none (transaction_in (holdings_of bindings) number) || not (is_frame held)) empty ((is_frameless held, bad_value) ∷ []) e in
        let both = neither (is_none (transaction_in (holdings_of bindings) number)) (not (is_frame held)) first.0 in
        let second = unmet (is_frameless held) bad_value [] first.1 in (
          number_holds bindings number both.0,
          can_move (get_or bindings.names name None)
              (subst (λ (t : Option Token). is_frame t ≡ true) (name_in-held bindings name) (holds_so (is_frame held) both.1))
              (subst (λ (t : Option Token). is_frameless t ≡ false) (name_in-held bindings name) second.0),
        )

    merges_so : (number other : ℕ) → first_met (tests_of pictures (holdings_of bindings) (step.Merge number other)) ≡ None → (is_some (get_or bindings.transactions number None) ≡ true) × (is_some (get_or bindings.transactions other None) ≡ true) × (other ≢ number)
    merges_so number other e =
        let first = unmet (is_none (transaction_in (holdings_of bindings) number) || is_none (transaction_in (holdings_of bindings) other)) empty ((number == other, bad_value) ∷ []) e in
        let both = neither (is_none (transaction_in (holdings_of bindings) number)) (is_none (transaction_in (holdings_of bindings) other)) first.0 in
        let second = unmet (number == other) bad_value [] first.1 in
        (number_holds bindings number both.0, number_holds bindings other both.1, λ (same : other ≡ number). false≢true (sym second.0 ∙ eq-eqb number other (sym same)))

  pub ready_may : (pictures : ℕ → Picture) (table : TableId) (home : DeskHome) (actor : ActorOf B) (bindings : Bindings B) (view : DeskView B) (s : Step) → IsReady pictures home actor bindings view s → AreOfTable table bindings → first_met (tests_of pictures (holdings_of bindings) s) ≡ None → MayAct pictures table home s bindings
  ready_may pictures table home actor bindings view (step.Connect queue) ready of_table e = ready.playable.queue
  ready_may pictures table home actor bindings view (step.Disconnect queue) ready of_table e = (ready.playable.queue, ready.names)
  ready_may pictures table home actor bindings view (step.MaxDequeued queue n) ready of_table e = ready.playable.queue
  ready_may pictures table home actor bindings view (step.Async queue on) ready of_table e = ready.playable.queue
  ready_may pictures table home actor bindings view (step.Dequeue queue name size) ready of_table e = (ready.playable.queue, permits_left pictures table home actor bindings view (step.Dequeue queue name size) ready refl, of_table)
  ready_may pictures table home actor bindings view (step.DequeueWait queue name size) ready of_table e = (ready.playable.queue, permits_left pictures table home actor bindings view (step.DequeueWait queue name size) ready refl, of_table)
  ready_may pictures table home actor bindings view (step.Request name) ready of_table e = (asked_for _ empty [] e, queue_there pictures table home actor bindings view (step.Request name) ready name)
  ready_may pictures table home actor bindings view (step.Draw name picture) ready of_table e = draws_so pictures table home actor bindings view (step.Draw name picture) ready name picture e
  ready_may pictures table home actor bindings view (step.Queue name picture time crop points) ready of_table e =
      (asked_for _ empty ((shows_other picture (name_in (holdings_of bindings) name), bad_value) ∷ []) e, queue_there pictures table home actor bindings view (step.Queue name picture time crop points) ready name, points_are points ready.playable.timelines, crop_is crop ready.playable.ranges.2)
  ready_may pictures table home actor bindings view (step.Cancel name points) ready of_table e = (asked_for _ empty [] e, queue_there pictures table home actor bindings view (step.Cancel name points) ready name, points_are points ready.playable.timelines)
  ready_may pictures table home actor bindings view (step.PDetach from to) ready of_table e = (asked_for _ empty ((is_taken (holdings_of bindings) from to, occupied) ∷ []) e, queue_there pictures table home actor bindings view (step.PDetach from to) ready from)
  ready_may pictures table home actor bindings view (step.PAttach queue from to) ready of_table e = (ready.playable.queue, asked_for _ empty ((is_taken (holdings_of bindings) from to, occupied) ∷ []) e)
  ready_may pictures table home actor bindings view (step.MaxAcquired queue n) ready of_table e = ready.playable.queue
  ready_may pictures table home actor bindings view (step.Abandon queue) ready of_table e = ready.playable.queue
  ready_may pictures table home actor bindings view (step.Acquire queue name at) ready of_table e = ready.playable.queue
  ready_may pictures table home actor bindings view (step.Release name points) ready of_table e = (asked_for _ empty [] e, queue_there pictures table home actor bindings view (step.Release name points) ready name, points_are points ready.playable.timelines)
  ready_may pictures table home actor bindings view (step.CDetach from to) ready of_table e = (asked_for _ empty ((is_taken (holdings_of bindings) from to, occupied) ∷ []) e, queue_there pictures table home actor bindings view (step.CDetach from to) ready from)
  ready_may pictures table home actor bindings view (step.CAttach queue from to) ready of_table e = (ready.playable.queue, asked_for _ empty ((is_taken (holdings_of bindings) from to, occupied) ∷ []) e)
  ready_may pictures table home actor bindings view (step.Signal timeline value) ready of_table e = All-head IsTimeline timeline [] ready.playable.timelines
  ready_may pictures table home actor bindings view (step.Wait timeline value) ready of_table e = All-head IsTimeline timeline [] ready.playable.timelines
  ready_may pictures table home actor bindings view (step.Tx number) ready of_table e = tt
  ready_may pictures table home actor bindings view (step.Desire number time) ready of_table e = number_holds bindings number (unmet _ empty [] e).0
  ready_may pictures table home actor bindings view (step.Barrier number layer frame) ready of_table e = number_holds bindings number (unmet _ empty [] e).0
  ready_may pictures table home actor bindings view (step.Apply number token) ready of_table e = number_holds bindings number (unmet _ empty [] e).0
  ready_may pictures table home actor bindings view (step.Set number layer change) ready of_table e = (number_holds bindings number (unmet _ empty [] e).0, ready.playable.taken)
  ready_may pictures table home actor bindings view (step.Buffer number layer name) ready of_table e =
      let so = moves_so pictures table home actor bindings view (step.Buffer number layer name) ready number layer name e in
      (so.0, so.1, ready.playable.ranges.1.low, frames_there pictures table home actor bindings view (step.Buffer number layer name) ready number)
  ready_may pictures table home actor bindings view (step.Merge number other) ready of_table e =
      let so = merges_so pictures table home actor bindings view (step.Merge number other) ready number other e in
      (so.0, so.1, so.2, frames_there pictures table home actor bindings view (step.Merge number other) ready number, frames_there pictures table home actor bindings view (step.Merge number other) ready other)

  -- and so a step may be tried
  pub may_try : (pictures : ℕ → Picture) (table : TableId) (home : DeskHome) (actor : ActorOf B) (bindings : Bindings B) (view : DeskView B) (s : Step) → IsReady pictures home actor bindings view s → AreOfTable table bindings → refusal_of pictures (holdings_of bindings) s ≡ None → MayAct pictures table home s bindings
  may_try pictures table home actor bindings view s ready of_table e = ready_may pictures table home actor bindings view s ready of_table (untested pictures (holdings_of bindings) s e)

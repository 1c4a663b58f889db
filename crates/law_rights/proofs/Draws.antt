-- Tries of draws.
use Rattle.std.proofs.Common.{◌≡◌, ℕ, ◌+◌, ◌<◌, ◌≤◌, List, [], ◌∷◌, ◌++◌, suc, zero, arith, ap, ◌∙◌, sym, refl, inl, inr, subst, length, get_or, set, Option, Some, None}
use Rattle.std.specs.Prelude.{Contains}
use Rattle.std.specs.List.{flat_map, sum_by}
use Rattle.std.specs.Option.{option_map}
use Rattle.sf_base.specs.Fences.{Fence}
use Rattle.sf_base.specs.declared.fences.Seen.{Seen}
use Rattle.sf_actor_set.specs.sf_picture.declared.picture.Picture.{Picture}
use Rattle.sf_actor_set.specs.sf_script_scene.declared.step.Step.TheVariants as step
use Rattle.sf_actor_set.specs.sf_surface.declared.work.Work.{Work}
use Rattle.sf_actor_set.specs.sf_surface.declared.work.Work.TheVariants as work
use Rattle.sf_actor_set.specs.sf_surface.Drawing.{Enters, MustWait, Passes, drawn_with}
use Rattle.sf_actor_set.specs.sf_surface.Tokens.{OwingOf, WriteLeaseOf}
use Rattle.sf_slots.specs.declared.slot.Held.{Held}
use Rattle.sf_actor_set.specs.sf_turns.Views.{SeatView}
use Rattle.sf_actor_set.specs.sf_actor.declared.done.Answered.{Answered}
use Rattle.sf_actor_set.specs.sf_actor.declared.done.Answered.TheVariants as answered
use Rattle.sf_actor_set.specs.sf_actor.declared.holding.Holding.{Holding}
use Rattle.sf_actor_set.specs.sf_actor.declared.holding.Holding.TheVariants as holding
use Rattle.sf_actor_set.specs.sf_actor.Desks.{DeskHome, DeskView}
use Rattle.sf_actor_set.specs.sf_actor.Holdings.{token_of}
use Rattle.sf_actor_set.specs.sf_actor.Rights.{Turn, issued_turn}
use Rattle.sf_actor_set.specs.sf_actor.Written as written
use Rattle.sf_actor_set.specs.sf_actor_steps.declared.bindings.Bindings.{Bindings}
use Rattle.sf_actor_set.specs.sf_actor_steps.declared.tried.Tried.{Tried}
use Rattle.sf_actor_set.specs.sf_actor_steps.declared.tried.Tried.TheVariants as tried
use Rattle.sf_actor_set.specs.sf_actor_steps.Actors.{parts_of}
use Rattle.sf_actor_set.specs.sf_actor_steps.Calling.{with_held}
use Rattle.sf_actor_set.specs.sf_actor_steps.Drawing.{Draws, DrawsHolding, WaitsToDraw, filled}
use Rattle.sf_actor_set.specs.sf_actor_steps.Bindings.{holdings_of}
use Rattle.sf_actor_set.proofs.sf_actor_steps_lemmas.HoldingLemmas.{name_in-held}
use Rattle.law_played.proofs.Members.{has_map}
use Rattle.law_rights.specs.Ledgers.{IsLedger, Write}
use Rattle.law_rights.specs.Makers.{RightAt, WriteAt, place_of, place_owed, places_arrived, places_held, places_of, places_out, places_owed}
use Rattle.law_rights.specs.Moves.{AreIn, Gets, HasAtMost}
use Rattle.law_rights.specs.States.{State, ledger_of}
use Rattle.law_rights.specs.Tries.{AnswersAs, TriesIn, WritesTry}
use Rattle.law_rights.proofs.ActorChanges.{held_sum, none_sent, owed_lose, owed_there, written_get}
use Rattle.law_rights.proofs.TurnCounts.{first, none_in}
use Rattle.law_rights.proofs.BindingChanges.{set_most, set_none, weight_is}
use Rattle.law_rights.proofs.MakersTurns.{write_at}
use Rattle.law_rights.proofs.QueueCounts.{in_all}
use Rattle.law_rights.proofs.OwedDrawings.{gets_push, gets_same, gets_set, loses_set, bindings_owe, got_there}
use Rattle.law_rights.proofs.PlaceChanges.{Went, owed_in, owed_writes, rest_turns, rests_went}
use Rattle.law_rights.proofs.Quiet.{bindings_only, rests_keeps, same_bindings}
use Rattle.law_rights.proofs.SilentSteps.{pay_keeps}
use Rattle.law_rights.proofs.CallTryLedger.{bindings_weight}

-- a token is put back where it was
put_back : {A : Type 0} (xs : List (Option A)) (i : ℕ) (y : A) → get_or xs i None ≡ Some y → set (set xs i None) i (Some y) ≡ xs
put_back [] i y there = refl
put_back (x ∷ xs) zero y there = ap (λ z. z ∷ xs) (sym there)
put_back (x ∷ xs) (suc i) y there = ap (λ zs. x ∷ zs) (put_back xs i y there)

-- and another one in its place
put_other : {A : Type 0} (xs : List (Option A)) (i : ℕ) (y : Option A) → set (set xs i None) i y ≡ set xs i y
put_other [] i y = refl
put_other (x ∷ xs) zero y = refl
put_other (x ∷ xs) (suc i) y = ap (λ zs. x ∷ zs) (put_other xs i y)

within : {A : Type 0} (xs : List (Option A)) (i : ℕ) (y : A) → get_or xs i None ≡ Some y → i < length xs
within [] i y there = absurd (cc (there))
within (x ∷ xs) zero y there = omega arith
within (x ∷ xs) (suc i) y there = let rest = within xs i y there in omega (arith, rest)

-- a look or a draw that ends no turn leaves those that left
enters_left : (done : Work) (fence : Fence) (seen : Seen) (old new : SeatView) → Enters done fence seen old new → new.leaves ≡ old.leaves
enters_left (work.Fresh turn) fence seen old new enters = ap (λ (v : SeatView). v.leaves) enters.1.1.0
enters_left (work.Drawn inside pixels) fence seen old new same = ap (λ (v : SeatView). v.leaves) same

waits_left : (fence : Fence) (seen : Seen) (buffer number : ℕ) (old new : SeatView) → MustWait fence seen buffer number old new → new.leaves ≡ old.leaves
waits_left fence seen buffer number old new (inl unmet) = ap (λ (v : SeatView). v.leaves) unmet.1
waits_left fence seen buffer number old new (inr short) = ap (λ (v : SeatView). v.leaves) short.1.1.0

work_waits : (done : Work) (fence : Fence) (seen : Seen) (old new : SeatView) → Rattle.sf_actor_set.specs.sf_surface.Drawing.Waits done fence seen old new → new.leaves ≡ old.leaves
work_waits (work.Fresh turn) fence seen old new waits = waits_left fence seen turn.buffer turn.number old new waits
work_waits (work.Drawn inside pixels) fence seen old new none = absurd none

passes_left : (buffer number : ℕ) (old new : SeatView) → Passes buffer number old new → Gets old.leaves ((buffer, number) ∷ []) new.leaves
passes_left buffer number old new passes =
    let entered : passes.0.leaves ≡ old.leaves = ap (λ (v : SeatView). v.leaves) passes.1.1.0 in
    let left : new.leaves ≡ passes.0.leaves ++ (buffer, number) ∷ [] = ap (λ (v : SeatView). v.leaves) passes.2.1 in
    subst (λ (xs : List Turn). Gets old.leaves ((buffer, number) ∷ []) xs) (sym (left ∙ ap (λ (xs : List Turn). xs ++ (buffer, number) ∷ []) entered)) (gets_push old.leaves (buffer, number))

module _ {B : Type 0} where
  pub draw_waits : (picture : Picture) (seen : Seen) (held : Holding B) (old new : SeatView) → WaitsToDraw picture seen held old new → new.leaves ≡ old.leaves
  draw_waits picture seen (holding.Lends lease) old new waits = work_waits lease.work lease.fence seen old new waits.2
  draw_waits picture seen (holding.Owes owing held) old new waits = waits_left owing.fence seen owing.turn.buffer owing.turn.number old new waits.2
  draw_waits picture seen (holding.Reads lease) old new none = absurd none
  draw_waits picture seen (holding.Frees queue loose) old new none = absurd none

  -- what a draw writes
  pub draw_writes : (before : Bindings B) (name p : ℕ) (held : Holding B) → get_or before.names name None ≡ Some held → written.written_by (holdings_of before) (step.Draw name p) (answered.Own 0) ≡ written.paid_frame (Some (token_of held))
  draw_writes before name p held there = ap written.paid_frame (name_in-held before name ∙ ap (option_map token_of) there)

module _ {B : Type 0} (pictures : ℕ → Picture) (home : DeskHome) (place name p : ℕ) where
  module _ (came_to : Tried) (before after : Bindings B) (old new : State B) (tries : TriesIn pictures home place (step.Draw name p) came_to before after old new) where
    -- what the trace says where the actor answered itself
    own_told : (status : ℕ) → came_to ≡ tried.Own status
        → (answer : Answered) × (written.written_in tries.is.trace ≡ written.written_in tries.was.trace ++ written.written_by (holdings_of before) (step.Draw name p) answer) × (answer ≡ answered.Own status)
    own_told status came = subst (λ (c : Tried). WritesTry home before.by.0 (length tries.was.trace + 1) (step.Draw name p) (holdings_of before) old new tries.was.trace tries.is.trace c) came tries.writes

    own_answer : (status : ℕ) → came_to ≡ tried.Own status → (answer : Answered) → AnswersAs home before.by.0 (length tries.was.trace + 1) (step.Draw name p) (holdings_of before) old new came_to answer → answer ≡ answered.Own status
    own_answer status came answer told = subst (λ (c : Tried). AnswersAs home before.by.0 (length tries.was.trace + 1) (step.Draw name p) (holdings_of before) old new c answer) came told

    -- a picture is drawn in a lease
    draws_lease : (lease : WriteLeaseOf) (picture : Picture) → came_to ≡ tried.Own 0 → new.view.calls ≡ old.view.calls → new.view.arrivals ≡ old.view.arrivals → new.view.turns.leaves ≡ old.view.turns.leaves
        → get_or before.names name None ≡ Some (holding.Lends lease) → after ≡ with_held (with_held before name None) name (Some (holding.Lends (drawn_with lease picture))) → IsLedger (ledger_of old) → Went (step.Draw name p) before (length tries.was.trace + 1) old new
    draws_lease lease picture came calls arrivals leaves there same is = rests_keeps pictures home place (step.Draw name p) came_to before after old new tries (record {
      calls = calls;
      leaves = leaves;
      held = bindings_only pictures home place (step.Draw name p) came_to before after old new tries arrivals less;
      owed = subst (λ (bindings : Bindings B). Gets (bindings_owe before) [] (bindings_owe bindings)) (sym same) owes;
      answers = λ answer told. ap (written.written_by (holdings_of before) (step.Draw name p)) (own_answer 0 came answer told) ∙ draw_writes before name p (holding.Lends lease) there;
    }) is
      where
        drawn : Bindings B
        drawn = with_held (with_held before name None) name (Some (holding.Lends (drawn_with lease picture)))

        less : (w : RightAt → ℕ) → sum_by w (places_held (parts_of after)) ≤ sum_by w (places_held (parts_of before))
        less w =
            let none = set_none (λ (held : Option (Holding B)). sum_by w (place_of held)) before.names name (holding.Lends lease) there in
            let most = set_most (λ (held : Option (Holding B)). sum_by w (place_of held)) (set before.names name None) name (Some (holding.Lends (drawn_with lease picture))) in
            let a = weight_is w before in
            let b = weight_is w drawn in
            let c = bindings_weight w before in
            let d = bindings_weight w drawn in
            let e = ap (λ (bindings : Bindings B). sum_by w (places_held (parts_of bindings))) same in
            omega (arith, none, most, a, b, c, d, e)

        owes : Gets (bindings_owe before) [] (bindings_owe drawn)
        owes = subst (λ (names : List (Option (Holding B))). Gets (bindings_owe before) [] (flat_map place_owed names)) (sym (put_other before.names name (Some (holding.Lends (drawn_with lease picture)))))
            (gets_set place_owed [] before.names name None (Some (holding.Lends (drawn_with lease picture))) (within before.names name (holding.Lends lease) there)
            (subst (λ (xs : List WriteAt). Gets xs [] []) (sym (ap place_owed there)) (gets_same [])))

    -- what was owed is drawn
    draws_owed : (owing : OwingOf) (held : Held) → came_to ≡ tried.Own 0 → new.view.calls ≡ old.view.calls → new.view.arrivals ≡ old.view.arrivals → Gets old.view.turns.leaves (issued_turn owing.turn ∷ []) new.view.turns.leaves
        → get_or before.names name None ≡ Some (holding.Owes owing held) → after ≡ with_held before name None → IsLedger (ledger_of old) → Went (step.Draw name p) before (length tries.was.trace + 1) old new
    draws_owed owing held came calls arrivals left there same is = rests_went (step.Draw name p) before (length tries.was.trace + 1) old new marks calls keeps lose.0 (pay_keeps old new write.write (record {
      marks = marks;
      calls = calls;
      held = rest_turns old new keeps;
      was_owed = subst (λ (xs : List Write). Contains xs write.write) (owed_writes old) (has_map write_at (places_of old).owed write (owed_there pictures home place (step.Draw name p) came_to before after old new tries write was_owed));
      owed = owed_in old new [] lose.0;
      unpaid = owed_in new old (write ∷ []) lose.1;
      left = left;
      written = written_get pictures home place (step.Draw name p) came_to before after old new tries (write.write.frame ∷ [])
          (subst (λ (xs : List written.FrameNumber). Gets (written.written_in tries.was.trace) (write.write.frame ∷ []) xs) (sym writes) (gets_push (written.written_in tries.was.trace) write.write.frame));
    }) is)
      where
        marks : new.marks ≡ old.marks
        marks = tries.marks_new ∙ sym tries.marks_old

        write : WriteAt
        write = record { write = record { turn = issued_turn owing.turn; frame = (owing.queue, owing.frame) }; number = held.number }

        low : name < length before.names
        low = within before.names name (holding.Owes owing held) there

        was_owed : Contains (places_owed (parts_of before)) write
        was_owed = in_all place_owed before.names (get_or before.names name None) write (got_there before.names name None low) (subst (λ (xs : List WriteAt). Contains xs write) (sym (ap place_owed there)) (first write []))

        loses : AreIn (flat_map place_owed (set before.names name None)) (flat_map place_owed before.names) × AreIn (flat_map place_owed before.names) ((write ∷ []) ++ flat_map place_owed (set before.names name None))
        loses = loses_set place_owed (write ∷ []) before.names name None None low (λ x none. absurd (none_in x none))
            (subst (λ (xs : List WriteAt). AreIn xs ((write ∷ []) ++ [])) (sym (ap place_owed there)) (λ x there. there))

        lose : AreIn (places_of new).owed (places_of old).owed × AreIn (places_of old).owed ((write ∷ []) ++ (places_of new).owed)
        lose = owed_lose pictures home place (step.Draw name p) came_to before after old new tries (write ∷ [])
            (subst (λ (bindings : Bindings B). AreIn (places_owed (parts_of bindings)) (places_owed (parts_of before))) (sym same) loses.0)
            (subst (λ (bindings : Bindings B). AreIn (places_owed (parts_of before)) ((write ∷ []) ++ places_owed (parts_of bindings))) (sym same) loses.1)

        keeps : HasAtMost (places_out old) [] [] (places_out new)
        keeps w =
            let all = held_sum pictures home place (step.Draw name p) came_to before after old new tries w in
            let nothing = ap (λ xs. sum_by w (flat_map places_arrived xs)) (none_sent pictures home place (step.Draw name p) came_to before after old new tries arrivals) in
            let none = set_none (λ (held : Option (Holding B)). sum_by w (place_of held)) before.names name (holding.Owes owing held) there in
            let a = weight_is w before in
            let b = weight_is w (with_held before name None) in
            let c = bindings_weight w before in
            let d = bindings_weight w (with_held before name None) in
            let e = ap (λ (bindings : Bindings B). sum_by w (places_held (parts_of bindings))) same in
            omega (arith, all, nothing, none, a, b, c, d, e)

        told : (answer : Answered) × (written.written_in tries.is.trace ≡ written.written_in tries.was.trace ++ written.written_by (holdings_of before) (step.Draw name p) answer) × (answer ≡ answered.Own 0)
        told = own_told 0 came

        writes : written.written_in tries.is.trace ≡ written.written_in tries.was.trace ++ write.write.frame ∷ []
        writes = told.1
            ∙ ap (λ (xs : List written.FrameNumber). written.written_in tries.was.trace ++ xs)
            (ap (written.written_by (holdings_of before) (step.Draw name p)) told.2 ∙ draw_writes before name p (holding.Owes owing held) there)

  -- a draw, by what came of it
  draws_done : (came_to : Tried) (before after : Bindings B) (old new : State B) (tries : TriesIn pictures home place (step.Draw name p) came_to before after old new) (seen : Seen) (looked : DeskView B) (held : Holding B) (left : Option (Holding B)) (picture : Picture)
      → came_to ≡ tried.Own 0 → looked.calls ≡ old.view.calls → looked.arrivals ≡ old.view.arrivals → looked.turns.leaves ≡ old.view.turns.leaves → new.view ≡ record looked { turns = new.view.turns }
      → get_or before.names name None ≡ Some held → DrawsHolding picture seen held left looked.turns new.view.turns → after ≡ filled (with_held before name None) name left → IsLedger (ledger_of old) → Went (step.Draw name p) before (length tries.was.trace + 1) old new
  draws_done came_to before after old new tries seen looked (holding.Lends lease) left picture came calls arrivals leaves turns there draws same is =
      draws_lease came_to before after old new tries lease picture came (ap (λ (view : DeskView B). view.calls) turns ∙ calls) (ap (λ (view : DeskView B). view.arrivals) turns ∙ arrivals)
      (enters_left lease.work lease.fence seen looked.turns new.view.turns draws.1.2 ∙ leaves) there
      (same ∙ ap (filled (with_held before name None) name) (draws.2 ∙ ap (λ (given : WriteLeaseOf). Some (holding.Lends given)) draws.1.1)) is
  draws_done came_to before after old new tries seen looked (holding.Owes owing held) left picture came calls arrivals leaves turns there draws same is =
      draws_owed came_to before after old new tries owing held came (ap (λ (view : DeskView B). view.calls) turns ∙ calls) (ap (λ (view : DeskView B). view.arrivals) turns ∙ arrivals)
      (subst (λ xs. Gets xs (issued_turn owing.turn ∷ []) new.view.turns.leaves) leaves (passes_left owing.turn.buffer owing.turn.number looked.turns new.view.turns draws.0.2)) there
      (same ∙ ap (filled (with_held before name None) name) draws.1) is
  draws_done came_to before after old new tries seen looked (holding.Reads lease) left picture came calls arrivals leaves turns there draws same is = absurd draws
  draws_done came_to before after old new tries seen looked (holding.Frees queue loose) left picture came calls arrivals leaves turns there draws same is = absurd draws

  pub draws_keep : (came_to : Tried) (before after : Bindings B) (old new : State B) (tries : TriesIn pictures home place (step.Draw name p) came_to before after old new)
      → Draws home name (pictures p) before after old.view new.view came_to → IsLedger (ledger_of old) → Went (step.Draw name p) before (length tries.was.trace + 1) old new
  draws_keep (tried.Called status values) before after old new tries draws is = absurd draws.tries
  draws_keep (tried.Sent number) before after old new tries draws is = absurd draws.tries
  draws_keep (tried.Own status) before after old new tries draws is =
      draws_done (tried.Own status) before after old new tries draws.seen draws.looked draws.held draws.tries.1 (pictures p) (ap tried.Own draws.tries.0)
      (ap (λ (view : DeskView B). view.calls) draws.times) (ap (λ (view : DeskView B). view.arrivals) draws.times) (ap (λ (view : DeskView B). view.turns.leaves) draws.times) draws.turns
      draws.there draws.tries.2 draws.tries.3 is
  draws_keep tried.NotYet before after old new tries draws is =
      same_bindings pictures home place (step.Draw name p) tried.NotYet before after old new tries
      (ap (λ (view : DeskView B). view.calls) draws.turns ∙ ap (λ (view : DeskView B). view.calls) draws.times)
      (draw_waits (pictures p) draws.seen draws.held draws.looked.turns new.view.turns draws.tries.0 ∙ ap (λ (view : DeskView B). view.turns.leaves) draws.times)
      (ap (λ (view : DeskView B). view.arrivals) draws.turns ∙ ap (λ (view : DeskView B). view.arrivals) draws.times)
      (draws.tries.1 ∙ ap (λ (names : List (Option (Holding B))). record before { names = names }) (put_back before.names name draws.held draws.there))
      (λ answer none. absurd none) is

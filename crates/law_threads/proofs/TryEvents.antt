-- What a done try comes to, as an event of its actor.
use Rattle.std.proofs.Common.{◌≡◌, ℕ, ◌+◌, ◌≤◌, List, [], ◌∷◌, ◌++◌, arith, ap, ◌∙◌, sym, refl, inl, inr, subst, length, map, get_or, Option, Some, None}
use Rattle.std.specs.Prelude.{Contains}
use Rattle.std.specs.List.{sum_by}
use Rattle.std.proofs.lemmas.Bool.{cases_eq}
use Rattle.std.proofs.lemmas.List.{append-nil}
use Rattle.sf_base.specs.Fences.{Fence}
use Rattle.law_draws.specs.sf_calls.Histories.{GoesOnWithout}
use Rattle.sf_script_scene.specs.sf_picture.declared.picture.Picture.{Picture}
use Rattle.sf_script_scene.specs.declared.step.Step.{Step}
use Rattle.sf_script_scene.specs.declared.step.Step.TheVariants as step
use Rattle.law_draws.specs.sf_surface.Histories.{Made}
use Rattle.law_draws.specs.sf_surface.Tokens.{OwingOf, ReadLeaseOf, WriteLeaseOf}
use Rattle.law_draws.specs.sf_slots.declared.slot.Held.{Held}
use Rattle.law_draws.specs.sf_actor.declared.done.Answered.{Answered}
use Rattle.law_draws.specs.sf_actor.declared.done.Answered.TheVariants as answered
use Rattle.law_draws.specs.sf_actor.declared.done.Done.{Done}
use Rattle.law_draws.specs.sf_actor.declared.holding.Holding.{Holding}
use Rattle.law_draws.specs.sf_actor.declared.holding.Holding.TheVariants as holding
use Rattle.law_draws.specs.sf_actor.Desks.{ChangesTimes, DeskHome, DeskView}
use Rattle.law_draws.specs.sf_actor.Holdings.{HoldingsOf, token_of}
use Rattle.law_draws.specs.sf_actor.Rights.{Turn, issued_turn}
use Rattle.law_draws.specs.sf_actor.Tests.{refusal_of}
use Rattle.law_draws.specs.sf_actor.Tries.{ActorOf, ended_by, held_in, owed_turn}
use Rattle.law_draws.specs.sf_actor.Written as written
use Rattle.law_draws.specs.sf_actor_steps.declared.bindings.Bindings.{Bindings}
use Rattle.law_draws.specs.sf_actor_steps.declared.tried.Tried.{Tried}
use Rattle.law_draws.specs.sf_actor_steps.declared.tried.Tried.TheVariants as tried
use Rattle.law_draws.specs.sf_actor_steps.Doing.{MakesCall}
use Rattle.law_draws.specs.sf_actor_steps.Drawing.{Draws}
use Rattle.law_draws.specs.sf_actor_steps.Bindings.{holdings_of}
use Rattle.law_draws.specs.sf_actor_steps.Leaving.{FindsOpen, LooksFor}
use Rattle.law_draws.specs.law_rights.Makers.{RightAt, places_held, places_owed, right_read}
use Rattle.law_draws.specs.law_rights.Moves.{AreIn, Gets}
use Rattle.law_draws.proofs.law_rights_lemmas.Draws.{draw_waits, draw_writes}
use Rattle.law_draws.proofs.law_rights_lemmas.OwedDrawings.{gets_push, gets_same, bindings_owe}
use Rattle.law_threads.specs.Cuts.{Lifts, Whole, state_at}
use Rattle.law_threads.specs.Lifts.{Comes, LearnsOnly, local_of}
use Rattle.law_threads.specs.Lifts.Comes.{Quietly}
use Rattle.law_threads.specs.Tries.{DoesTry}
use Rattle.law_draws.specs.law_rights.States.{State}
use Rattle.law_threads.proofs.LedgerViews.{GoesKept}
use Rattle.law_threads.proofs.SilentLift.{pay_goes, quiet_goes}
use Rattle.law_threads.proofs.Quiets.{Drew, BindingsPay, BindingsRest, drawn_back, drew, same_rest, waits_rest, write_of}
use Rattle.law_threads.proofs.Quiets.Drew.{Lease, Paid}
use Rattle.law_threads.proofs.TryWrites.{done_is, does_write, nothing_written, unrefused}

pub goes_same : {B : Type 0} (by : ℕ) (xs ys : List (Made B)) → ys ≡ xs → GoesOnWithout by xs ys
goes_same by xs ys same = subst (GoesOnWithout by xs) (sym same) (record { begins = ([], refl); calls = refl })

ends_longer : {A : Type 0} (x : A) (xs : List A) → xs ++ x ∷ [] ≡ xs → ⊥
ends_longer x [] same = absurd (cc same)
ends_longer x (y ∷ xs) same = ends_longer x xs (let rest : xs ++ x ∷ [] ≡ xs = cc in rest)

module _ {B : Type 0} (whole : Whole B) (pictures : ℕ → Picture) (home : DeskHome) (was is : ActorOf B) (s : Step) (before after : Bindings B) (old new : DeskView B) (came_to : Tried)
    (tries : DoesTry pictures home was is s before after old new came_to) (Holds : State B → Type 0) (kept : GoesKept whole Holds was is s before) where
  abbrev by : ℕ
  by = before.by.0

  abbrev number : ℕ
  number = length was.trace + 1

  pub owes_before : bindings_owe before ≡ places_owed was.parts
  owes_before = ap places_owed (sym tries.parts_was)

  pub owes_after : bindings_owe after ≡ places_owed is.parts
  owes_after = ap places_owed (sym tries.parts_is)

  pub rest_lifts : (more : List ReadLeaseOf) → BindingsRest before after more → Gets (written.written_in was.trace) [] (written.written_in is.trace) → Gets old.turns.leaves [] new.turns.leaves
      → Lifts whole Holds (local_of was [] old.turns.leaves) None (local_of is more new.turns.leaves)
  rest_lifts more rest writes ended others later heights next unused holds =
      subst (λ (on : List ReadLeaseOf). Holds (state_at whole heights (others ++ local_of is on new.turns.leaves ∷ later))) (append-nil more)
      (kept others later [] (more ++ []) old.turns.leaves new.turns.leaves [] heights heights (quiet_goes whole s before number was is [] more old.turns.leaves new.turns.leaves less others later heights owed writes ended) holds)
    where
      less : (w : RightAt → ℕ) → sum_by w (places_held is.parts) + sum_by w (map right_read more) ≤ sum_by w (places_held was.parts)
      less w =
          let fewer = rest.less w in
          let a = ap (λ (parts : HoldingsOf B). sum_by w (places_held parts)) tries.parts_was in
          let b = ap (λ (parts : HoldingsOf B). sum_by w (places_held parts)) tries.parts_is in
          omega (arith, fewer, a, b)

      owed : Gets (places_owed was.parts) [] (places_owed is.parts)
      owed = subst (λ xs. Gets xs [] (places_owed is.parts)) owes_before (subst (λ xs. Gets (bindings_owe before) [] xs) owes_after rest.owed)

  pay_lifts : (owing : OwingOf) (held : Held) → BindingsPay before after (write_of owing held) → Gets (written.written_in was.trace) ((owing.queue, owing.frame) ∷ []) (written.written_in is.trace) → Gets old.turns.leaves (issued_turn owing.turn ∷ []) new.turns.leaves
      → Lifts whole Holds (local_of was [] old.turns.leaves) None (local_of is [] new.turns.leaves)
  pay_lifts owing held pay writes ended others later heights next unused holds =
      kept others later [] [] old.turns.leaves new.turns.leaves [] heights heights (pay_goes whole s before number was is [] [] old.turns.leaves new.turns.leaves less others later heights (write_of owing held)
      (subst (λ xs. Contains xs (write_of owing held)) owes_before pay.was_owed)
      (subst (λ xs. AreIn xs (places_owed was.parts)) owes_after (subst (λ xs. AreIn (bindings_owe after) xs) owes_before pay.fewer))
      (subst (λ xs. AreIn xs ((write_of owing held ∷ []) ++ places_owed is.parts)) owes_before (subst (λ xs. AreIn (bindings_owe before) ((write_of owing held ∷ []) ++ xs)) owes_after pay.unpaid))
      writes ended) holds
    where
      less : (w : RightAt → ℕ) → sum_by w (places_held is.parts) + sum_by w (map right_read []) ≤ sum_by w (places_held was.parts)
      less w =
          let fewer = pay.less w in
          let a = ap (λ (parts : HoldingsOf B). sum_by w (places_held parts)) tries.parts_was in
          let b = ap (λ (parts : HoldingsOf B). sum_by w (places_held parts)) tries.parts_is in
          omega (arith, fewer, a, b)

  -- a try that changed bindings alone
  pub rests : BindingsRest before after [] → Gets (written.written_in was.trace) [] (written.written_in is.trace) → new.turns.leaves ≡ old.turns.leaves → LearnsOnly by old new → Comes whole Holds by was is old new
  rests rest writes left learns = Quietly (rest_lifts [] rest writes (subst (λ (xs : List Turn). Gets old.turns.leaves [] xs) (sym left) (gets_same old.turns.leaves))) learns

  pub same_writes : ((answer : Answered) → written.written_by (holdings_of before) s answer ≡ []) → Gets (written.written_in was.trace) [] (written.written_in is.trace)
  same_writes none = subst (λ xs. Gets (written.written_in was.trace) [] xs) (sym (nothing_written pictures home was is s before after old new came_to tries none)) (gets_same (written.written_in was.trace))

  pub same_view : new ≡ old → LearnsOnly by old new
  same_view same = record { calls = λ queue. goes_same by (old.calls queue) (new.calls queue) (ap (λ (view : DeskView B). view.calls queue) same); arrivals = ap (λ (view : DeskView B). view.arrivals) same }

  looks_only : ChangesTimes old new → LearnsOnly by old new
  looks_only same = record { calls = λ queue. goes_same by (old.calls queue) (new.calls queue) (ap (λ (view : DeskView B). view.calls queue) same); arrivals = ap (λ (view : DeskView B). view.arrivals) same }

  -- a call that waits
  pub waits_comes : ((answer : Answered) → written.written_by (holdings_of before) s answer ≡ []) → refusal_of pictures (holdings_of before) s ≡ None → (from : DeskView B) → from.calls ≡ old.calls → from.arrivals ≡ old.arrivals
      → from.turns.leaves ≡ old.turns.leaves → MakesCall pictures home by number s before after from new tried.NotYet → Comes whole Holds by was is old new
  waits_comes none unrefused from calls arrivals left makes =
      rests (waits_rest pictures s before makes.taken after makes.asking makes.forms unrefused tries.ranges tries.wide makes.tries.bindings) (same_writes none)
      (ap (λ (view : DeskView B). view.turns.leaves) makes.tries.waits.changes.same ∙ left)
      (record { calls = goes; arrivals = ap (λ (view : DeskView B). view.arrivals) makes.tries.waits.changes.same ∙ arrivals })
    where
      goes : (queue : ℕ) → GoesOnWithout by (old.calls queue) (new.calls queue)
      goes queue = elim (cases_eq queue makes.asking.queue.0) [
        | inl same ↦ subst (λ (q : ℕ). GoesOnWithout by (old.calls q) (new.calls q)) (sym same) (subst (λ (cs : ℕ → List (Made B)). GoesOnWithout by (cs makes.asking.queue.0) (new.calls makes.asking.queue.0)) calls makes.tries.waits.goes_on)
        | inr apart ↦ goes_same by (old.calls queue) (new.calls queue) (makes.tries.waits.changes.others queue apart ∙ ap (λ (cs : ℕ → List (Made B)). cs queue) calls)
      ]

  pub finds_times : (fence : Option Fence) → FindsOpen home fence old new → ChangesTimes old new
  finds_times None none = absurd none
  finds_times (Some fence) finds = finds.3

  pub looked_calls : (looked : DeskView B) (fence : Option Fence) → LooksFor home fence old looked → (looked.calls ≡ old.calls) × (looked.arrivals ≡ old.arrivals) × (looked.turns.leaves ≡ old.turns.leaves)
  looked_calls looked None same = (ap (λ (view : DeskView B). view.calls) same, ap (λ (view : DeskView B). view.arrivals) same, ap (λ (view : DeskView B). view.turns.leaves) same)
  looked_calls looked (Some fence) looks = (ap (λ (view : DeskView B). view.calls) looks.3, ap (λ (view : DeskView B). view.arrivals) looks.3, ap (λ (view : DeskView B). view.turns.leaves) looks.3)

  pub times_comes : ((answer : Answered) → written.written_by (holdings_of before) s answer ≡ []) → after ≡ before → ChangesTimes old new → Comes whole Holds by was is old new
  times_comes none same times = rests (same_rest before after same) (same_writes none) (ap (λ (view : DeskView B). view.turns.leaves) times) (looks_only times)

  pub edits_comes : ((answer : Answered) → written.written_by (holdings_of before) s answer ≡ []) → BindingsRest before after [] → new ≡ old → Comes whole Holds by was is old new
  edits_comes none rest same = rests rest (same_writes none) (ap (λ (view : DeskView B). view.turns.leaves) same) (same_view same)

module _ {B : Type 0} (whole : Whole B) (pictures : ℕ → Picture) (home : DeskHome) (was is : ActorOf B) (before after : Bindings B) (old new : DeskView B) (Holds : State B → Type 0)
    (kept : (s : Step) (came_to : Tried) → DoesTry pictures home was is s before after old new came_to → GoesKept whole Holds was is s before) where
  -- a draw
  module _ (name p : ℕ) (came_to : Tried) (tries : DoesTry pictures home was is (step.Draw name p) before after old new came_to) (none : refusal_of pictures (holdings_of before) (step.Draw name p) ≡ None) where
    told : tries.does.done.answered ≡ answered.Own 0
    told = (unrefused pictures home was is (step.Draw name p) before after old new came_to tries none).1

    draw_wrote : (held : Holding B) → get_or before.names name None ≡ Some held
        → written.written_in is.trace ≡ written.written_in was.trace ++ written.paid_frame (Some (token_of held))
    draw_wrote held there =
        does_write pictures home was is (step.Draw name p) before after old new came_to tries
        ∙ ap (λ (a : Answered). written.written_in was.trace ++ written.written_by (holdings_of before) (step.Draw name p) a) told
        ∙ ap (λ xs. written.written_in was.trace ++ xs) (draw_writes before name p held there)

    lease_wrote : (lease : WriteLeaseOf) → get_or before.names name None ≡ Some (holding.Lends lease) → Gets (written.written_in was.trace) [] (written.written_in is.trace)
    lease_wrote lease there = subst (λ xs. Gets (written.written_in was.trace) [] xs) (sym (draw_wrote (holding.Lends lease) there ∙ append-nil (written.written_in was.trace))) (gets_same (written.written_in was.trace))

    owed_wrote : (owing : OwingOf) (held : Held) → get_or before.names name None ≡ Some (holding.Owes owing held) → Gets (written.written_in was.trace) ((owing.queue, owing.frame) ∷ []) (written.written_in is.trace)
    owed_wrote owing held there = subst (λ xs. Gets (written.written_in was.trace) ((owing.queue, owing.frame) ∷ []) xs) (sym (draw_wrote (holding.Owes owing held) there)) (gets_push (written.written_in was.trace) (owing.queue, owing.frame))

    -- what left with it
    drawn_left : (held : Holding B) → get_or before.names name None ≡ Some held → new.turns.leaves ≡ old.turns.leaves ++ owed_turn (Some held)
    drawn_left held there =
        let done : tries.does.done ≡ record { step = step.Draw name p; answered = answered.Own 0 } =
        done_is pictures home was is (step.Draw name p) before after old new came_to tries ∙ ap (λ (a : Answered). record { step = step.Draw name p; answered = a }) told in
        tries.does.ended ∙ ap (λ (d : Done). old.turns.leaves ++ ended_by was.parts d) done
        ∙ ap (λ (o : Option (Holding B)). old.turns.leaves ++ owed_turn o) (ap (λ (parts : HoldingsOf B). held_in parts name) tries.parts_was ∙ there)

    waited_wrote : (held : Holding B) → get_or before.names name None ≡ Some held → new.turns.leaves ≡ old.turns.leaves → Gets (written.written_in was.trace) [] (written.written_in is.trace)
    waited_wrote (holding.Lends lease) there same = lease_wrote lease there
    waited_wrote (holding.Owes owing held) there same = absurd (ends_longer (owing.turn.buffer, owing.turn.number) old.turns.leaves (sym (drawn_left (holding.Owes owing held) there) ∙ same))
    waited_wrote (holding.Reads lease) there same = subst (λ xs. Gets (written.written_in was.trace) [] xs) (sym (draw_wrote (holding.Reads lease) there ∙ append-nil (written.written_in was.trace))) (gets_same (written.written_in was.trace))
    waited_wrote (holding.Frees queue loose) there same = subst (λ xs. Gets (written.written_in was.trace) [] xs) (sym (draw_wrote (holding.Frees queue loose) there ∙ append-nil (written.written_in was.trace))) (gets_same (written.written_in was.trace))

    learns : (draws : Draws home name (pictures p) before after old new came_to) → LearnsOnly before.by.0 old new
    learns draws = record {
      calls = λ queue. goes_same before.by.0 (old.calls queue) (new.calls queue) (ap (λ (view : DeskView B). view.calls queue) draws.turns ∙ ap (λ (view : DeskView B). view.calls queue) draws.times);
      arrivals = ap (λ (view : DeskView B). view.arrivals) draws.turns ∙ ap (λ (view : DeskView B). view.arrivals) draws.times;
    }

    looked_left : (draws : Draws home name (pictures p) before after old new came_to) → draws.looked.turns.leaves ≡ old.turns.leaves
    looked_left draws = ap (λ (view : DeskView B). view.turns.leaves) draws.times

    did_draw : (draws : Draws home name (pictures p) before after old new came_to) → Drew before after name draws.held draws.looked.turns new.turns → Comes whole Holds before.by.0 was is old new
    did_draw draws (Lease lease is_lease rest same) =
        Quietly (rest_lifts whole pictures home was is (step.Draw name p) before after old new came_to tries Holds (kept (step.Draw name p) came_to tries) [] rest (lease_wrote lease (draws.there ∙ ap (λ (h : Holding B). Some h) is_lease))
        (subst (λ (xs : List Turn). Gets old.turns.leaves [] xs) (sym (same ∙ looked_left draws)) (gets_same old.turns.leaves))) (learns draws)
    did_draw draws (Paid owing buffer is_owed pay left) =
        Quietly (pay_lifts whole pictures home was is (step.Draw name p) before after old new came_to tries Holds (kept (step.Draw name p) came_to tries) owing buffer pay (owed_wrote owing buffer (draws.there ∙ ap (λ (h : Holding B). Some h) is_owed))
        (subst (λ (xs : List Turn). Gets xs (issued_turn owing.turn ∷ []) new.turns.leaves) (looked_left draws) left)) (learns draws)

  pub draws_comes : (name p : ℕ) (came_to : Tried) → DoesTry pictures home was is (step.Draw name p) before after old new came_to → refusal_of pictures (holdings_of before) (step.Draw name p) ≡ None
      → Draws home name (pictures p) before after old new came_to → Comes whole Holds before.by.0 was is old new
  draws_comes name p (tried.Called status values) tries none draws = absurd draws.tries
  draws_comes name p (tried.Sent arrival) tries none draws = absurd draws.tries
  draws_comes name p (tried.Own status) tries none draws =
      did_draw name p (tried.Own status) tries none draws (drew before after name (pictures p) draws.seen draws.held draws.tries.1 draws.looked.turns new.turns draws.there draws.tries.2 draws.tries.3)
  draws_comes name p tried.NotYet tries none draws =
      let left : new.turns.leaves ≡ old.turns.leaves = draw_waits (pictures p) draws.seen draws.held draws.looked.turns new.turns draws.tries.0 ∙ looked_left name p tried.NotYet tries none draws in
      rests whole pictures home was is (step.Draw name p) before after old new tried.NotYet tries Holds (kept (step.Draw name p) tried.NotYet tries) (same_rest before after (draws.tries.1 ∙ drawn_back before name draws.held draws.there))
      (waited_wrote name p tried.NotYet tries none draws.held draws.there left) left (learns name p tried.NotYet tries none draws)

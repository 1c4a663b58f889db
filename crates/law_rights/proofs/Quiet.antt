-- A try that makes no call and ends no turn keeps the ledger.
use Rattle.std.proofs.Common.{◌≡◌, ℕ, ◌+◌, ◌≤◌, ◌==◌, false, List, [], ◌++◌, arith, ap, ◌∙◌, sym, inl, inr, subst, length, None}
use Rattle.std.specs.List.{flat_map, sum_by}
use Rattle.std.proofs.lemmas.Bool.{cases_Bool, eq-eqb, eqb-true, false≢true}
use Rattle.std.proofs.lemmas.List.{append-nil}
use Rattle.sf_actor_set.specs.sf_picture.declared.picture.Picture.{Picture}
use Rattle.sf_actor_set.specs.sf_script_scene.declared.step.Step.{Step}
use Rattle.sf_actor_set.specs.sf_surface.Hands.{brought, permit_of}
use Rattle.sf_actor_set.specs.sf_surface.Tokens.{ReadLeaseOf}
use Rattle.sf_actor_set.specs.sf_token.Pending.{Arrival}
use Rattle.sf_actor_set.specs.sf_actor.declared.done.Answered.{Answered}
use Rattle.sf_actor_set.specs.sf_actor.Desks.{DeskHome, DeskView}
use Rattle.sf_actor_set.specs.sf_actor.Rights.{Turn}
use Rattle.sf_actor_set.specs.sf_actor.Tests.{refusal_of}
use Rattle.sf_actor_set.specs.sf_actor.Written as written
use Rattle.sf_actor_set.specs.sf_actor_steps.declared.asking.Asking.{Asking}
use Rattle.sf_actor_set.specs.sf_actor_steps.declared.bindings.Bindings.{Bindings}
use Rattle.sf_actor_set.specs.sf_actor_steps.declared.tried.Tried.{Tried}
use Rattle.sf_actor_set.specs.sf_actor_steps.declared.tried.Tried.TheVariants as tried
use Rattle.sf_actor_set.specs.sf_actor_steps.Actors.{parts_of}
use Rattle.sf_actor_set.specs.sf_actor_steps.Calling.{WaitsToCall, taken_back}
use Rattle.sf_actor_set.specs.sf_actor_steps.Forming.{FormsCall}
use Rattle.sf_actor_set.specs.sf_actor_steps.Bindings.{holdings_of}
use Rattle.law_rights.specs.Ledgers.{IsLedger}
use Rattle.law_rights.specs.Makers.{RightAt, places_arrived, places_held, places_of, places_out}
use Rattle.law_rights.specs.Moves.{Gets, HasAtMost}
use Rattle.law_rights.specs.States.{State, ledger_of}
use Rattle.law_rights.specs.Tries.{AnswersAs, TriesIn, WritesTry}
use Rattle.law_rights.proofs.ActorChanges.{held_sum, none_sent, owed_get, written_get}
use Rattle.law_rights.proofs.ReplyFits.{brought_back, brought_owes_none, fits_back}
use Rattle.law_rights.proofs.FreeNames.{forms_free, forms_owe}
use Rattle.law_rights.proofs.OwedDrawings.{gets_more, gets_same, given_owes, bindings_owe, nothing_owes, owes_at}
use Rattle.law_rights.proofs.BindingChanges.{from_of}
use Rattle.law_rights.proofs.PlaceChanges.{Went, owed_gets, rest_turns, rests_went}
use Rattle.law_rights.proofs.SilentSteps.{quiet_keeps}
use Rattle.law_rights.proofs.CallTryLedger.{FromHere, forms_then}

module _ {B : Type 0} (pictures : ℕ → Picture) (home : DeskHome) (place : ℕ) (s : Step) (came_to : Tried) (before after : Bindings B) (old new : State B) (tries : TriesIn pictures home place s came_to before after old new) where
  abbrev number : ℕ
  number = length tries.was.trace + 1

  pub nothing_written : (answers : (answer : Answered) → AnswersAs home before.by.0 number s (holdings_of before) old new came_to answer → written.written_by (holdings_of before) s answer ≡ []) → written.written_in tries.is.trace ≡ written.written_in tries.was.trace
  nothing_written answers = by_came came_to tries.writes answers
    where
      nothing_more : (answer : Answered) → written.written_in tries.is.trace ≡ written.written_in tries.was.trace ++ written.written_by (holdings_of before) s answer → written.written_by (holdings_of before) s answer ≡ []
          → written.written_in tries.is.trace ≡ written.written_in tries.was.trace
      nothing_more answer writes none = writes ∙ ap (λ (xs : List written.FrameNumber). written.written_in tries.was.trace ++ xs) none ∙ append-nil (written.written_in tries.was.trace)

      by_came : (came : Tried) → WritesTry home before.by.0 number s (holdings_of before) old new tries.was.trace tries.is.trace came
          → ((answer : Answered) → AnswersAs home before.by.0 number s (holdings_of before) old new came answer → written.written_by (holdings_of before) s answer ≡ [])
          → written.written_in tries.is.trace ≡ written.written_in tries.was.trace
      by_came tried.NotYet same answers = same
      by_came (tried.Own status) told answers = nothing_more told.0 told.1 (answers told.0 told.2)
      by_came (tried.Sent n) told answers = nothing_more told.0 told.1 (answers told.0 told.2)
      by_came (tried.Called status values) told answers = nothing_more told.0 told.1 (answers told.0 told.2)

  -- nothing but bindings changed
  pub record Rests : Type 0 where
    pub calls : new.view.calls ≡ old.view.calls
    pub leaves : new.view.turns.leaves ≡ old.view.turns.leaves
    pub held : (w : RightAt → ℕ) → sum_by w (places_held (parts_of after)) + sum_by w (flat_map places_arrived tries.sends) ≤ sum_by w (places_held (parts_of before))
    pub owed : Gets (bindings_owe before) [] (bindings_owe after)
    pub answers : (answer : Answered) → AnswersAs home before.by.0 number s (holdings_of before) old new came_to answer → written.written_by (holdings_of before) s answer ≡ []

  pub rests_keeps : Rests → IsLedger (ledger_of old) → Went s before number old new
  rests_keeps rests is = rests_went s before number old new marks rests.calls held owed.no_others (quiet_keeps old new (record {
    marks = marks;
    calls = rests.calls;
    held = rest_turns old new held;
    owed = owed_gets old new [] owed;
    left = subst (λ (xs : List Turn). Gets old.view.turns.leaves [] xs) (sym rests.leaves) (gets_same old.view.turns.leaves);
    written = written_get pictures home place s came_to before after old new tries []
        (subst (λ (xs : List written.FrameNumber). Gets (written.written_in tries.was.trace) [] xs) (sym (nothing_written rests.answers)) (gets_same (written.written_in tries.was.trace)));
  }) is)
    where
      marks : new.marks ≡ old.marks
      marks = tries.marks_new ∙ sym tries.marks_old

      owed : Gets (places_of old).owed [] (places_of new).owed
      owed = owed_get pictures home place s came_to before after old new tries [] rests.owed

      held : HasAtMost (places_out old) [] [] (places_out new)
      held w =
          let all = held_sum pictures home place s came_to before after old new tries w in
          let bindings = rests.held w in
          omega (arith, all, bindings)

  -- where nothing arrived, only bindings count
  pub bindings_only : new.view.arrivals ≡ old.view.arrivals → ((w : RightAt → ℕ) → sum_by w (places_held (parts_of after)) ≤ sum_by w (places_held (parts_of before)))
      → (w : RightAt → ℕ) → sum_by w (places_held (parts_of after)) + sum_by w (flat_map places_arrived tries.sends) ≤ sum_by w (places_held (parts_of before))
  bindings_only same less w =
      let none = ap (λ (xs : List (Arrival ReadLeaseOf)). sum_by w (flat_map places_arrived xs)) (none_sent pictures home place s came_to before after old new tries same) in
      let one = less w in
      omega (arith, none, one)

  -- nothing changed at all
  pub same_bindings : new.view.calls ≡ old.view.calls → new.view.turns.leaves ≡ old.view.turns.leaves → new.view.arrivals ≡ old.view.arrivals → after ≡ before
      → ((answer : Answered) → AnswersAs home before.by.0 number s (holdings_of before) old new came_to answer → written.written_by (holdings_of before) s answer ≡ []) → IsLedger (ledger_of old) → Went s before number old new
  same_bindings calls leaves arrivals same answers = rests_keeps (record {
    calls = calls;
    leaves = leaves;
    held = bindings_only arrivals (λ w. let e = ap (λ (bindings : Bindings B). sum_by w (places_held (parts_of bindings))) same in omega (arith, e));
    owed = subst (λ (bindings : Bindings B). Gets (bindings_owe before) [] (bindings_owe bindings)) (sym same) (gets_same (bindings_owe before));
    answers = answers;
  })

  -- a call that waits
  pub waits_keeps : (from : DeskView B) (taken : Bindings B) (asking : Asking B) → FromHere pictures home place s came_to before after old new tries from → FormsCall pictures s before taken asking → refusal_of pictures (holdings_of before) s ≡ None
      → WaitsToCall home before.by.0 number asking taken after from new.view
      → ((answer : Answered) → AnswersAs home before.by.0 number s (holdings_of before) old new came_to answer → written.written_by (holdings_of before) s answer ≡ []) → IsLedger (ledger_of old) → Went s before number old new
  waits_keeps from taken asking here forms unrefused waits answers = rests_keeps (record {
    calls = (λ i queue. same_calls queue i) ∙ here.calls;
    leaves = ap (λ (view : DeskView B). view.turns.leaves) waits.waits.changes.same ∙ here.leaves;
    held = bindings_only (ap (λ (view : DeskView B). view.arrivals) waits.waits.changes.same ∙ here.arrivals) less;
    owed = subst (λ (bindings : Bindings B). Gets (bindings_owe before) [] (bindings_owe bindings)) (sym waits.bindings) owes;
    answers = answers;
  })
    where
      same_calls : (queue : ℕ) → new.view.calls queue ≡ from.calls queue
      same_calls queue = elim (cases_Bool (queue == asking.queue.0)) [
        | inl met ↦ subst (λ (q : ℕ). new.view.calls q ≡ from.calls q) (sym (eqb-true queue asking.queue.0 met)) (waits.waits.alone tries.exact)
        | inr unmet ↦ waits.waits.changes.others queue (λ e. apart e unmet)
      ]
        where
          apart : queue ≡ asking.queue.0 → (queue == asking.queue.0) ≡ false → ⊥
          apart e unmet = false≢true (sym unmet ∙ eq-eqb queue asking.queue.0 e)

      less : (w : RightAt → ℕ) → sum_by w (places_held (parts_of after)) ≤ sum_by w (places_held (parts_of before))
      less w =
          let bindings = forms_then w pictures s before taken after asking (brought asking.call) (permit_of asking.call) forms (fits_back asking.homes asking.call) waits.bindings in
          let same = ap (sum_by w) (brought_back (from_of asking) asking.call) in
          omega (arith, bindings, same)

      back : Gets (bindings_owe taken) (owes_at asking.homes (brought asking.call)) (bindings_owe (taken_back asking.homes taken asking.call))
      back = elim (forms_free pictures s before taken asking forms unrefused tries.ranges tries.wide) [
        | inl quiet ↦ nothing_owes asking.homes taken (brought asking.call) (permit_of asking.call) quiet.1
        | inr free ↦ given_owes asking.homes taken (brought asking.call) (permit_of asking.call) free
      ]

      owes : Gets (bindings_owe before) [] (bindings_owe (taken_back asking.homes taken asking.call))
      owes = gets_more (bindings_owe before) [] (bindings_owe taken) (bindings_owe (taken_back asking.homes taken asking.call)) (forms_owe pictures s before taken asking forms)
          (subst (λ xs. Gets (bindings_owe taken) xs (bindings_owe (taken_back asking.homes taken asking.call))) (brought_owes_none asking.homes asking.call) back)

-- Tries of steps that make one call.
use Rattle.std.proofs.Common.{◌≡◌, ℕ, ◌+◌, ◌≤◌, ◌==◌, Bool, true, false, List, [], ◌∷◌, ◌++◌, arith, ap, ◌∙◌, sym, refl, inl, inr, subst, length, map, Option, Some, None}
use Rattle.std.specs.Prelude.{if◌then◌else◌}
use Rattle.std.specs.List.{flat_map, sum_by}
use Rattle.std.proofs.lemmas.Bool.{cases_Bool}
use Rattle.std.proofs.lemmas.List.Sums.{sum_by-append}
use Rattle.sf_actor_set.specs.sf_picture.declared.picture.Picture.{Picture}
use Rattle.sf_actor_set.specs.sf_script_scene.declared.step.Step.{Step}
use Rattle.sf_actor_set.specs.sf_actor.declared.holding.Holding.{Holding}
use Rattle.sf_actor_set.specs.sf_actor.declared.holding.Holding.TheVariants as holding
use Rattle.sf_actor_set.specs.sf_actor.Desks.{DeskHome, DeskView}
use Rattle.sf_actor_set.specs.sf_actor.Tests.{refusal_of}
use Rattle.sf_actor_set.specs.sf_actor_steps.declared.bindings.Bindings.{Bindings}
use Rattle.sf_actor_set.specs.sf_actor_steps.declared.tried.Tried.{Tried}
use Rattle.sf_actor_set.specs.sf_actor_steps.declared.tried.Tried.TheVariants as tried
use Rattle.sf_actor_set.specs.sf_actor_steps.Actors.{parts_of}
use Rattle.sf_actor_set.specs.sf_actor_steps.Doing.{MakesCall}
use Rattle.sf_actor_set.specs.sf_actor_steps.Bindings.{holdings_of}
use Rattle.sf_actor_set.specs.sf_actor_steps.Leaving.{dropped_after, let_go_of, was_ok, without_lent}
use Rattle.law_rights.specs.Ledgers.{IsLedger}
use Rattle.law_rights.specs.Makers.{RightAt, WriteAt, place_of, place_owed, places_held}
use Rattle.law_rights.specs.Moves.{Gets}
use Rattle.law_rights.specs.States.{State, ledger_of}
use Rattle.law_rights.specs.Tries.{TriesIn}
use Rattle.law_rights.proofs.OwedDrawings.{gets_same, bindings_owe}
use Rattle.law_rights.proofs.PlaceChanges.{Went}
use Rattle.law_rights.proofs.Quiet.{waits_keeps}
use Rattle.law_rights.proofs.CallTryLedger.{FromHere, call_done, bindings_weight}

module _ {B : Type 0} where
  here_itself : (pictures : ℕ → Picture) (home : DeskHome) (place : ℕ) (s : Step) (came_to : Tried) (before after : Bindings B) (old new : State B) (tries : TriesIn pictures home place s came_to before after old new) → FromHere pictures home place s came_to before after old new tries old.view
  here_itself pictures home place s came_to before after old new tries = record { calls = refl; leaves = refl; arrivals = refl }

  -- a step's call, behind which something may be dropped
  pub makes_keep : (pictures : ℕ → Picture) (home : DeskHome) (place : ℕ) (s : Step) (came_to : Tried) (before after called : Bindings B) (old new : State B) (tries : TriesIn pictures home place s came_to before after old new) (from : DeskView B)
      → FromHere pictures home place s came_to before after old new tries from → refusal_of pictures (holdings_of before) s ≡ None → MakesCall pictures home before.by.0 (length tries.was.trace + 1) s before called from new.view came_to
      → ((w : RightAt → ℕ) → sum_by w (places_held (parts_of after)) ≤ sum_by w (places_held (parts_of called))) → Gets (bindings_owe called) [] (bindings_owe after) → (came_to ≡ tried.NotYet → called ≡ after)
      → IsLedger (ledger_of old) → Went s before (length tries.was.trace + 1) old new
  makes_keep pictures home place s (tried.Own status) before after called old new tries from here unrefused makes dropped owed waits is = absurd makes.tries
  makes_keep pictures home place s (tried.Sent number) before after called old new tries from here unrefused makes dropped owed waits is = absurd makes.tries
  makes_keep pictures home place s (tried.Called status values) before after called old new tries from here unrefused makes dropped owed waits is =
      call_done pictures home place s (tried.Called status values) before after old new tries from makes.taken called makes.asking makes.tries.0
      (record {
        here = here;
        forms = makes.forms;
        unrefused = unrefused;
        calls = makes.tries.3;
        dropped = dropped;
        owed = owed;
        tells = λ queue asked reply once. (tries.writes.0, tries.writes.1, tries.writes.2 queue asked reply once);
      }) is
  makes_keep pictures home place s tried.NotYet before after called old new tries from here unrefused makes dropped owed waits is =
      let now = subst (λ (bindings : Bindings B). MakesCall pictures home before.by.0 (length tries.was.trace + 1) s before bindings from new.view tried.NotYet) (waits refl) makes in
      waits_keeps pictures home place s tried.NotYet before after old new tries from now.taken now.asking here now.forms unrefused now.tries (λ answer none. absurd none) is

  -- a step that makes its call and nothing else
  pub call_keeps : (pictures : ℕ → Picture) (home : DeskHome) (place : ℕ) (s : Step) (came_to : Tried) (before after : Bindings B) (old new : State B) (tries : TriesIn pictures home place s came_to before after old new)
      → refusal_of pictures (holdings_of before) s ≡ None → MakesCall pictures home before.by.0 (length tries.was.trace + 1) s before after old.view new.view came_to → IsLedger (ledger_of old) → Went s before (length tries.was.trace + 1) old new
  call_keeps pictures home place s came_to before after old new tries unrefused makes is =
      makes_keep pictures home place s came_to before after after old new tries old.view (here_itself pictures home place s came_to before after old new tries) unrefused makes
      (λ w. omega arith) (gets_same (bindings_owe after)) (λ e. refl) is

  -- leases that are let go
  let_go_less : (w : RightAt → ℕ) (queue : ℕ) (held : Option (Holding B)) → sum_by w (place_of (let_go_of queue held)) ≤ sum_by w (place_of held)
  let_go_less w queue None = omega arith
  let_go_less w queue (Some (holding.Lends lease)) = elim (cases_Bool (lease.queue.0 == queue)) [
    | inl met ↦ rw met (omega arith)
    | inr unmet ↦ rw unmet (omega arith)
  ]
  let_go_less w queue (Some (holding.Owes owing held)) = omega arith
  let_go_less w queue (Some (holding.Reads lease)) = omega arith
  let_go_less w queue (Some (holding.Frees last loose)) = omega arith

  let_go_owes : (queue : ℕ) (held : Option (Holding B)) → place_owed (let_go_of queue held) ≡ place_owed held
  let_go_owes queue None = refl
  let_go_owes queue (Some (holding.Lends lease)) = elim (cases_Bool (lease.queue.0 == queue)) [
    | inl met ↦ rw met refl
    | inr unmet ↦ rw unmet refl
  ]
  let_go_owes queue (Some (holding.Owes owing held)) = refl
  let_go_owes queue (Some (holding.Reads lease)) = refl
  let_go_owes queue (Some (holding.Frees last loose)) = refl

  all_less : (w : RightAt → ℕ) (queue : ℕ) (names : List (Option (Holding B))) → sum_by w (flat_map place_of (map (let_go_of queue) names)) ≤ sum_by w (flat_map place_of names)
  all_less w queue [] = omega arith
  all_less w queue (held ∷ names) =
      let rest = all_less w queue names in
      let here = let_go_less w queue held in
      let a = sum_by-append w (place_of held) (flat_map place_of names) in
      let b = sum_by-append w (place_of (let_go_of queue held)) (flat_map place_of (map (let_go_of queue) names)) in
      omega (arith, rest, here, a, b)

  all_owe : (queue : ℕ) (names : List (Option (Holding B))) → flat_map place_owed (map (let_go_of queue) names) ≡ flat_map place_owed names
  all_owe queue [] = refl
  all_owe queue (held ∷ names) = ap (λ (xs : List WriteAt). xs ++ flat_map place_owed (map (let_go_of queue) names)) (let_go_owes queue held) ∙ ap (λ (xs : List WriteAt). place_owed held ++ xs) (all_owe queue names)

  without_less : (w : RightAt → ℕ) (queue : ℕ) (bindings : Bindings B) → sum_by w (places_held (parts_of (without_lent queue bindings))) ≤ sum_by w (places_held (parts_of bindings))
  without_less w queue bindings =
      let names = all_less w queue bindings.names in
      let a = bindings_weight w bindings in
      let b = bindings_weight w (without_lent queue bindings) in
      omega (arith, names, a, b)

  pub dropped_less : (w : RightAt → ℕ) (queue : ℕ) (came_to : Tried) (bindings : Bindings B) → sum_by w (places_held (parts_of (dropped_after queue came_to bindings))) ≤ sum_by w (places_held (parts_of bindings))
  dropped_less w queue came_to bindings = by_ok (was_ok came_to)
    where
      by_ok : (ok : Bool) → sum_by w (places_held (parts_of (if ok then without_lent queue bindings else bindings))) ≤ sum_by w (places_held (parts_of bindings))
      by_ok true = without_less w queue bindings
      by_ok false = omega arith

  pub dropped_owes : (queue : ℕ) (came_to : Tried) (bindings : Bindings B) → Gets (bindings_owe bindings) [] (bindings_owe (dropped_after queue came_to bindings))
  dropped_owes queue came_to bindings = by_ok (was_ok came_to)
    where
      by_ok : (ok : Bool) → Gets (bindings_owe bindings) [] (bindings_owe (if ok then without_lent queue bindings else bindings))
      by_ok true = subst (λ (xs : List WriteAt). Gets (bindings_owe bindings) [] xs) (sym (all_owe queue bindings.names)) (gets_same (bindings_owe bindings))
      by_ok false = gets_same (bindings_owe bindings)

-- Steps that make no call keep a state's ledger.
use Rattle.std.proofs.Common.{◌≡◌, ℕ, List, [], ◌∷◌, arith, ap, ◌∙◌, sym, subst}
use Rattle.std.specs.List.{sum_by}
use Rattle.std.proofs.lemmas.List.Elements.{Contains-append_right}
use Rattle.std.proofs.lemmas.List.Sums.{sum_by-append}
use Rattle.sf_actor_set.specs.sf_surface.declared.mark.QueueMark.{QueueMark}
use Rattle.sf_actor_set.specs.sf_surface.Histories.{Made}
use Rattle.sf_actor_set.specs.sf_actor.Rights.{Turn}
use Rattle.law_rights.specs.Ledgers.{IsLedger, Write}
use Rattle.law_rights.specs.Moves.{Gets, HasAtMost, Goes, Ends, Pays, turn_after}
use Rattle.law_rights.specs.States.{State, all_buffers, all_lying, all_writes, ledger_of, rights_held}
use Rattle.law_rights.specs.Steps.{EndStep, PayStep, QuietStep}
use Rattle.law_rights.proofs.TurnCounts.{none_in}
use Rattle.law_rights.proofs.MoveKeepsLedger.{move_keeps}
use Rattle.law_rights.proofs.OwedDrawings.{gets_same}

module _ {B : Type 0} where
  -- what is told of the same calls on the same queues is the same
  same_told : {A : Type 0} (told : List QueueMark → (ℕ → List (Made B)) → List A) (old new : State B) → new.marks ≡ old.marks → new.view.calls ≡ old.view.calls → told new.marks new.view.calls ≡ told old.marks old.view.calls
  same_told told old new marks calls = ap (λ (ms : List QueueMark). told ms new.view.calls) marks ∙ ap (told old.marks) calls

  gets_told : {A : Type 0} (told : List QueueMark → (ℕ → List (Made B)) → List A) (old new : State B) → new.marks ≡ old.marks → new.view.calls ≡ old.view.calls → Gets (told old.marks old.view.calls) [] (told new.marks new.view.calls)
  gets_told {A} told old new marks calls = subst (λ (xs : List A). Gets (told old.marks old.view.calls) [] xs) (sym (same_told told old new marks calls)) (gets_same (told old.marks old.view.calls))

  live_moves : (old new : State B) (used given : List Turn) → new.marks ≡ old.marks → new.view.calls ≡ old.view.calls → HasAtMost (rights_held old) used given (rights_held new) → HasAtMost (ledger_of old).live used given (ledger_of new).live
  live_moves old new used given marks calls held w =
      let bound = held w in
      let a = ap (sum_by w) (same_told all_lying old new marks calls) in
      let b = sum_by-append w (all_lying old.marks old.view.calls) (rights_held old) in
      let c = sum_by-append w (all_lying new.marks new.view.calls) (rights_held new) in
      omega (arith, bound, a, b, c)

  pub quiet_keeps : (old new : State B) → QuietStep old new → IsLedger (ledger_of old) → IsLedger (ledger_of new)
  quiet_keeps old new step is = move_keeps Goes (ledger_of old) (ledger_of new) is tt (record {
    live = live_moves old new [] [] step.marks step.calls step.held;
    owed = step.owed.no_others;
    unpaid = step.owed.all;
    owes = λ write none. absurd (none_in write none);
    queued = gets_told all_writes old new step.marks step.calls;
    left = step.left;
    written = step.written;
    made = gets_told all_buffers old new step.marks step.calls;
  })

  pub end_keeps : (old new : State B) (turn : Turn) → EndStep old new turn → IsLedger (ledger_of old) → IsLedger (ledger_of new)
  end_keeps old new turn step is = move_keeps (Ends turn) (ledger_of old) (ledger_of new) is (Contains-append_right (all_lying old.marks old.view.calls) (rights_held old) turn step.there) (record {
    live = live_moves old new (turn ∷ []) (turn_after turn ∷ []) step.marks step.calls step.held;
    owed = step.owed.no_others;
    unpaid = step.owed.all;
    owes = λ write none. absurd (none_in write none);
    queued = gets_told all_writes old new step.marks step.calls;
    left = step.left;
    written = step.written;
    made = gets_told all_buffers old new step.marks step.calls;
  })

  pub pay_keeps : (old new : State B) (write : Write) → PayStep old new write → IsLedger (ledger_of old) → IsLedger (ledger_of new)
  pay_keeps old new write step is = move_keeps (Pays write) (ledger_of old) (ledger_of new) is step.was_owed (record {
    live = live_moves old new [] [] step.marks step.calls step.held;
    owed = step.owed;
    unpaid = step.unpaid;
    owes = λ write none. absurd (none_in write none);
    queued = gets_told all_writes old new step.marks step.calls;
    left = step.left;
    written = step.written;
    made = gets_told all_buffers old new step.marks step.calls;
  })

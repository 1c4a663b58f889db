-- A step that an actor did, in a state of all callers.
use Rattle.std.specs.Prelude.{◌≡◌, ℕ, ◌+◌, List, [], ◌∷◌, ◌++◌, length, get_or, Some, slice_get, slice_set}
use Rattle.law_rights.specs.sf_actor.declared.done.Done.{Done}
use Rattle.law_rights.specs.sf_actor.declared.holding.Holding.{Holding}
use Rattle.law_rights.specs.sf_actor.Known.{Call}
use Rattle.law_rights.specs.sf_actor.Holdings.{plain_of, turn_held}
use Rattle.law_rights.specs.sf_actor.Rights.{WasGivenAt}
use Rattle.law_rights.specs.sf_actor.Tries.{ActorOf, held_in, past_of}
use Rattle.law_rights.specs.Ledgers.{IsLedger}
use Rattle.law_rights.specs.PlaceTries.{PlacesGo}
use Rattle.law_rights.specs.States.{State, ledger_of}

-- One actor changed, by a step more: its names held what its trace says, with the rights that its calls gave; and the step kept the ledger, as
-- it made its call, or as rights rested and frames went back. The calls are those of each actor in the whole run.
pub record DoesIn {B : Type 0} (calls : ℕ → ℕ → List (Call B)) (old new : State B) : Type 0 where
  pub was : ActorOf B
  pub is : ActorOf B
  pub place : ℕ
  pub here : slice_get old.actors place ≡ Some was
  pub actors : new.actors ≡ slice_set old.actors place is
  pub number : is.script.number ≡ was.script.number
  pub done : Done
  pub trace : is.trace ≡ was.trace ++ done ∷ []
  pub has : plain_of was.parts ≡ (past_of was).holdings
  pub given : (name : ℕ) (held : Holding B) → held_in was.parts name ≡ Some held
      → WasGivenAt (calls was.script.number) (get_or (past_of was).since name 0) (Some (turn_held held))
  pub keeps : IsLedger (ledger_of old) → IsLedger (ledger_of new)
  pub goes : IsLedger (ledger_of old) → PlacesGo (past_of was).holdings done.step was.script.number (length was.trace + 1) old new

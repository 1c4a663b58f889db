-- Passes that are given and taken in, one for each lock.
use Rattle.std.specs.Prelude.{◌≡◌, ℕ, true, List, [], ◌∷◌, Contains}
use Rattle.sf_calls.specs.Histories.{GoesOnWithout}
use Rattle.sf_calls.specs.Passes.{met}
use Rattle.sf_live_seats.specs.declared.locks.QueueLock.{QueueLock}
use Rattle.sf_live_seats.specs.Seats.{QueuePass}

module _ {B : Type 0} where
  abbrev pub IsAt : QueueLock B → QueuePass B → Type 0
  IsAt lock pass = pass.table ≡ lock.lock

  abbrev pub IsFirstPass : QueuePass B → Type 0
  IsFirstPass pass = pass.is_first ≡ true

  -- the first pass may give one to the caller, which has none
  pub record MayGive (by : ℕ) (pass : QueuePass B) : Type 0 where
    pub is_first : IsFirstPass pass
    pub fresh : Contains (pass.by ∷ pass.gave) by → ⊥

  -- passes after they took in those beside them
  abbrev pub all_met : List (QueuePass B) → List (QueuePass B) → List (QueuePass B)
  all_met [] notes = []
  all_met (pass ∷ passes) [] = pass ∷ passes
  all_met (pass ∷ passes) (note ∷ notes) = met pass note ∷ all_met passes notes

  -- what a pass knows goes on from what it knew without a further call of its own caller
  abbrev pub KeepsOwn : QueuePass B → QueuePass B → Type 0
  KeepsOwn old new = GoesOnWithout old.by old.seen new.seen

-- What a call under the lock shows its caller.
use Rattle.std.specs.Prelude.{◌≡◌, ℕ, ◌+◌, List, ◌∷◌, Result, Ok, Err}
use Rattle.sf_calls.specs.declared.object.Entry.{Entry}
use Rattle.sf_calls.specs.declared.object.Answer.{Answer}
use Rattle.sf_calls.specs.declared.fault.CallFault.{CallFault}
use Rattle.sf_calls.specs.declared.fault.CallFault.TheVariants.{NotYet, NoMemory}
use Rattle.sf_calls.specs.Histories.{IsLegal, Begins, calls_by, entry, waits}
use Rattle.sf_calls.specs.Views.{PassView}

module _ {C R M : Type 0} (answers : M → List (Entry C R) → ℕ → C → Answer R → Type 0) (m : M) where
  -- The call was made: the history that the pass now knows is legal, began as the one that it knew,
  -- has the call as its newest, and no other call of this caller past what it knew. The pass had one
  -- turn more.
  pub record Made (v : PassView C R M) (call : C) (reply : R) (w : PassView C R M) : Type 0 where
    pub legal : IsLegal (answers m) w.seen
    pub begins : Begins v.seen w.seen
    pub newest : (earlier : List (Entry C R)) × (w.seen ≡ entry v.by call reply ∷ earlier)
    pub own : calls_by v.by w.seen ≡ entry v.by call reply ∷ calls_by v.by v.seen
    pub turn : w.turns ≡ v.turns + 1

  -- The call was not made: after the history that the pass now knows, the object of one thread
  -- would answer that it is not time for it yet. That history is legal, began as the one that the
  -- pass knew, and has no further call of this caller. The pass had one turn more.
  pub record Waited (v : PassView C R M) (call : C) (w : PassView C R M) : Type 0 where
    pub legal : IsLegal (answers m) w.seen
    pub begins : Begins v.seen w.seen
    pub own : calls_by v.by w.seen ≡ calls_by v.by v.seen
    pub not_yet : answers m w.seen v.by call waits
    pub turn : w.turns ≡ v.turns + 1

module _ {D R : Type 0} where
  -- it holds of the call that comes back, where it was not time for it yet
  abbrev pub IfFaultNotYet : Result R (CallFault D) → (D → Type 0) → Type 0
  IfFaultNotYet (Ok r) P = Unit {0}
  IfFaultNotYet (Err (NotYet c)) P = P c
  IfFaultNotYet (Err (NoMemory c)) P = Unit {0}

  -- it holds of the call that comes back, where memory ran out
  abbrev pub IfFaultNoMemory : Result R (CallFault D) → (D → Type 0) → Type 0
  IfFaultNoMemory (Ok r) P = Unit {0}
  IfFaultNoMemory (Err (NotYet c)) P = Unit {0}
  IfFaultNoMemory (Err (NoMemory c)) P = P c

-- What holds of each outcome of a call on an object.
use Rattle.sf_calls.specs.declared.object.Outcome.{Outcome}
use Rattle.sf_calls.specs.declared.object.Outcome.TheVariants.{Done, NotYet, NoMemory}

module _ {C R : Type 0} where
  -- it holds of the reply, where the call was done
  abbrev pub IfDone : Outcome C R → (R → Type 0) → Type 0
  IfDone (Done r) P = P r
  IfDone (NotYet c) P = Unit {0}
  IfDone (NoMemory c) P = Unit {0}

  -- it holds of the call that comes back, where it is not time for it yet
  abbrev pub IfNotYet : Outcome C R → (C → Type 0) → Type 0
  IfNotYet (Done r) P = Unit {0}
  IfNotYet (NotYet c) P = P c
  IfNotYet (NoMemory c) P = Unit {0}

  -- it holds of the call that comes back, where memory ran out
  abbrev pub IfNoMemory : Outcome C R → (C → Type 0) → Type 0
  IfNoMemory (Done r) P = Unit {0}
  IfNoMemory (NotYet c) P = Unit {0}
  IfNoMemory (NoMemory c) P = P c

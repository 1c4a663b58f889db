-- What the application of operations answers.
use Rattle.std.specs.Prelude.{◌≡◌, Result, Err}
use Rattle.sf_tree.specs.declared.apply.ApplyFault.{ApplyFault}
use Rattle.sf_tree.specs.declared.apply.ApplyFault.TheVariants as fault
use Rattle.sf_tree.specs.Changes.{Rejection}

-- the operations are rejected so, or there was no memory
abbrev pub IsRejection : {A : Type 0} → Result A Rejection → ApplyFault → Type 0
IsRejection change (fault.Reject cause op) = change ≡ Err (record { cause = cause; op = op })
IsRejection change fault.NoMemory = Unit {0}

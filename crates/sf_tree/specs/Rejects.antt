-- The numbers of the causes for which operations are rejected.
use Rattle.std.specs.Prelude.{ℕ}
use Rattle.sf_tree.specs.declared.reject.Reject.{Reject}
use Rattle.sf_tree.specs.declared.reject.Reject.TheVariants as reject

-- the number of a cause in records
abbrev pub number_of : Reject → ℕ
number_of reject.UnknownLayer = 1
number_of reject.LayerExists = 2
number_of reject.ParentCycle = 3
number_of reject.DrawCycle = 4
number_of reject.TooManyLayers = 5
number_of reject.WrongKind = 6

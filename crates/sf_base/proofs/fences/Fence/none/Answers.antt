use Rattle.std.proofs.Common.{refl}
use Rattle.sf_base.specs.Fences.{no_points}
use Rattle.sf_base.proofs.fences.Fence.none.Goals as goal

pub invariant_of-result : goal.invariant_of-result
unfolding no_points
invariant_of-result c = record { places = refl }

use Rattle.std.proofs.Common.{length, ◌-◌}
use Rattle.sf_picture.specs.Solid.{AreSolidTo}
use Rattle.sf_picture.proofs.solid.solid_blocks.Given as goal

abbrev pub invariant-loop-at : goal.invariant-loop-at
invariant-loop-at l = AreSolidTo l.at l.bytes

abbrev pub decreases-loop-at : goal.decreases-loop-at
decreases-loop-at l = length l.bytes - l.at

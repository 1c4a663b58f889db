use Rattle.std.proofs.Common.{length, ◌-◌}
use Rattle.sf_compose.specs.inner.Solid.{CopiesTo}
use Rattle.sf_compose.proofs.solid.copy_blocks.Given as goal

abbrev pub invariant-loop-dst : goal.invariant-loop-dst
invariant-loop-dst l = CopiesTo l.at l.src l.dst

abbrev pub decreases-loop-dst : goal.decreases-loop-dst
decreases-loop-dst l = length l.dst - l.at

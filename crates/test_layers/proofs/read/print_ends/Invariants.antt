use Rattle.std.proofs.Common.{length}
use Rattle.test_layers.proofs.read.print_ends.Given as goal

abbrev pub decreases-loop-number : goal.decreases-loop-number
decreases-loop-number g l = length l.ends

use Rattle.std.proofs.Common.{length}
use Rattle.test_commit.proofs.told.reads.Given as goal

abbrev pub decreases-loop-end : goal.decreases-loop-end
decreases-loop-end l = length l.ends

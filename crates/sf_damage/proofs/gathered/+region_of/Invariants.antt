use Rattle.std.proofs.Common.{length}
use Rattle.sf_damage.proofs.gathered.+region_of.Given as goal

abbrev pub decreases-region_of : goal.decreases-region_of
decreases-region_of l = length l.rects.now

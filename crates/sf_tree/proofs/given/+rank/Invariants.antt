use Rattle.std.proofs.Common.{◌+◌, ◌*◌}
use Rattle.sf_tree.proofs.given.+rank.Given as goal

abbrev pub decreases-rank : goal.decreases-rank
decreases-rank l = 3 * l.steps

abbrev pub decreases-rank_below : goal.decreases-rank_below
decreases-rank_below l = 3 * l.steps + 2

abbrev pub decreases-rank_of : goal.decreases-rank_of
decreases-rank_of l = 3 * l.steps + 1

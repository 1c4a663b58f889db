use Rattle.std.proofs.Common.{◌+◌, ◌*◌}
use Rattle.sf_tree.proofs.showing.+show.Given as goal

abbrev pub decreases-show : goal.decreases-show
decreases-show l = 3 * l.steps + 2

abbrev pub decreases-decide : goal.decreases-decide
decreases-decide l = 3 * l.steps + 1

abbrev pub decreases-layer_shows : goal.decreases-layer_shows
decreases-layer_shows l = 3 * l.steps

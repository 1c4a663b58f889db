use Rattle.std.proofs.Common.{◌+◌, ◌*◌}
use Rattle.sf_view.proofs.placing.+place.Given as goal

abbrev pub decreases-place : goal.decreases-place
decreases-place l = 2 * l.steps + 1

abbrev pub decreases-place_parent : goal.decreases-place_parent
decreases-place_parent l = 2 * l.steps

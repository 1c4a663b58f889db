use Rattle.std.proofs.Common.{◌+◌, ◌*◌}
use Rattle.sf_output_shown.proofs.above.+find.Given as goal

abbrev pub decreases-find : goal.decreases-find
decreases-find l = 2 * l.steps + 1

abbrev pub decreases-find_from : goal.decreases-find_from
decreases-find_from l = 2 * l.steps

use Rattle.std.proofs.Common.{◌+◌, ◌-◌, ◌*◌}
use Rattle.sf_compose.proofs.beside.+bands.Given as goal

abbrev pub decreases-start_each : goal.decreases-start_each
decreases-start_each g l = 4 * (l.band.bottom - l.band.top)

abbrev pub decreases-start_beside : goal.decreases-start_beside
decreases-start_beside g l = 4 * (l.cut.below.bottom - l.cut.below.top) + 2

abbrev pub decreases-start_beside-others : goal.decreases-start_beside-others
decreases-start_beside-others g l = 4 * (l.below.bottom - l.below.top) + 1

use Rattle.std.proofs.Common.{◌+◌, ◌*◌}
use Rattle.sf_damage.proofs.windows.+windows.Given as goal

abbrev pub decreases-differing_here : goal.decreases-differing_here
decreases-differing_here l = 3 * l.steps

abbrev pub decreases-differing_between : goal.decreases-differing_between
decreases-differing_between l = 3 * l.steps + 1

abbrev pub decreases-differing_in : goal.decreases-differing_in
decreases-differing_in l = 3 * l.steps + 2

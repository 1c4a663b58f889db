use Rattle.std.proofs.Common.{◌≤◌, ◌-◌}
use Rattle.sf_compose.proofs.share.rows_of.Given as goal

abbrev pub invariant-loop-low : goal.invariant-loop-low
invariant-loop-low l = (1 ≤ l.low) × (l.low ≤ l.high) × (l.high ≤ l.band.bottom - l.band.top)

abbrev pub decreases-loop-low : goal.decreases-loop-low
decreases-loop-low l = l.high - l.low

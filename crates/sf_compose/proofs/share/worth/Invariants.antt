use Rattle.std.proofs.Common.{◌≤◌, ◌-◌}
use Rattle.sf_compose.proofs.share.worth.Given as goal

abbrev pub invariant-loop-threads : goal.invariant-loop-threads
invariant-loop-threads l = 1 ≤ l.threads

abbrev pub decreases-loop-threads : goal.decreases-loop-threads
decreases-loop-threads l = l.workers - l.threads

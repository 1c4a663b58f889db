use Rattle.std.proofs.Common.{length, ◌≤◌}
use Rattle.sf_picture.proofs.spans.count_covered.Given as goal

abbrev pub invariant-loop-count : goal.invariant-loop-count
invariant-loop-count l = l.count ≤ length l.fills

abbrev pub decreases-loop-count : goal.decreases-loop-count
decreases-loop-count l = l.count

use Rattle.std.proofs.Common.{◌≤◌, ◌-◌, length}
use Rattle.sf_compose.proofs.cover.hidden_around.Given as goal

abbrev pub invariant-loop-at : goal.invariant-loop-at
invariant-loop-at g l = l.at ≤ length l.layers

abbrev pub decreases-loop-at : goal.decreases-loop-at
decreases-loop-at g l = length l.layers - l.at

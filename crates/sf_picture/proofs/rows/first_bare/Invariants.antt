use Rattle.std.proofs.Common.{◌≤◌, ◌-◌, length}
use Rattle.sf_picture.specs.inner.Rows.{ArePainted}
use Rattle.sf_picture.proofs.rows.first_bare.Given as goal

abbrev pub invariant-loop-at : goal.invariant-loop-at
invariant-loop-at l = (l.at ≤ length l.leaps) × ArePainted l.leaps l.at

abbrev pub decreases-loop-at : goal.decreases-loop-at
decreases-loop-at l = length l.leaps - l.at

use Rattle.std.proofs.Common.{◌≤◌, ◌-◌}
use Rattle.sf_picture.specs.inner.Rows.{MarksTo, PaintsBare}
use Rattle.sf_picture.proofs.rows.paint_bare.Given as goal

abbrev pub invariant-loop-at : goal.invariant-loop-at
invariant-loop-at l = (l.left ≤ l.at) × (l.at ≤ l.right) × MarksTo l.initial.leaps l.leaps l.left l.at l.right × PaintsBare l.initial.leaps l.initial.bytes l.bytes l.first l.left l.at l.colour

abbrev pub decreases-loop-at : goal.decreases-loop-at
decreases-loop-at l = l.right - l.at

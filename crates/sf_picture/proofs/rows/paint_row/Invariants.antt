use Rattle.std.proofs.Common.{◌≤◌, length}
use Rattle.sf_picture.specs.inner.Rows.{ArePainted, KeepsRows, LeapsOverPainted, ShowsMarked}
use Rattle.sf_picture.proofs.rows.paint_row.Given as goal

abbrev pub invariant-loop-at : goal.invariant-loop-at
invariant-loop-at l = (l.at ≤ length l.picture.fills) × (l.bare ≤ length l.leaps) × LeapsOverPainted l.leaps × ArePainted l.leaps l.bare × ShowsMarked l.picture l.at l.y l.leaps l.bytes × KeepsRows l.picture.width l.y l.fn.bytes l.bytes

abbrev pub decreases-loop-at : goal.decreases-loop-at
decreases-loop-at l = l.at

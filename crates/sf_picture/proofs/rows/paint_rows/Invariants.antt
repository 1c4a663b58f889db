use Rattle.sf_picture.specs.inner.Rows.{ShowsRows}
use Rattle.sf_picture.proofs.rows.paint_rows.Given as goal

abbrev pub invariant-loop-y : goal.invariant-loop-y
invariant-loop-y l = ShowsRows l.picture l.y l.bytes

use Rattle.sf_picture.specs.inner.Spans.{PaintsRows}
use Rattle.sf_picture.proofs.spans.paint_fill.Given as goal

abbrev pub invariant-loop-y : goal.invariant-loop-y
invariant-loop-y l = PaintsRows l.initial.bytes l.bytes l.width l.height l.left l.right l.top l.y l.colour

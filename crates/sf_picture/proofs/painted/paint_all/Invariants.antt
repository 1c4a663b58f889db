use Rattle.std.proofs.Common.{take}
use Rattle.sf_picture.specs.inner.Spans.{ShowsFills}
use Rattle.sf_picture.proofs.painted.paint_all.Given as goal

abbrev pub invariant-loop-at : goal.invariant-loop-at
invariant-loop-at l = ShowsFills l.picture.format (take l.at l.picture.fills) l.picture.width l.picture.height l.bytes

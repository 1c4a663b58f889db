use Rattle.sf_base.specs.Bytes.{FillsSpan}
use Rattle.sf_picture.proofs.spans.fill_span.Given as goal

abbrev pub invariant-loop-at : goal.invariant-loop-at
invariant-loop-at l = FillsSpan l.initial.bytes l.bytes l.start l.at l.colour

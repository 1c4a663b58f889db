use Rattle.std.proofs.Common.{◌≡◌, ◌++◌, length}
use Rattle.sf_region.specs.inner.Bands.{IsAheadRows}
use Rattle.sf_region.specs.Spans.{row}
use Rattle.sf_region.proofs.rows.fill_row.Given as goal

abbrev pub invariant-loop-rest : goal.invariant-loop-rest
invariant-loop-rest l = record { ahead : IsAheadRows l.rest l.y; whole : l.spans.items ++ row l.rest l.y ≡ row l.rects l.y }

abbrev pub decreases-loop-rest : goal.decreases-loop-rest
decreases-loop-rest l = length l.rest

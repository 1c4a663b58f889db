use Rattle.std.proofs.Common.{◌≤◌, length}
use Rattle.sf_compose.specs.inner.Begun.{Spares}
use Rattle.sf_compose.specs.inner.Painting.{is_in_area}
use Rattle.sf_compose.proofs.begin.begin.Given as goal

abbrev pub invariant-loop-at : goal.invariant-loop-at
invariant-loop-at g l = (l.at ≤ length l.layers) × Spares l.band.width l.band.top (is_in_area l.area) l.fn.frame l.frame

abbrev pub decreases-loop-at : goal.decreases-loop-at
decreases-loop-at g l = l.at

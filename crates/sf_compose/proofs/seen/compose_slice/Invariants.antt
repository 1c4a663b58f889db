use Rattle.std.proofs.Common.{◌≤◌, ◌-◌, length, map}
use Rattle.sf_compose.specs.inner.Begun.{AreaIsBegun, Spares}
use Rattle.sf_compose.specs.inner.Painting.{is_in_area}
use Rattle.sf_compose.proofs.seen.compose_slice.Given as goal

abbrev pub invariant-loop-at : goal.invariant-loop-at
invariant-loop-at g l =
    (l.at ≤ length l.composition.view.now.drawn) × Spares l.band.width l.band.top (is_in_area l.area) l.fn.frame l.frame
    × AreaIsBegun l.band l.area (map g.C.Pixels.picture l.composition.contents.now) l.composition.view.now.drawn l.composition.sources.now l.at l.frame

abbrev pub decreases-loop-at : goal.decreases-loop-at
decreases-loop-at g l = length l.composition.view.now.drawn - l.at

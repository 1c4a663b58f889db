use Rattle.std.proofs.Common.{map, take, pos, ◌&&◌}
use Rattle.sf_damage.specs.sf_region.Points.{has}
use Rattle.sf_compose.specs.inner.Painting.{is_in_area, Paints}
use Rattle.sf_compose.specs.Readings.{under_one}
use Rattle.sf_compose.proofs.seen.paint_shown.Given as goal

abbrev pub invariant-loop-part : goal.invariant-loop-part
invariant-loop-part g l =
    Paints l.band.width l.band.top (λ x y. is_in_area l.area x y && has (take l.part-index l.parts) (pos x) (pos y))
    (λ x y under. under_one (map g.C.Pixels.picture l.composition.contents.now) (pos x) (pos y) under l.layer.drawn.now l.layer.source)
    l.fn.frame l.frame

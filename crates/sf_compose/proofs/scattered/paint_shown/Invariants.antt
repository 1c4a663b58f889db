use Rattle.std.proofs.Common.{map, take, pos, ◌&&◌}
use Rattle.sf_damage.specs.sf_region.Points.{has}
use Rattle.sf_compose.specs.inner.Painting.{is_in_area, Paints}
use Rattle.sf_compose.specs.Readings.{under_one}
use Rattle.sf_compose.proofs.scattered.paint_shown.Given as goal

abbrev pub invariant-loop-shown : goal.invariant-loop-shown
invariant-loop-shown g l =
    Paints l.band.width l.band.top (λ x y. (is_in_area l.area x y && has l.part (pos x) (pos y)) && has (take l.shown-index l.shows) (pos x) (pos y))
    (λ x y under. under_one (map g.C.Pixels.picture l.layer.contents.now) (pos x) (pos y) under l.layer.drawn.now l.layer.source) l.fn.frame l.frame

use Rattle.std.proofs.Common.{map, take, pos, ◌&&◌, ◌≤◌, ◌-◌, length}
use Rattle.sf_base.specs.Geometry.{covers}
use Rattle.sf_damage.specs.sf_region.Points.{has}
use Rattle.sf_compose.specs.inner.Painting.{is_in_area, Paints}
use Rattle.sf_compose.specs.Readings.{under_one}
use Rattle.sf_compose.proofs.scattered.paint_met.Given as goal

abbrev pub invariant-loop-at : goal.invariant-loop-at
invariant-loop-at g l = record {
  within : l.at ≤ length l.part;
  paints : Paints l.band.width l.band.top (λ x y. (is_in_area l.fn.area x y && covers l.shown (pos x) (pos y)) && has (take l.at l.part) (pos x) (pos y))
      (λ x y under. under_one (map g.C.Pixels.picture l.layer.contents.now) (pos x) (pos y) under l.layer.drawn.now l.layer.source) l.fn.frame l.frame;
}

abbrev pub decreases-loop-at : goal.decreases-loop-at
decreases-loop-at g l = length l.part - l.at

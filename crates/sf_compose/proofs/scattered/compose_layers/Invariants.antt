use Rattle.std.proofs.Common.{◌≤◌, ◌-◌, ◌&&◌, length, map, pos}
use Rattle.sf_damage.specs.sf_region.Points.{has}
use Rattle.sf_compose.specs.inner.Begun.{IsBegun, Spares}
use Rattle.sf_compose.specs.inner.Painting.{is_in_area}
use Rattle.sf_compose.proofs.scattered.compose_layers.Given as goal

abbrev pub invariant-loop-at : goal.invariant-loop-at
invariant-loop-at g l = record {
  inside : l.at ≤ length l.layers;
  spared : Spares l.band.width l.band.top (λ x y. is_in_area l.area x y && has l.part (pos x) (pos y)) l.fn.frame l.frame;
  begun : IsBegun l.band.width l.band.top (λ x y. is_in_area l.area x y && has l.part (pos x) (pos y)) (map g.C.Pixels.picture l.composition.contents.now) l.layers l.composition.sources.now l.at l.frame;
}

abbrev pub decreases-loop-at : goal.decreases-loop-at
decreases-loop-at g l = length l.layers - l.at

use Rattle.std.proofs.Common.{take, pos, ◌&&◌}
use Rattle.sf_base.specs.Paint.{painted}
use Rattle.sf_damage.specs.sf_region.Points.{has}
use Rattle.sf_damage.specs.sf_view.Image.{opaque_black}
use Rattle.sf_compose.specs.inner.Painting.{is_in_area, Paints}
use Rattle.sf_compose.proofs.scattered.paint_ground.Given as goal

abbrev pub invariant-loop-rect : goal.invariant-loop-rect
invariant-loop-rect l =
    Paints l.band.width l.band.top (λ x y. is_in_area l.area x y && has (take l.rect-index l.part) (pos x) (pos y)) (λ x y under. painted under opaque_black 255) l.fn.frame l.frame

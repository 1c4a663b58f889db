use Rattle.std.proofs.Common.{◌≤◌, ◌-◌, map, pos}
use Rattle.sf_damage.specs.sf_view.Image.{opaque_black}
use Rattle.sf_compose.specs.Frames.{is_in_box}
use Rattle.sf_compose.specs.inner.Painting.{Paints}
use Rattle.sf_compose.specs.Readings.{under_drawn}
use Rattle.sf_compose.proofs.seen.compose_rect.Given as goal

abbrev pub invariant-loop-top : goal.invariant-loop-top
invariant-loop-top g l = (l.area.top ≤ l.top) × (l.top ≤ l.area.bottom) × Paints l.band.width l.band.top (is_in_box l.area.left l.area.right l.area.top l.top) (λ x y under. under_drawn (map g.C.Pixels.picture l.composition.contents.now) (pos x) (pos y) opaque_black l.composition.view.now.drawn l.composition.sources.now) l.fn.frame l.frame

abbrev pub decreases-loop-top : goal.decreases-loop-top
decreases-loop-top g l = l.area.bottom - l.top

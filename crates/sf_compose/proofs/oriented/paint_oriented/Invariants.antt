use Rattle.std.proofs.Common.{◌≤◌, ◌-◌, pos}
use Rattle.sf_base.specs.Paint.{painted}
use Rattle.sf_damage.specs.sf_view.Contents.{source_of}
use Rattle.sf_compose.specs.Frames.{is_in_box}
use Rattle.sf_compose.specs.inner.Painting.{Paints}
use Rattle.sf_compose.specs.inner.Orientations.{pixel_shown}
use Rattle.sf_compose.proofs.oriented.paint_oriented.Given as goal

abbrev pub invariant-loop-left : goal.invariant-loop-left
invariant-loop-left l = (l.area.left ≤ l.left) × (l.left ≤ l.area.right) × Paints l.band.width l.band.top (is_in_box l.area.left l.left l.area.top l.area.bottom) (λ x y under. painted under (source_of l.oriented.opaque (pixel_shown l.picture l.oriented.crop l.oriented.orient l.oriented.place (pos x) (pos y))) l.oriented.alpha) l.fn.frame l.frame

abbrev pub decreases-loop-left : goal.decreases-loop-left
decreases-loop-left l = l.area.right - l.left

use Rattle.std.proofs.Common.{◌≤◌, ◌-◌, ℕ, Bool, pos}
use Rattle.sf_base.specs.Paint.{painted}
use Rattle.sf_base.specs.declared.pixel.Rgba.{Rgba}
use Rattle.sf_damage.specs.sf_view.Contents.{source_of}
use Rattle.sf_compose.specs.Frames.{is_in_box}
use Rattle.sf_compose.specs.inner.Painting.{Paints}
use Rattle.sf_compose.specs.inner.Orientations.{pixel_shown}
use Rattle.sf_compose.proofs.oriented_moving.move_oriented.Given as goal

abbrev pub invariant-loop-left : goal.invariant-loop-left
invariant-loop-left l = (l.area.left ≤ l.left) × (l.left ≤ l.area.right) × ((opaque : Bool) (below : ℕ → ℕ → Rgba → Rgba) →
    Paints l.band.width l.band.top (is_in_box l.area.left l.left l.area.top l.area.bottom)
    (λ x y under. painted (below x y under) (source_of opaque (pixel_shown l.picture l.oriented.crop l.oriented.orient l.oriented.place (pos x) (pos y))) 255)
    l.fn.frame l.frame)

abbrev pub decreases-loop-left : goal.decreases-loop-left
decreases-loop-left l = l.area.right - l.left

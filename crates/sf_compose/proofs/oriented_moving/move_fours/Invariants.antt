use Rattle.std.proofs.Common.{◌≡◌, ◌≤◌, ◌-◌, ◌%◌, ℕ, Bool, pos}
use Rattle.sf_base.specs.Paint.{painted}
use Rattle.sf_base.specs.declared.pixel.Rgba.{Rgba}
use Rattle.sf_damage.specs.sf_view.Contents.{source_of}
use Rattle.sf_compose.specs.Frames.{is_in_box}
use Rattle.sf_compose.specs.inner.Painting.{Paints}
use Rattle.sf_compose.specs.inner.Orientations.{pixel_shown}
use Rattle.sf_compose.proofs.oriented_moving.move_fours.Given as goal

abbrev pub invariant-loop-top : goal.invariant-loop-top
invariant-loop-top l = (l.area.top ≤ l.top) × (l.top ≤ l.area.bottom) × ((l.area.bottom - l.top) % 4 ≡ 0) × ((opaque : Bool) (below : ℕ → ℕ → Rgba → Rgba) →
    Paints l.band.width l.band.top (is_in_box l.area.left l.area.right l.area.top l.top)
    (λ x y under. painted (below x y under) (source_of opaque (pixel_shown l.picture l.oriented.crop l.oriented.orient l.oriented.place (pos x) (pos y))) 255)
    l.fn.frame l.frame)

abbrev pub decreases-loop-top : goal.decreases-loop-top
decreases-loop-top l = l.area.bottom - l.top

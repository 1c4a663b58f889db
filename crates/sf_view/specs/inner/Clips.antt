-- The rectangle of a clip.
use Rattle.std.specs.Prelude.{◌≡◌, ◌⊎◌, ◌&&◌, ℤ, pos, ◌≤ℤ◌, ◌+ℤ◌}
use Rattle.sf_base.specs.declared.geometry.Rect.{Rect}
use Rattle.sf_view.specs.declared.interval.Interval.{Interval}
use Rattle.sf_base.specs.Geometry.{covers}
use Rattle.sf_view.specs.inner.Intervals.{is_in_interval}

-- the rectangle has the points that lie in both intervals; it lies within the intervals, or is empty and lies at the corner
pub record IsClipOf (across down : Interval) (clip : Rect) : Type 0 where
  pub points : (x y : ℤ) → covers clip x y ≡ (is_in_interval across x && is_in_interval down y)
  pub left : pos 0 ≤ℤ clip.x
  pub top : pos 0 ≤ℤ clip.y
  pub right : ((clip.x +ℤ pos clip.width) ≤ℤ across.to) ⊎ ((clip.x +ℤ pos clip.width) ≤ℤ pos 0)
  pub bottom : ((clip.y +ℤ pos clip.height) ≤ℤ down.to) ⊎ ((clip.y +ℤ pos clip.height) ≤ℤ pos 0)

-- Painting over a part of a frame: each pixel of the part becomes what is painted over what it was.
use Rattle.std.specs.Prelude.{◌≡◌, ℕ, ◌+◌, ◌-◌, ◌*◌, ◌<◌, ◌≤◌, Bool, ◌&&◌, if◌then◌else◌, List, length, pos}
use Rattle.sf_base.specs.Geometry.{covers}
use Rattle.sf_base.specs.Paint.{painted}
use Rattle.sf_base.specs.declared.geometry.Rect.{Rect}
use Rattle.sf_base.specs.declared.pixel.Rgba.{Rgba}
use Rattle.sf_compose.specs.declared.area.Area.{Area}
use Rattle.sf_compose.specs.declared.band.Band.{Band}
use Rattle.sf_compose.specs.declared.spans.RowSpan.{RowSpan}
use Rattle.sf_compose.specs.Frames.{is_in_box}
use Rattle.sf_base.specs.Bytes.{pixel_in}
use Rattle.sf_damage.specs.sf_region.Points.{has}

-- the pixels numbered from `start` and below `end` are painted, and no other changed
pub record PaintsSpan (old new : List ℕ) (start end : ℕ) (paint : ℕ → Rgba → Rgba) : Type 0 where
  pub size : length new ≡ length old
  pub inside : (i : ℕ) → start ≤ i → i < end → pixel_in new i ≡ paint i (pixel_in old i)
  pub below : (i : ℕ) → i < start → pixel_in new i ≡ pixel_in old i
  pub above : (i : ℕ) → end ≤ i → pixel_in new i ≡ pixel_in old i

-- a point lies in an area
abbrev pub is_in_area : Area → ℕ → ℕ → Bool
is_in_area area x y = is_in_box area.left area.right area.top area.bottom x y

-- of rows of this width from one on, the points that pass a test are painted, and no other changed
pub record Paints (width top : ℕ) (test : ℕ → ℕ → Bool) (paint : ℕ → ℕ → Rgba → Rgba) (old new : List ℕ) : Type 0 where
  pub size : length new ≡ length old
  pub pixels : (x y : ℕ) → x < width → top ≤ y
      → pixel_in new ((y - top) * width + x) ≡ (if test x y then paint x y (pixel_in old ((y - top) * width + x)) else pixel_in old ((y - top) * width + x))

-- the points of a band that lie in an area are painted, and no other changed
abbrev pub PaintsArea : Band → Area → (ℕ → ℕ → Rgba → Rgba) → List ℕ → List ℕ → Type 0
PaintsArea band area paint old new = Paints band.width band.top (is_in_area area) paint old new

-- they are painted as over any pixels, so that nothing is left of what was there
abbrev pub PaintsAnew : Band → Area → (ℕ → ℕ → Rgba → Rgba) → List ℕ → List ℕ → Type 0
PaintsAnew band area paint old new = (below : ℕ → ℕ → Rgba) → Paints band.width band.top (is_in_area area) (λ x y under. paint x y (below x y)) old new

-- the same of pixels from a number on and below another
abbrev pub PaintsSpanAnew : List ℕ → List ℕ → ℕ → ℕ → (ℕ → Rgba → Rgba) → Type 0
PaintsSpanAnew old new start end paint = (below : ℕ → Rgba) → PaintsSpan old new start end (λ i under. paint i (below i))

-- the points of a row from one on and before another are painted, and no other pixel changed
abbrev pub PaintsRow : RowSpan → (ℕ → ℕ → Rgba → Rgba) → List ℕ → List ℕ → Type 0
PaintsRow row paint old new = PaintsSpan old new (row.start + row.left) (row.start + row.right) (λ i. paint (i - row.start) row.y)

-- they are painted as over any pixels
abbrev pub PaintsRowAnew : RowSpan → (ℕ → ℕ → Rgba → Rgba) → List ℕ → List ℕ → Type 0
PaintsRowAnew row paint old new = PaintsSpanAnew old new (row.start + row.left) (row.start + row.right) (λ i. paint (i - row.start) row.y)

-- what is painted of these pixels over others, with alpha 255
abbrev pub at_full_alpha : (ℕ → ℕ → Rgba) → ℕ → ℕ → Rgba → Rgba
at_full_alpha pixels = λ x y under. painted under (pixels x y) 255

-- the points of an area that lie in rectangles
abbrev pub is_in_parts : Area → List Rect → ℕ → ℕ → Bool
is_in_parts area parts = λ x y. is_in_area area x y && has parts (pos x) (pos y)

-- those that lie in a rectangle, and in the rectangles of a part
abbrev pub is_met : Area → Rect → List Rect → ℕ → ℕ → Bool
is_met area shown part = λ x y. (is_in_area area x y && covers shown (pos x) (pos y)) && has part (pos x) (pos y)

-- those that lie in a part, and where a layer shows
abbrev pub is_shown : Area → List Rect → List Rect → ℕ → ℕ → Bool
is_shown area part shows = λ x y. (is_in_area area x y && has part (pos x) (pos y)) && has shows (pos x) (pos y)

-- The bytes of a frame, four to a pixel, row by row from the top.
use Rattle.std.specs.Prelude.{◌≡◌, ℕ, ◌+◌, ◌-◌, ◌*◌, ◌<◌, ◌≤◌, Bool, true}
use Rattle.std.specs.Prelude.{false, if◌then◌else◌, List, [], ◌∷◌, length, pos, nat_le, nat_lt, ◌&&◌}
use Rattle.std.specs.List.{flat_map, range_with_len}
use Rattle.sf_base.specs.declared.geometry.Rect.{Rect}
use Rattle.sf_base.specs.declared.pixel.Rgba.{Rgba}
use Rattle.sf_base.specs.Bytes.{pixel_in}
use Rattle.sf_damage.specs.sf_region.Points.{has}
use Rattle.sf_damage.specs.sf_view.Views.{ViewOf}

-- each point of the display that is in the part has the colour of an image
pub record ShowsPart (view : ViewOf) (part : List Rect) (image : ℕ → ℕ → Rgba) (frame : List ℕ) : Type 0 where
  pub pixels : (x y : ℕ) → x < view.width → y < view.height → has part (pos x) (pos y) ≡ true → pixel_in frame (y * view.width + x) ≡ image x y

-- no other point of the display changed
pub record KeepsRest (view : ViewOf) (part : List Rect) (old new : List ℕ) : Type 0 where
  pub size : length new ≡ length old
  pub pixels : (x y : ℕ) → x < view.width → y < view.height → has part (pos x) (pos y) ≡ false
      → pixel_in new (y * view.width + x) ≡ pixel_in old (y * view.width + x)

-- a point lies between the sides and between the edges
abbrev pub is_in_box : ℕ → ℕ → ℕ → ℕ → ℕ → ℕ → Bool
is_in_box left right top bottom x y = (nat_le left x && nat_lt x right) && (nat_le top y && nat_lt y bottom)

-- of rows of this width, from one on and before another, the points that pass a test have the colours of an image, and no other changed
pub record Repaints (width top bottom : ℕ) (test : ℕ → ℕ → Bool) (image : ℕ → ℕ → Rgba) (old new : List ℕ) : Type 0 where
  pub size : length new ≡ length old
  pub pixels : (x y : ℕ) → x < width → top ≤ y → y < bottom
      → pixel_in new ((y - top) * width + x) ≡ (if test x y then image x y else pixel_in old ((y - top) * width + x))

-- a pixel as four bytes
abbrev pub four_bytes : Rgba → List ℕ
four_bytes pixel = pixel.r ∷ pixel.g ∷ pixel.b ∷ pixel.a ∷ []

-- the bytes of a row of so many pixels
unfoldable pub row_bytes : (ℕ → Rgba) → ℕ → List ℕ
row_bytes at width = flat_map (λ x. four_bytes (at x)) (range_with_len 0 width)

-- the bytes of an image of this size, row by row from the top
unfoldable pub frame_bytes : (ℕ → ℕ → Rgba) → ℕ → ℕ → List ℕ
frame_bytes at width height = flat_map (λ y. row_bytes (λ x. at x y) width) (range_with_len 0 height)

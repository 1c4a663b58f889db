-- Rows of pixels, four bytes to a pixel: what is painted over them, and what is picked from them.
use Rattle.std.specs.Prelude.{◌≡◌, ℕ, ◌+◌, ◌-◌, ◌*◌, ◌<◌, ◌≤◌, Bool, if◌then◌else◌, List, length}
use Rattle.std.specs.Prelude.{ℤ, pos, ◌+ℤ◌, ◌*ℤ◌, ◌≤ℤ◌, ◌<ℤ◌}
use Rattle.sf_base.specs.Bytes.{pixel_in}
use Rattle.sf_base.specs.declared.pixel.Rgba.{Rgba}

-- the pixel with an alpha of 255, which an opaque layer shows in its place
unfoldable pub opaque_pixel : Rgba → Rgba
opaque_pixel p = record { r = p.r; g = p.g; b = p.b; a = 255 }

-- each pixel before a number is painted over what it was, and the others are as they were
pub record PaintedBelow (old : List ℕ) (paint : ℕ → Rgba → Rgba) (at : ℕ) (new : List ℕ) : Type 0 where
  pub size : length new ≡ length old
  pub each : (k : ℕ) → k < at → pixel_in new k ≡ paint k (pixel_in old k)
  pub rest : (k : ℕ) → at ≤ k → pixel_in new k ≡ pixel_in old k

-- the number of the pixel that is so many steps from the first one
unfoldable pub picked : ℕ → ℤ → ℕ → ℤ
picked first step k = pos first +ℤ (step *ℤ pos k)

-- a row has a pixel of this number
pub record HasPixel (row : List ℕ) (number : ℤ) : Type 0 where
  pub low : pos 0 ≤ℤ number
  pub high : (pos 4 *ℤ number) <ℤ pos (length row)

-- each pixel before a number is the one that the steps lead to
pub record PickedBelow (source : List ℕ) (first : ℕ) (step : ℤ) (at : ℕ) (new : List ℕ) : Type 0 where
  pub each : (k j : ℕ) → k < at → pos j ≡ picked first step k → pixel_in new k ≡ pixel_in source j

-- the number of the pixel that a row of four shows so many columns further right than a column: the rows show pixels that
-- stand beside one another, on or back
abbrev pub column_pixel : ℕ → ℤ → Bool → ℕ → ℕ → ℕ → ℤ
column_pixel first step back column row k = picked (first + (if back then 3 - row else row)) step (column + k)

-- a pixel is in none of four rows of so many pixels, each of which begins so much further than the one before it
abbrev pub LiesBeside : ℕ → ℕ → ℕ → ℕ → Type 0
LiesBeside start apart count i = (row k : ℕ) → row < 4 → k < count → i ≡ start + row * apart + k → ⊥

-- each pixel of four such rows is the one of a source that a function numbers, and no other changed
pub record PicksColumns (start apart : ℕ) (source : List ℕ) (number : ℕ → ℕ → ℤ) (count : ℕ) (old new : List ℕ) : Type 0 where
  pub size : length new ≡ length old
  pub each : (row k j : ℕ) → row < 4 → k < count → pos j ≡ number row k → pixel_in new (start + row * apart + k) ≡ pixel_in source j
  pub rest : (i : ℕ) → LiesBeside start apart count i → pixel_in new i ≡ pixel_in old i

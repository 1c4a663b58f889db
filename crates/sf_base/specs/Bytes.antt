-- Pixels in bytes, four bytes to a pixel in the order red, green, blue, alpha.
use Rattle.std.specs.Prelude.{◌≡◌, ℕ, ◌+◌, ◌*◌, ◌<◌, ◌≤◌, List, slice_index}
use Rattle.sf_base.specs.declared.pixel.Rgba.{Rgba}

-- the pixel of this number, from 0
abbrev pub pixel_in : List ℕ → ℕ → Rgba
pixel_in bytes i = record {
  r = slice_index bytes (4 * i);
  g = slice_index bytes (4 * i + 1);
  b = slice_index bytes (4 * i + 2);
  a = slice_index bytes (4 * i + 3);
}

-- the pixels numbered from `start` and below `end` have the colour, and no other changed
pub record FillsSpan (old new : List ℕ) (start end : ℕ) (colour : Rgba) : Type 0 where
  pub inside : (i : ℕ) → start ≤ i → i < end → pixel_in new i ≡ colour
  pub below : (i : ℕ) → i < start → pixel_in new i ≡ pixel_in old i
  pub above : (i : ℕ) → end ≤ i → pixel_in new i ≡ pixel_in old i

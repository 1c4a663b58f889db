-- Rectangles of pixels, and the points that they cover.
use Rattle.std.specs.Prelude.{ℕ, ℤ, pos, ◌+ℤ◌, ◌≤ℤ◌, int_le, int_lt, Bool, ◌&&◌}
use Rattle.sf_base.specs.declared.geometry.Rect.{Rect}

-- a coordinate is among so many from a start on
abbrev pub is_within : ℤ → ℕ → ℤ → Bool
is_within start extent at = int_le start at && int_lt at (start +ℤ pos extent)

-- a rectangle covers a point: its left and upper edges are within, its right and lower ones are not
unfoldable pub covers : Rect → ℤ → ℤ → Bool
covers rect x y = is_within rect.x rect.width x && is_within rect.y rect.height y

-- so many coordinates from a start on lie within a size
pub record IsWithin (start : ℤ) (extent size : ℕ) : Type 0 where
  pub low : pos 0 ≤ℤ start
  pub high : (start +ℤ pos extent) ≤ℤ pos size

-- a rectangle lies within a width and a height
pub record LiesWithin (rect : Rect) (width height : ℕ) : Type 0 where
  pub across : IsWithin rect.x rect.width width
  pub down : IsWithin rect.y rect.height height

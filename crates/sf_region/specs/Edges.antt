-- The edges of rectangles as natural numbers: a coordinate is counted from 2 ^ 26 left of or above
-- the origin, so that the edges of regions lie between 2 ^ 25 and 3 * 2 ^ 25.
use Rattle.std.specs.Prelude.{ℕ, ℤ, pos, negsuc, ◌+◌, ◌-◌, suc}
use Rattle.sf_base.specs.declared.geometry.Rect.{Rect}

-- the offset of a coordinate
abbrev pub offset : ℤ → ℕ
offset (pos n) = n + 67108864
offset (negsuc n) = 67108864 - suc n

unfoldable pub left : Rect → ℕ
left r = offset r.x

unfoldable pub right : Rect → ℕ
right r = offset r.x + r.width

unfoldable pub top : Rect → ℕ
top r = offset r.y

unfoldable pub bottom : Rect → ℕ
bottom r = offset r.y + r.height

-- the least offset of an edge
abbrev pub first_offset : ℕ
first_offset = 33554432

-- the greatest offset of an edge
abbrev pub past_all : ℕ
past_all = 100663296

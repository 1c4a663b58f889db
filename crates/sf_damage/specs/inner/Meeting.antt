-- Rectangles that meet, or of which one has the other.
use Rattle.std.specs.Prelude.{ℕ, ℤ, pos, ◌+ℤ◌, int_le, int_lt, Bool, ◌&&◌}
use Rattle.sf_base.specs.declared.geometry.Rect.{Rect}

-- each of two spans of coordinates starts before the other ends
abbrev pub spans_meet : ℤ → ℕ → ℤ → ℕ → Bool
spans_meet start extent other many = int_lt start (other +ℤ pos many) && int_lt other (start +ℤ pos extent)

-- two rectangles meet in both directions, so that they share points unless one of them is empty
abbrev pub meets : Rect → Rect → Bool
meets one other = spans_meet one.x one.width other.x other.width && spans_meet one.y one.height other.y other.height

-- a span of coordinates starts no later than another and ends no earlier
abbrev pub span_has : ℤ → ℕ → ℤ → ℕ → Bool
span_has start extent other many = int_le start other && int_le (other +ℤ pos many) (start +ℤ pos extent)

-- a rectangle has all points of another
abbrev pub rect_has : Rect → Rect → Bool
rect_has one other = span_has one.x one.width other.x other.width && span_has one.y one.height other.y other.height

-- Rows of regions as spans, and what combining does to them.
use Rattle.std.specs.Prelude.{ℕ, pos, ◌-◌, ◌-ℤ◌, ◌<◌, ◌≤◌, ◌≡◌, Bool, true, false, not, ◌&&◌}
use Rattle.std.specs.Prelude.{◌||◌, if◌then◌else◌, nat_le, nat_lt, List, [], ◌∷◌, ◌++◌, Option, Some, None}
use Rattle.sf_base.specs.declared.geometry.Rect.{Rect}
use Rattle.sf_region.specs.Edges.{left, right, top, bottom, first_offset, past_all}
use Rattle.sf_region.specs.declared.spans.Span.{Span}
use Rattle.sf_region.specs.declared.combine.Combine.{Combine}
use Rattle.sf_region.specs.declared.combine.Combine.TheVariants.{Union, Intersect, Subtract}

-- whether a point is kept, from whether it is in the first and in the second set
abbrev pub keeps : Combine → Bool → Bool → Bool
keeps Union a b = a || b
keeps Intersect a b = a && b
keeps Subtract a b = a && not b

-- whether an offset is in one of the spans
abbrev pub on : List Span → ℕ → Bool
on [] x = false
on (s ∷ ss) x = (nat_le s.start x && nat_lt x s.end) || on ss x

-- a span from one offset up to another, if there is an offset between them
abbrev pub span_between : ℕ → ℕ → List Span
span_between from to = if nat_lt from to then record { start = from; end = to } ∷ [] else []

-- a span with an offset in it, within the bounds of offsets
pub record IsProper (s : Span) : Type 0 where
  pub from : first_offset ≤ s.start
  pub some : s.start < s.end
  pub to : s.end ≤ past_all

-- each span starts after an offset
abbrev pub AllAfter : ℕ → List Span → Type 0
AllAfter n [] = Unit {0}
AllAfter n (s ∷ ss) = (n < s.start) × AllAfter n ss

-- each span ends before an offset
abbrev pub AllBefore : ℕ → List Span → Type 0
AllBefore n [] = Unit {0}
AllBefore n (s ∷ ss) = (s.end < n) × AllBefore n ss

-- spans from left to right, none empty, with gaps between them
abbrev pub IsSpread : List Span → Type 0
IsSpread [] = Unit {0}
IsSpread (s ∷ ss) = IsProper s × AllAfter s.end ss × IsSpread ss

-- the first span ends after an offset
abbrev pub EndsAfter : ℕ → List Span → Type 0
EndsAfter n [] = Unit {0}
EndsAfter n (s ∷ ss) = n < s.end

-- spans of which the first ends after an offset
pub record IsAhead (ss : List Span) (x : ℕ) : Type 0 where
  pub spread : IsSpread ss
  pub ends : EndsAfter x ss

-- the spans that are done and one that began and ends here
abbrev pub closed : List Span → Option ℕ → ℕ → List Span
closed out None x = out
closed out (Some s) x = out ++ record { start = s; end = x } ∷ []

-- where the span began that is drawn on from here, if one is
abbrev pub next_open : Option ℕ → Bool → ℕ → Option ℕ
next_open began false x = None
next_open None true x = Some x
next_open (Some s) true x = Some s

-- the spans that are done where a span ends here, unless it is drawn on
abbrev pub next_done : List Span → Option ℕ → Bool → ℕ → List Span
next_done out began true x = out
next_done out began false x = closed out began x

-- the span that is drawn began after the spans that are done, and before an offset
abbrev pub BeganBetween : List Span → Option ℕ → ℕ → Type 0
BeganBetween out None x = AllBefore x out
BeganBetween out (Some s) x = AllBefore s out × (first_offset ≤ s) × (s < x)

-- a row is combined up to an offset: `first` and `second` are what is left of the two spans
pub record IsSwept (how : Combine) (all_first all_second first second : List Span) (done : List Span) (began : Option ℕ) (x : ℕ) : Type 0 where
  pub ahead_first : IsAhead first x
  pub ahead_second : IsAhead second x
  pub from : first_offset ≤ x
  pub to : x ≤ past_all
  pub same_first : (p : ℕ) → x ≤ p → on first p ≡ on all_first p
  pub same_second : (p : ℕ) → x ≤ p → on second p ≡ on all_second p
  pub spread : IsSpread done
  pub between : BeganBetween done began x
  pub kept : (p : ℕ) → p < x → on (closed done began x) p ≡ keeps how (on all_first p) (on all_second p)

-- a row of a region: the spans of its rectangles that have this height
abbrev pub row : List Rect → ℕ → List Span
row [] y = []
row (r ∷ rs) y = if nat_le (top r) y && nat_lt y (bottom r) then record { start = left r; end = right r } ∷ row rs y else row rs y

-- the rectangle of a span from one height down to another
unfoldable pub rect_of : Span → ℕ → ℕ → Rect
rect_of s from to = record {
  x = pos s.start -ℤ pos 67108864;
  y = pos from -ℤ pos 67108864;
  width = s.end - s.start;
  height = to - from;
}

-- those of each span of a row
abbrev pub rects_of : List Span → ℕ → ℕ → List Rect
rects_of [] from to = []
rects_of (s ∷ ss) from to = rect_of s from to ∷ rects_of ss from to

-- each rectangle ends below a height
abbrev pub AllEndBelow : ℕ → List Rect → Type 0
AllEndBelow y [] = Unit {0}
AllEndBelow y (r ∷ rs) = (y < bottom r) × AllEndBelow y rs

-- each rectangle has ended at a height
abbrev pub AllEndBy : ℕ → List Rect → Type 0
AllEndBy y [] = Unit {0}
AllEndBy y (r ∷ rs) = (bottom r ≤ y) × AllEndBy y rs

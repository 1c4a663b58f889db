-- How the bands of two regions are combined, from top to bottom.
use Rattle.std.specs.Prelude.{ℕ, ◌<◌, ◌≤◌, ◌≡◌, ◌≢◌, ◌⊎◌, nat_lt, if◌then◌else◌, List, [], ◌∷◌, ◌++◌}
use Rattle.sf_base.specs.declared.geometry.Rect.{Rect}
use Rattle.sf_region.specs.Canonical.{IsBanded}
use Rattle.sf_region.specs.Edges.{left, right, top, bottom, first_offset, past_all}
use Rattle.sf_region.specs.Spans.{on, keeps, row, rects_of, IsSpread, AllEndBelow, AllEndBy}
use Rattle.sf_region.specs.declared.spans.Span.{Span}
use Rattle.sf_region.specs.declared.combine.Combine.{Combine}

-- two rectangles share a point
pub record AreMet (r h : Rect) : Type 0 where
  pub before : left r < right h
  pub after : left h < right r
  pub above : top r < bottom h
  pub below : top h < bottom r

-- a rectangle ends above a row, or at that row and no further right than a column
abbrev pub EndsBefore : ℕ → ℕ → Rect → Type 0
EndsBefore low column r = (bottom r < low) ⊎ ((bottom r ≡ low) × (right r ≤ column))

-- the rectangles of a row from one height down to another, if there is a row between them
abbrev pub band_between : List Span → ℕ → ℕ → List Rect
band_between ss from to = if nat_lt from to then rects_of ss from to else []

-- bands that all end below a height
pub record IsAheadRows (rects : List Rect) (y : ℕ) : Type 0 where
  pub banded : IsBanded rects
  pub ends : AllEndBelow y rects

-- a row that is drawn on began within the bounds of offsets
abbrev pub FromFirst : List Span → ℕ → Type 0
FromFirst [] from = Unit {0}
FromFirst (s ∷ ss) from = first_offset ≤ from

-- below each of these rectangles another row stands: one of `all`, or the row that is drawn on
abbrev pub Differ : List Rect → List Span → ℕ → List Rect → Type 0
Differ all now from [] = Unit {0}
Differ all now from (r ∷ rs) =
    (bottom r < from → row all (bottom r) ≢ row all (top r)) × (bottom r ≡ from → now ≢ row all (top r)) × Differ all now from rs

-- bands that are done, and a row that is drawn on from a height
pub record IsBuilt (rects : List Rect) (now : List Span) (from : ℕ) : Type 0 where
  pub banded : IsBanded rects
  pub done : AllEndBy from rects
  pub spread : IsSpread now
  pub began : FromFirst now from
  pub differ : Differ rects now from rects

-- the same row is drawn on, or its band is done and another begins
abbrev pub Turned : List Rect → List Span → ℕ → List Span → ℕ → List Rect → List Span → ℕ → Type 0
Turned rects now from next y rects' now' from' =
    ((next ≡ now) × (rects' ≡ rects) × (now' ≡ now) × (from' ≡ from))
    ⊎ ((next ≢ now) × (rects' ≡ rects ++ rects_of now from y) × (now' ≡ next) × (from' ≡ y))

-- two regions are combined down to a height: `first` and `second` are what is left of them
pub record IsCombined (how : Combine) (all_first all_second first second : List Rect) (rects : List Rect) (now : List Span) (from y : ℕ) : Type 0 where
  pub ahead_first : IsAheadRows first y
  pub ahead_second : IsAheadRows second y
  pub drawn : from < y
  pub lower : first_offset ≤ y
  pub upper : y ≤ past_all
  pub same_first : (p : ℕ) → y ≤ p → row first p ≡ row all_first p
  pub same_second : (p : ℕ) → y ≤ p → row second p ≡ row all_second p
  pub built : IsBuilt rects now from
  pub kept : (x p : ℕ) → p < y → on (row (rects ++ rects_of now from y) p) x ≡ keeps how (on (row all_first p) x) (on (row all_second p) x)

-- The canonical list of a region's rectangles. They stand in bands, one below the other: those of
-- a band have the same upper and lower edge, and go from left to right with gaps between them.
-- Where a band ends, the row below differs from the band's rows. So equal sets of points have
-- equal lists.
use Rattle.std.specs.Prelude.{ℤ, true, false, ◌<◌, ◌≤◌, ◌≡◌, ◌≢◌, ◌⊎◌, List, [], ◌∷◌}
use Rattle.sf_base.specs.declared.geometry.Rect.{Rect}
use Rattle.sf_region.specs.Edges.{left, right, top, bottom}
use Rattle.sf_base.specs.Geometry.{covers}
use Rattle.sf_region.specs.Points.{IsInBounds, has}
use Rattle.sf_region.specs.Spans.{row}

-- a rectangle with a point in it
pub record IsFull (r : Rect) : Type 0 where
  pub near : IsInBounds r
  pub wide : left r < right r
  pub high : top r < bottom r

-- a rectangle stands in a later band than another, or to its right in the same band
abbrev pub Follows : Rect → Rect → Type 0
Follows r q = (bottom r ≤ top q) ⊎ ((top q ≡ top r) × (bottom q ≡ bottom r) × (right r < left q))

abbrev pub AllFollow : Rect → List Rect → Type 0
AllFollow r [] = Unit {0}
AllFollow r (q ∷ qs) = Follows r q × AllFollow r qs

-- rectangles in bands
abbrev pub IsBanded : List Rect → Type 0
IsBanded [] = Unit {0}
IsBanded (r ∷ rs) = IsFull r × AllFollow r rs × IsBanded rs

-- the row below each of these rectangles differs from the rectangle's own
abbrev pub Changes : List Rect → List Rect → Type 0
Changes all [] = Unit {0}
Changes all (r ∷ rs) = (row all (bottom r) ≢ row all (top r)) × Changes all rs

pub record IsCanonical (rects : List Rect) : Type 0 where
  pub banded : IsBanded rects
  pub changes : Changes rects rects

-- no pixel is covered twice
abbrev pub IsDisjoint : List Rect → Type 0
IsDisjoint [] = Unit {0}
IsDisjoint (r ∷ rs) = ((x y : ℤ) → covers r x y ≡ true → has rs x y ≡ false) × IsDisjoint rs

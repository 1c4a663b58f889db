-- Regions as sets of points, given by lists of rectangles.
use Rattle.std.specs.Prelude.{ℤ, pos, ◌+ℤ◌, ◌-ℤ◌, Bool, true, List, ◌≡◌, ◌≤ℤ◌, ◌<ℤ◌}
use Rattle.std.specs.List.{list_any}
use Rattle.sf_base.specs.Geometry.{covers}
use Rattle.sf_base.specs.declared.geometry.Rect.{Rect}

-- whether a point is in a region: one of its rectangles covers it
abbrev pub has : List Rect → ℤ → ℤ → Bool
has rects x y = list_any (λ r. covers r x y) rects

-- the bounds of coordinates
abbrev pub far : ℤ
far = pos 33554432

abbrev pub neg_far : ℤ
neg_far = pos 0 -ℤ far

-- a rectangle whose edges lie within 2 ^ 25 of 0
pub record IsInBounds (r : Rect) : Type 0 where
  pub left : neg_far ≤ℤ r.x
  pub right : (r.x +ℤ pos r.width) ≤ℤ far
  pub top : neg_far ≤ℤ r.y
  pub bottom : (r.y +ℤ pos r.height) ≤ℤ far

-- a rectangle moved to the right and down
unfoldable pub moved : ℤ → ℤ → Rect → Rect
moved dx dy r = record { x = r.x +ℤ dx; y = r.y +ℤ dy; width = r.width; height = r.height }

-- each pixel of a region, moved, lies within 2 ^ 25 of 0
abbrev pub StaysInBounds : ℤ → ℤ → List Rect → Type 0
StaysInBounds dx dy rects = (x y : ℤ) → has rects x y ≡ true
    → (neg_far ≤ℤ (x +ℤ dx)) × ((x +ℤ dx) <ℤ far) × (neg_far ≤ℤ (y +ℤ dy)) × ((y +ℤ dy) <ℤ far)

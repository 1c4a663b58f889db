-- Where two views of a display differ.
use Rattle.std.specs.Prelude.{◌≡◌, ◌≢◌, ◌↔◌, ◌||◌, ℕ, ℤ, Bool, List, false, map, filter, IsTrue}
use Rattle.std.specs.List.{All}
use Rattle.sf_base.specs.Geometry.{covers}
use Rattle.sf_base.specs.declared.geometry.Rect.{Rect}
use Rattle.sf_view.specs.sf_picture.declared.picture.Picture.{Picture}
use Rattle.sf_region.specs.Points.{has, IsInBounds}
use Rattle.sf_damage.specs.inner.Meeting.{meets}
use Rattle.sf_view.specs.Stacks.{Sheet, sheet_of, stack, view_image}
use Rattle.sf_view.specs.Views.{ViewOf, is_in_clip}
use Rattle.sf_view.specs.declared.drawn.Drawn.{Drawn}

-- a region has a point exactly where the stacks of two views differ
pub record Damages (old new : ViewOf) (region : List Rect) : Type 0 where
  pub points : (x y : ℤ) → IsTrue (has region x y) ↔ (stack old x y ≢ stack new x y)

-- equal stacks have equal images
abbrev pub StacksDecide : Type 0
StacksDecide = (picture : ℕ → Picture) (old new : ViewOf) (x y : ℤ) → stack old x y ≡ stack new x y → view_image picture old x y ≡ view_image picture new x y

-- the stack of a list of drawn layers at a point
abbrev pub stack_in : List Drawn → ℤ → ℤ → List Sheet
stack_in layers x y = map sheet_of (filter (λ drawn. is_in_clip drawn x y) layers)

-- of the points of a part a region has exactly those where the stacks of two lists differ
pub record DiffersIn (olds news : List Drawn) (part region : List Rect) : Type 0 where
  pub points : (x y : ℤ) → IsTrue (has region x y) ↔ (IsTrue (has part x y) × (stack_in olds x y ≢ stack_in news x y))

-- of the points of a window rectangles have exactly those where the stacks of two lists differ
pub record DiffersWithin (olds news : List Drawn) (window : Rect) (rects : List Rect) : Type 0 where
  pub near : All IsInBounds rects
  pub points : (x y : ℤ) → IsTrue (has rects x y) ↔ (IsTrue (covers window x y) × (stack_in olds x y ≢ stack_in news x y))

-- two rectangles have the points of a window
pub record AreHalves (window : Rect) (halves : Rect × Rect) : Type 0 where
  pub first : IsInBounds halves.0
  pub second : IsInBounds halves.1
  pub points : (x y : ℤ) → covers window x y ≡ (covers halves.0 x y || covers halves.1 x y)

-- beside a region the stacks of two lists are equal
pub record IsSameBeside (olds news : List Drawn) (region : List Rect) : Type 0 where
  pub stacks : (x y : ℤ) → has region x y ≡ false → stack_in olds x y ≡ stack_in news x y

-- each clip is within the bounds of regions
abbrev pub AreNear : List Drawn → Type 0
AreNear layers = All (λ drawn. IsInBounds drawn.clip) layers

abbrev pub clip_of : Drawn → Rect
clip_of drawn = drawn.clip

-- a layer's clip and a rectangle meet in both directions
abbrev pub meets_clip : Rect → Drawn → Bool
meets_clip rect drawn = meets drawn.clip rect

-- a region has a point exactly where the stacks of two lists differ
pub record DamagesLists (olds news : List Drawn) (region : List Rect) : Type 0 where
  pub points : (x y : ℤ) → IsTrue (has region x y) ↔ (stack_in olds x y ≢ stack_in news x y)

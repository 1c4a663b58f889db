-- Where a layer lies on a display, found from the root down.
use Rattle.std.specs.Prelude.{◌≡◌, ℕ, Option, Some, None, slice_get, slice_index_or, ◌*◌, ◌≤◌, Bool, ◌&&◌, List, length, ℤ, pos, neg_ℤ, ◌≤ℤ◌}
use Rattle.sf_base.specs.Geometry.{is_within}
use Rattle.sf_tree.specs.sf_layer.declared.layer.Layer.{Layer}
use Rattle.sf_view.specs.declared.content.Content.{Content}
use Rattle.sf_view.specs.declared.content.Content.TheVariants as content
use Rattle.sf_view.specs.declared.placement.Placement.{Placement}
use Rattle.sf_view.specs.Ancestry.{alpha_of, ancestry, is_in_crops, place_of}
use Rattle.sf_view.specs.inner.Intervals.{is_in_interval}

-- a point is on the display
abbrev pub is_in_display : ℕ → ℕ → ℤ → ℤ → Bool
is_in_display width height x y = is_within (pos 0) width x && is_within (pos 0) height y

-- so many positions lead at most so far
pub record IsInReach (steps : ℕ) (at : ℤ) : Type 0 where
  pub low : neg_ℤ (pos (16384 * steps)) ≤ℤ at
  pub high : at ≤ℤ pos (16384 * steps)

abbrev pub is_in_bounds : Placement → ℤ → ℤ → Bool
is_in_bounds placement x y = is_in_interval placement.across x && is_in_interval placement.down y

-- the bounds lie on the display
pub record IsOnDisplay (width height : ℕ) (placement : Placement) : Type 0 where
  pub left : pos 0 ≤ℤ placement.across.from
  pub right : placement.across.to ≤ℤ pos width
  pub top : pos 0 ≤ℤ placement.down.from
  pub bottom : placement.down.to ≤ℤ pos height

-- the placement of the first layer of a list of a layer and its ancestors
pub record IsPlaced (width height : ℕ) (ancestry : List Layer) (placement : Placement) : Type 0 where
  pub x : placement.x ≡ (place_of ancestry).0
  pub y : placement.y ≡ (place_of ancestry).1
  pub alpha : placement.alpha ≡ alpha_of ancestry
  pub bounds : (x y : ℤ) → is_in_bounds placement x y ≡ (is_in_display width height x y && is_in_crops ancestry x y)
  pub on_display : IsOnDisplay width height placement
  pub near_x : IsInReach (length ancestry) placement.x
  pub near_y : IsInReach (length ancestry) placement.y

-- the part of a buffer that is shown is no greater than a buffer can be
abbrev pub HasSmallCrop : Content → Type 0
HasSmallCrop (content.Colour _) = Unit {0}
HasSmallCrop (content.Buffer shown) = (shown.crop.width ≤ 512) × (shown.crop.height ≤ 512)

-- the placement of some layer, of few ancestors
pub record IsPlacement (width height : ℕ) (placement : Placement) : Type 0 where
  pub ancestry : List Layer
  pub few : length ancestry ≤ 9216
  pub placed : IsPlaced width height ancestry placement

-- what was found of layers, by where they stand in the tree, is their placements
pub record AreFound (tree : List Layer) (width height : ℕ) (found : List (Option Placement)) : Type 0 where
  pub size : length found ≡ length tree
  pub right : (index : ℕ) (layer : Layer) (placement : Placement) → slice_get tree index ≡ Some layer
      → slice_index_or found index None ≡ Some placement → IsPlaced width height (ancestry tree layer) placement

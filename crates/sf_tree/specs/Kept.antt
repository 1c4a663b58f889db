-- What every tree keeps.
use Rattle.std.specs.Prelude.{◌≡◌, ◌≢◌, ℕ, ◌<◌, ◌≤◌, true, List, length, Some, None, IfSome, slice_index_or}
use Rattle.std.specs.List.{All}
use Rattle.sf_base.specs.declared.ids.LayerId.{LayerId}
use Rattle.sf_base.specs.Geometry.{LiesWithin}
use Rattle.sf_layer.specs.Ranges.{IsCoordinate, IsCrop}
use Rattle.sf_layer.specs.declared.kind.Kind.TheVariants as kind
use Rattle.sf_layer.specs.declared.layer.Layer.{Layer}
use Rattle.sf_layer.specs.declared.parent.Parent.TheVariants as parent
use Rattle.sf_tree.specs.Layers.{index_of, has_layer, has_parent}

-- no two layers have one number
abbrev pub IsDistinct : List Layer → Type 0
IsDistinct tree = (place : ℕ) (d : Layer) → place < length tree → index_of tree (slice_index_or tree place d).number ≡ Some place

-- the layer's steps lead to layers that are in the tree
pub record IsTied (tree : List Layer) (layer : Layer) : Type 0 where
  pub parent : has_parent tree layer.parent ≡ true
  pub relative : IfSome layer.relative (λ id. has_layer tree id ≡ true)

-- the layer's steps lead to lower ranks
pub record IsRanked (rank : ℕ → ℕ) (layer : Layer) : Type 0 where
  pub parent : (id : LayerId) → layer.parent ≡ parent.Layer id → rank id.0 < rank layer.number.0
  pub relative : (id : LayerId) → layer.relative ≡ Some id → rank id.0 < rank layer.number.0

-- layers can be ranked so that each step leads to a lower rank; so no layer reaches itself
pub record HasNoCycle (tree : List Layer) : Type 0 where
  pub rank : ℕ → ℕ
  pub ranked : All (IsRanked rank) tree

-- positions, crops and the orientation are in their ranges
pub record IsLayerInRange (layer : Layer) : Type 0 where
  pub x : IsCoordinate layer.position.0
  pub y : IsCoordinate layer.position.1
  pub crop : IfSome layer.crop IsCrop
  pub shown : IfSome layer.shown (λ shown. LiesWithin shown.crop 512 512)
  pub orient : layer.orient ≤ 7

-- what is no colour layer has the colour that it began with, and what is no buffer layer shows nothing
pub record IsOfKind (layer : Layer) : Type 0 where
  pub colour : layer.kind ≢ kind.Colour → layer.colour ≡ record { r = 0; g = 0; b = 0; a = 255 }
  pub shown : layer.kind ≢ kind.Buffer → layer.shown ≡ None

-- the layers of a tree that can have so many, at most 9,216
pub record IsTree (most : ℕ) (layers : List Layer) : Type 0 where
  pub limit : most ≤ 9216
  pub few : length layers ≤ most
  pub numbered : All (λ layer. 0 < layer.number.0) layers
  pub distinct : IsDistinct layers
  pub tied : All (IsTied layers) layers
  pub no_cycle : HasNoCycle layers
  pub in_range : All IsLayerInRange layers
  pub of_kind : All IsOfKind layers

-- A layer and its ancestors: where it lies, how opaque it is drawn, and to what it is cut.
use Rattle.std.specs.Prelude.{ℕ, zero, suc, Bool, true, ◌&&◌, List, [], ◌∷◌, length, Option, Some, None, ℤ, pos, ◌+ℤ◌}
use Rattle.sf_base.specs.Blend.{product}
use Rattle.sf_base.specs.Geometry.{is_within}
use Rattle.sf_base.specs.declared.geometry.Rect.{Rect}
use Rattle.sf_tree.specs.sf_layer.declared.layer.Layer.{Layer}
use Rattle.sf_tree.specs.Layers.{parent_layer}

-- the way up from a layer, if it is there
abbrev pub and_above : (Layer → List Layer) → Option Layer → List Layer
and_above above None = []
and_above above (Some layer) = above layer

-- a layer and its ancestors, from the layer up; they are no more than the tree has layers
abbrev pub ancestry_within : List Layer → ℕ → Layer → List Layer
ancestry_within tree zero layer = []
ancestry_within tree (suc steps) layer = layer ∷ and_above (ancestry_within tree steps) (parent_layer tree layer.parent)

-- a layer and those above it, from the layer up
unfoldable pub ancestry : List Layer → Layer → List Layer
ancestry tree layer = ancestry_within tree (length tree) layer

-- the sum of the positions, from the root down to the first layer of the list
abbrev pub place_of : List Layer → ℤ × ℤ
place_of [] = (pos 0, pos 0)
place_of (layer ∷ above) = ((place_of above).0 +ℤ layer.position.0, (place_of above).1 +ℤ layer.position.1)

-- the product of the alphas, from 255 at the root down, rounded at each layer
abbrev pub alpha_of : List Layer → ℕ
alpha_of [] = 255
alpha_of (layer ∷ above) = product (alpha_of above) layer.alpha

-- a point lies in a crop, if there is one, that was moved to a place
abbrev pub is_in_crop : ℤ × ℤ → Option Rect → ℤ → ℤ → Bool
is_in_crop place None x y = true
is_in_crop place (Some crop) x y = is_within (place.0 +ℤ crop.x) crop.width x && is_within (place.1 +ℤ crop.y) crop.height y

-- a point lies in the crop of each layer of the list that has one, which lies at that layer's place
abbrev pub is_in_crops : List Layer → ℤ → ℤ → Bool
is_in_crops [] x y = true
is_in_crops (layer ∷ above) x y = is_in_crops above x y && is_in_crop (place_of (layer ∷ above)) layer.crop x y

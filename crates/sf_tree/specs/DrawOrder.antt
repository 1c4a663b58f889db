-- The order in which the layers that show are drawn.
use Rattle.std.specs.Prelude.{ℕ, zero, suc, ◌==◌, Bool, true, false, not, if◌then◌else◌, List, [], ◌∷◌, ◌++◌, length, filter, Option, Some, None, pos}
use Rattle.std.specs.List.{flat_map}
use Rattle.std.specs.Prelude.{int_lt}
use Rattle.sf_base.specs.declared.ids.LayerId.{LayerId}
use Rattle.sf_layer.specs.declared.layer.Layer.{Layer}
use Rattle.sf_layer.specs.declared.parent.Parent.{Parent}
use Rattle.sf_layer.specs.declared.parent.Parent.TheVariants as parent
use Rattle.sf_tree.specs.Showing.{shows}

-- what a layer is drawn with: the layer that it is relative to, or else its parent
abbrev pub draw_parent : Layer → Parent
draw_parent layer = by_relative layer.relative
  where
    by_relative : Option LayerId → Parent
    by_relative None = layer.parent
    by_relative (Some id) = parent.Layer id

-- both are the root, the same layer, or nothing
abbrev pub is_same : Parent → Parent → Bool
is_same parent.Root parent.Root = true
is_same (parent.Layer a) (parent.Layer b) = a.0 == b.0
is_same parent.Nothing parent.Nothing = true
is_same _ _ = false

-- an older layer goes before the newer ones of the same z
abbrev pub put_by_z : Layer → List Layer → List Layer
put_by_z layer [] = layer ∷ []
put_by_z layer (other ∷ others) =
    if int_lt other.z layer.z then other ∷ put_by_z layer others else layer ∷ other ∷ others

-- layers by z, the least first, and by creation where z is equal
abbrev pub in_z_order : List Layer → List Layer
in_z_order [] = []
in_z_order (layer ∷ layers) = put_by_z layer (in_z_order layers)

-- of layers those that are drawn with this one
abbrev pub drawn_with : Parent → List Layer → List Layer
drawn_with with layers = filter (λ layer. is_same (draw_parent layer) with) layers

-- a layer lies behind what it is drawn with
abbrev pub is_behind : Layer → Bool
is_behind layer = int_lt layer.z (pos 0)

-- a layer with all that is drawn with it: first those of z below 0, then the layer itself, then the others; steps
-- down end before there are more than the tree has layers
abbrev pub draw : List Layer → ℕ → Layer → List LayerId
draw showing zero layer = []
draw showing (suc steps) layer =
    let with = drawn_with (parent.Layer layer.number) showing in
    flat_map (draw showing steps) (filter is_behind with)
    ++ layer.number ∷ flat_map (draw showing steps) (filter (λ other. not (is_behind other)) with)

-- the layers that show, from the back
unfoldable pub draw_order : List Layer → List LayerId
draw_order tree =
    let showing = in_z_order (filter (shows tree) tree) in
    flat_map (draw showing (length tree)) (drawn_with parent.Root showing)

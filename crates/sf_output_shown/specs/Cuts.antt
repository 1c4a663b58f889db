-- A layer with all below it, by itself, as if the layer hung from the root.
use Rattle.std.specs.Prelude.{Bool, if◌then◌else◌, List, filter, map, Option, Some, None, pos}
use Rattle.std.specs.List.{list_any}
use Rattle.sf_base.specs.declared.ids.LayerId.{LayerId}
use Rattle.sf_view.specs.sf_layer.declared.layer.Layer.{Layer}
use Rattle.sf_view.specs.sf_layer.declared.parent.Parent.TheVariants as parent
use Rattle.sf_view.specs.sf_tree.Layers.{has_layer, is_numbered}
use Rattle.sf_view.specs.sf_tree.Trees.{TreeOf}
use Rattle.sf_view.specs.Ancestry.{ancestry}

-- the layer has this number, or it reaches the layer that has it by parents
abbrev pub is_under : List Layer → LayerId → Layer → Bool
is_under tree id layer = list_any (is_numbered id) (ancestry tree layer)

-- all such layers, in the order of creation
abbrev pub under : List Layer → LayerId → List Layer
under tree id = filter (is_under tree id) tree

-- what a layer is relative to, if that is one of these
abbrev pub relative_in : List Layer → Option LayerId → Option LayerId
relative_in layers None = None
relative_in layers (Some id) = if has_layer layers id then Some id else None

-- the layer itself hangs from the root, at its upper left corner, and is relative to none; each other layer keeps all that it
-- has, but it is relative to none where what it is relative to is not among these
abbrev pub cut_layer : List Layer → LayerId → Layer → Layer
cut_layer kept id layer =
    if is_numbered id layer
    then record layer { parent = parent.Root; position = (pos 0, pos 0); relative = None }
    else record layer { relative = relative_in kept layer.relative }

-- a layer with all below it, as a tree of its own
abbrev pub cut : List Layer → LayerId → List Layer
cut tree id = map (cut_layer (under tree id) id) (under tree id)

-- the tree of a layer with all below it, if the layer is there
abbrev pub cut_of : List Layer → LayerId → Option TreeOf
cut_of tree id = if has_layer tree id then Some (record { layers = cut tree id; most = 9216 }) else None

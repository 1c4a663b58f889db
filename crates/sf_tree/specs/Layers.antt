-- The layers of a tree, in the order of their creation, and how one is found by its number.
use Rattle.std.specs.Prelude.{ℕ, ◌==◌, Bool, true, List, Option, None, is_some}
use Rattle.std.specs.List.{find, position}
use Rattle.sf_base.specs.declared.ids.LayerId.{LayerId}
use Rattle.sf_layer.specs.declared.layer.Layer.{Layer}
use Rattle.sf_layer.specs.declared.parent.Parent.{Parent}
use Rattle.sf_layer.specs.declared.parent.Parent.TheVariants as parent

-- the layer has this number
abbrev pub is_numbered : LayerId → Layer → Bool
is_numbered id layer = layer.number.0 == id.0

-- the layer of this number, if it is in the tree
abbrev pub layer_of : List Layer → LayerId → Option Layer
layer_of tree id = find (is_numbered id) tree

-- its place in the order of creation
abbrev pub index_of : List Layer → LayerId → Option ℕ
index_of tree id = position (is_numbered id) tree

-- the tree has this layer
abbrev pub has_layer : List Layer → LayerId → Bool
has_layer tree id = is_some (layer_of tree id)

-- a layer that is named as a parent is in the tree
abbrev pub has_parent : List Layer → Parent → Bool
has_parent tree parent.Root = true
has_parent tree (parent.Layer id) = has_layer tree id
has_parent tree parent.Nothing = true

-- the layer that a layer hangs from, if it is one
abbrev pub parent_layer : List Layer → Parent → Option Layer
parent_layer tree parent.Root = None
parent_layer tree (parent.Layer id) = layer_of tree id
parent_layer tree parent.Nothing = None

-- A layer of a tree.
use Rattle.std.specs.Prelude.{◌≡◌, ℕ, ◌&&◌, Bool, List, Some, slice_get}
use Rattle.sf_layer.specs.declared.layer.Layer.{Layer}
use Rattle.sf_tree.specs.Kept.{IsTree}
use Rattle.sf_tree.specs.Showing.{parent_passes, relative_passes, shows}

-- A layer of a tree with room for so many, at its place.
pub record LayerOfTree : Type 0 where
  pub most : ℕ
  pub tree : List Layer
  pub place : ℕ
  pub layer : Layer
  pub is : IsTree most tree
  pub here : slice_get tree place ≡ Some layer

-- its parent and the layer that it is relative to let it show
abbrev pub above_passes : LayerOfTree → Bool
above_passes of =
    let shown = shows of.tree in
    parent_passes of.tree shown of.layer.parent && relative_passes of.tree shown of.layer.relative

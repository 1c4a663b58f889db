-- What is found out of layers on the way to a draw order.
use Rattle.std.specs.Prelude.{◌≡◌, ℕ, ◌<◌, ◌≤◌, Bool, List, length, Option, Some, None, slice_index_or}
use Rattle.std.specs.Prelude.{slice_get, slice_set, ◌∷◌, ◌++◌, [], drop, filter, int_lt, map, reverse, true, false, not, ℤ}
use Rattle.std.specs.List.{All, AllZip, flat_map}
use Rattle.sf_base.specs.declared.ids.LayerId.{LayerId}
use Rattle.sf_layer.specs.declared.layer.Layer.{Layer}
use Rattle.sf_layer.specs.declared.parent.Parent.TheVariants as parent
use Rattle.sf_tree.specs.declared.order.Below.{Below}
use Rattle.sf_tree.specs.DrawOrder.{draw, drawn_with, in_z_order, is_behind}
use Rattle.sf_tree.specs.Kept.{IsRanked}
use Rattle.sf_tree.specs.Layers.{layer_of}
use Rattle.sf_tree.specs.Showing.{shows}

-- a ranking of a tree in which ranks of its layers stay below the number of layers
pub record IsBounded (tree : List Layer) (rank : ℕ → ℕ) : Type 0 where
  pub ranked : All (IsRanked rank) tree
  pub bounded : (id : LayerId) (layer : Layer) → layer_of tree id ≡ Some layer → rank id.0 < length tree
  pub most : (n : ℕ) → rank n ≤ length tree

-- the layer is of the tree, and in some ranking its rank is below a number of steps
pub record Outranks (tree : List Layer) (layer : Layer) (steps : ℕ) : Type 0 where
  pub rank : ℕ → ℕ
  pub bounded : IsBounded tree rank
  pub found : layer_of tree layer.number ≡ Some layer
  pub low : rank layer.number.0 < steps

-- what is known of layers by place is whether they show
pub record IsKnown (tree : List Layer) (known : List (Option Bool)) : Type 0 where
  pub size : length known ≡ length tree
  pub right : (place : ℕ) (d : Layer) (shown : Bool) → place < length tree → slice_index_or known place None ≡ Some shown
      → shown ≡ shows tree (slice_index_or tree place d)

-- the layers at these places
abbrev pub AtPlaces : List Layer → List ℕ → List Layer → Type 0
AtPlaces tree places layers = AllZip (λ place layer. slice_get tree place ≡ Some layer) places layers

-- a key of the map that sorts layers by z is that of a layer, which is none of the first ones
pub record IsEntry (tree : List Layer) (from : ℕ) (entry : (ℤ × ℕ) × Unit {0}) (layer : Layer) : Type 0 where
  pub at : slice_get tree entry.0.1 ≡ Some layer
  pub z : entry.0.0 ≡ layer.z
  pub later : from ≤ entry.0.1

-- the first of these layers has this z or a greater one
abbrev pub IsFrom : ℤ → List Layer → Type 0
IsFrom z [] = Unit {0}
IsFrom z (layer ∷ layers) = int_lt layer.z z ≡ false

-- the places, from the last to the first, are those of the layers from a place on that show, by z, of which the first has this z or a greater one
pub record IsRising (tree : List Layer) (from : ℕ) (z : ℤ) (places : List ℕ) : Type 0 where
  pub at : AtPlaces tree (reverse places) (in_z_order (filter (shows tree) (drop from tree)))
  pub first : IsFrom z (in_z_order (filter (shows tree) (drop from tree)))

-- the layers that show, by z
unfoldable pub showing : List Layer → List Layer
showing tree = in_z_order (filter (shows tree) tree)

-- the layers that are drawn with each layer, by place, as far as these layers go
pub record IsBelow (tree layers : List Layer) (below : List (List ℕ)) : Type 0 where
  pub size : length below ≡ length tree
  pub lists : (place : ℕ) (layer : Layer) → slice_get tree place ≡ Some layer
      → AtPlaces tree (slice_index_or below place []) (drawn_with (parent.Layer layer.number) layers)

-- the places of these layers, by what they are drawn with
pub record IsSortedBelow (tree layers : List Layer) (roots : List ℕ) (below : List (List ℕ)) : Type 0 where
  pub hang : AtPlaces tree roots (drawn_with parent.Root layers)
  pub lists : IsBelow tree layers below

-- the places of the layers that are drawn with each layer
abbrev pub lists_of : Below → List (List ℕ)
lists_of below = map (λ list. list.items) below.lists.items

-- the layer at a place joins those that are sorted
abbrev pub SortsOneMore : List Layer → ℕ → Below → Below → Type 0
SortsOneMore tree place old new =
    (earlier : List Layer) (layer : Layer) → slice_get tree place ≡ Some layer
    → IsSortedBelow tree earlier old.roots.items (lists_of old) → IsSortedBelow tree (earlier ++ layer ∷ []) new.roots.items (lists_of new)

-- one more place at the end of a list
abbrev pub with_place : List (List ℕ) → ℕ → ℕ → List (List ℕ)
with_place lists with place = slice_set lists with (slice_index_or lists with [] ++ place ∷ [])

-- of layers those that lie behind the one that they are drawn with, or the others
abbrev pub is_on_side : Bool → Layer → Bool
is_on_side true layer = is_behind layer
is_on_side false layer = not (is_behind layer)

-- of these layers those on one side are drawn, each with all that is drawn with it; steps down end before there are more than the
-- tree has layers
abbrev pub drawn_on_side : List Layer → ℕ → Bool → List Layer → List LayerId
drawn_on_side tree steps behind layers = flat_map (draw (showing tree) steps) (filter (is_on_side behind) layers)

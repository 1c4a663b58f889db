-- What is looked for on the way up from a layer.
use Rattle.std.specs.Prelude.{◌≡◌, ℕ, Bool, List, find, length, Option, Some, None, slice_get, slice_index_or}
use Rattle.std.specs.Option.{option_map}
use Rattle.sf_base.specs.declared.ids.LayerId.{LayerId}
use Rattle.sf_view.specs.sf_layer.declared.layer.Layer.{Layer}
use Rattle.sf_output_shown.specs.Copies.{number_of}
use Rattle.sf_output_shown.specs.Displays.{is_top}
use Rattle.sf_output_shown.specs.declared.above.Wanted.{Wanted}
use Rattle.sf_output_shown.specs.declared.above.Wanted.TheVariants as wanted
use Rattle.sf_view.specs.sf_tree.Layers.{is_numbered}
use Rattle.sf_view.specs.Ancestry.{ancestry}

abbrev pub is_wanted : Wanted → Layer → Bool
is_wanted (wanted.Numbered id) layer = is_numbered id layer
is_wanted wanted.Top layer = is_top layer

-- the number of the first wanted layer of a list, if it has one
abbrev pub found_on : Wanted → List Layer → Option LayerId
found_on wanted layers = option_map number_of (find (is_wanted wanted) layers)

-- the same of a layer and its ancestors, from the layer up
abbrev pub found_above : Wanted → List Layer → Layer → Option LayerId
found_above wanted tree layer = found_on wanted (ancestry tree layer)

-- what was found of layers, by where they stand in the tree
pub record AreFound (wanted : Wanted) (tree : List Layer) (found : List (Option (Option LayerId))) : Type 0 where
  pub size : length found ≡ length tree
  pub right : (index : ℕ) (layer : Layer) (above : Option LayerId) → slice_get tree index ≡ Some layer
      → slice_index_or found index None ≡ Some above → above ≡ found_above wanted tree layer

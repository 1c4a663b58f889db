-- Which layers show.
use Rattle.std.specs.Prelude.{ℕ, zero, suc, Bool, true, false, not, ◌&&◌, List, length, Option, Some, None}
use Rattle.sf_base.specs.declared.ids.LayerId.{LayerId}
use Rattle.sf_layer.specs.declared.layer.Layer.{Layer}
use Rattle.sf_layer.specs.declared.parent.Parent.{Parent}
use Rattle.sf_layer.specs.declared.parent.Parent.TheVariants as parent
use Rattle.sf_tree.specs.Layers.{layer_of}

-- the layer is there and passes the test
abbrev pub passes : (Layer → Bool) → Option Layer → Bool
passes test None = false
passes test (Some layer) = test layer

-- the parent is the root, or a layer that passes the test
abbrev pub parent_passes : List Layer → (Layer → Bool) → Parent → Bool
parent_passes tree test parent.Root = true
parent_passes tree test (parent.Layer id) = passes test (layer_of tree id)
parent_passes tree test parent.Nothing = false

-- there is no relative layer, or it passes the test
abbrev pub relative_passes : List Layer → (Layer → Bool) → Option LayerId → Bool
relative_passes tree test None = true
relative_passes tree test (Some id) = passes test (layer_of tree id)

-- a layer shows, where a test says which other layers do: it is not hidden, its parent is the root or passes, and so does the layer
-- that it is relative to, if there is one
abbrev pub shows_by : List Layer → (Layer → Bool) → Layer → Bool
shows_by tree test layer = not layer.hidden && (parent_passes tree test layer.parent && relative_passes tree test layer.relative)

-- a layer shows where it is not hidden, its parent is the root or shows, and the layer that it is relative to,
-- if any, shows; steps to these end before there are more than the tree has layers
abbrev pub shows_within : List Layer → ℕ → Layer → Bool
shows_within tree zero layer = false
shows_within tree (suc steps) layer = shows_by tree (shows_within tree steps) layer

-- a layer shows: it is not hidden, and what it hangs from shows, and what it is relative to
unfoldable pub shows : List Layer → Layer → Bool
shows tree layer = shows_within tree (length tree) layer

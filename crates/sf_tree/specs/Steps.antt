-- Steps from a layer to its parent and to the layer that it is relative to.
use Rattle.std.specs.Prelude.{ℕ, zero, suc, ◌==◌, Bool, false, ◌||◌, List, [], ◌∷◌, ◌++◌, length, Option, Some, None, option_to_list}
use Rattle.std.specs.List.{list_any}
use Rattle.sf_base.specs.declared.ids.LayerId.{LayerId}
use Rattle.sf_layer.specs.declared.layer.Layer.{Layer}
use Rattle.sf_layer.specs.declared.parent.Parent.{Parent}
use Rattle.sf_layer.specs.declared.parent.Parent.TheVariants as parent
use Rattle.sf_tree.specs.Layers.{layer_of}

-- the step to a layer's parent
abbrev pub to_parent : Parent → List LayerId
to_parent parent.Root = []
to_parent (parent.Layer id) = id ∷ []
to_parent parent.Nothing = []

-- the step from a layer to the one that it hangs from, if it is one
abbrev pub parent_steps : Layer → List LayerId
parent_steps layer = to_parent layer.parent

-- the steps to a layer's parent and to the layer that it is relative to
abbrev pub all_steps : Layer → List LayerId
all_steps layer = to_parent layer.parent ++ option_to_list layer.relative

-- the steps from a layer, if it is there
abbrev pub steps_of : (Layer → List LayerId) → Option Layer → List LayerId
steps_of steps None = []
steps_of steps (Some layer) = steps layer

-- from one layer another is reached by one step or more, and by at most so many
unfoldable pub reaches : (Layer → List LayerId) → List Layer → ℕ → LayerId → LayerId → Bool
reaches steps tree zero from to = false
reaches steps tree (suc k) from to =
    list_any (λ next. next.0 == to.0 || reaches steps tree k next to) (steps_of steps (layer_of tree from))

-- a layer reaches itself. A way round passes no layer twice, so it has no more steps than the tree has layers
unfoldable pub reaches_itself : (Layer → List LayerId) → List Layer → LayerId → Bool
reaches_itself steps tree id = reaches steps tree (length tree) id id

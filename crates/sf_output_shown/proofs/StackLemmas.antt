-- Stacks that nobody declared.
use Rattle.std.proofs.Common.{◌≡◌, Bool, true, List, [], ◌∷◌, Option, Some, None, refl, ap, filter}
use Rattle.sf_base.specs.declared.ids.LayerId.{LayerId}
use Rattle.sf_view.specs.sf_layer.declared.layer.Layer.{Layer}
use Rattle.sf_view.specs.sf_tree.DrawOrder.{draw_order}
use Rattle.sf_view.specs.sf_tree.Layers.{layer_of}
use Rattle.std.specs.Option.{option_map_or}
use Rattle.sf_output_shown.specs.Displays.{declared, is_on, order_on, stack_by, stack_on, top}

stack_by-none : (tree : List Layer) (o : Option Layer) → stack_by tree [] o ≡ 0
stack_by-none tree None = refl
stack_by-none tree (Some layer) = by_top (top tree layer)
  where
    by_top : (o : Option Layer) → option_map_or (declared []) o 0 ≡ 0
    by_top None = refl
    by_top (Some above) = refl

stack_on-none : (tree : List Layer) (id : LayerId) → stack_on tree [] id ≡ 0
unfolding stack_on
stack_on-none tree id = stack_by-none tree (layer_of tree id)

all_pass : (p : LayerId → Bool) → ((id : LayerId) → p id ≡ true) → (ids : List LayerId) → filter p ids ≡ ids
all_pass p passes [] = refl
all_pass p passes (id ∷ ids) = rw (passes id) (ap (λ (l : List LayerId). id ∷ l) (all_pass p passes ids))

pub no_stacks : (tree : List Layer) → order_on tree [] 0 ≡ draw_order tree
no_stacks tree = all_pass (is_on tree [] 0) (λ id. rw (stack_on-none tree id) refl) (draw_order tree)

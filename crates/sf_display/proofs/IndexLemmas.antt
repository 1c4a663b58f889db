-- The stack of a layer by what is declared.
use Rattle.std.proofs.Common.{◌≡◌, ℕ, ◌==◌, Bool, true, false, List, [], ◌∷◌, get_or, map, Option, Some, None, refl, ap, ◌∙◌, sym}
use Rattle.std.specs.Prelude.{find}
use Rattle.std.specs.List.{slice_get}
use Rattle.std.specs.Option.{option_map, option_map_or}
use Rattle.std.proofs.lemmas.List.{get_or-map}
use Rattle.std.proofs.lemmas.Option.{get_or_from_slice_get}
use Rattle.sf_base.specs.declared.ids.LayerId.{LayerId}
use Rattle.sf_tree.specs.sf_layer.declared.layer.Layer.{Layer}
use Rattle.sf_tree.specs.Layers.{layer_of}
use Rattle.sf_tree.proofs.ShowLemmas.{inside_from_slice_get}
use Rattle.sf_output_shown.specs.sf_view.Ancestry.{ancestry}
use Rattle.sf_output_shown.specs.Above.{found_above}
use Rattle.sf_output_shown.specs.Copies.{number_of}
use Rattle.sf_output_shown.specs.Displays.{declared, is_of, is_top, stack_by, stack_on}
use Rattle.sf_output_shown.specs.declared.above.Wanted.TheVariants as wanted
use Rattle.sf_display.specs.inner.Index.{by_layer, declared_for}

-- the note of a layer is that of the first pair of its number
noted : (pairs : List (ℕ × ℕ)) (id : LayerId) → declared_for (map by_layer pairs) id ≡ option_map_or (λ (n : ℕ × ℕ). n.1) (find (is_of id.0) pairs) 0
noted [] id = refl
noted (pair ∷ pairs) id = by_test (pair.0 == id.0) refl (noted pairs id)
  where
    by_test : (b : Bool) → (pair.0 == id.0) ≡ b → declared_for (map by_layer pairs) id ≡ option_map_or (λ (n : ℕ × ℕ). n.1) (find (is_of id.0) pairs) 0
        → declared_for (map by_layer (pair ∷ pairs)) id ≡ option_map_or (λ (n : ℕ × ℕ). n.1) (find (is_of id.0) (pair ∷ pairs)) 0
    by_test true e ih = rw (e) refl
    by_test false e ih = rw (e) ih

-- the stack of a layer by what hangs from the root above it
by_top : (pairs : List (ℕ × ℕ)) (o : Option Layer) → option_map_or (declared_for (map by_layer pairs)) (option_map number_of o) 0 ≡ option_map_or (declared pairs) o 0
by_top pairs None = refl
by_top pairs (Some layer) = noted pairs layer.number

pub stack-found : (tree : List Layer) (pairs : List (ℕ × ℕ)) (tops : List (Option LayerId)) (id : LayerId) (index : ℕ) (e : Option LayerId) (layer : Layer) → tops ≡ map (found_above wanted.Top tree) tree
    → layer_of tree id ≡ Some layer → slice_get tree index ≡ Some layer → option_map_or (declared_for (map by_layer pairs)) (get_or tops index e) 0 ≡ stack_on tree pairs id
unfolding stack_on
stack-found tree pairs tops id index e layer is found at =
    ap (λ (l : List (Option LayerId)). option_map_or (declared_for (map by_layer pairs)) (get_or l index e) 0) is
    ∙ (ap (λ (o : Option LayerId). option_map_or (declared_for (map by_layer pairs)) o 0) (get_or-map (found_above wanted.Top tree) tree index layer e (inside_from_slice_get tree index layer at) ∙ ap (found_above wanted.Top tree) (get_or_from_slice_get tree index layer layer at))
    ∙ (by_top pairs (find is_top (ancestry tree layer)) ∙ ap (stack_by tree pairs) (sym found)))

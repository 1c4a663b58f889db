-- Stacks that are declared for layers that are not there do not count.
use Rattle.std.proofs.Common.{◌≡◌, ℕ, zero, suc, ◌==◌, Bool, true, List, [], ◌∷◌, Option, Some, None, filter, find, length, refl, ap, ◌∙◌, sym, subst, inl, inr}
use Rattle.std.specs.Option.{is_some, option_map_or}
use Rattle.std.proofs.lemmas.Bool.{cases_Bool, eqb-true, false≢true}
use Rattle.std.proofs.lemmas.Option.{none-some, same_Some}
use Rattle.sf_base.specs.declared.ids.LayerId.{LayerId}
use Rattle.sf_tree.specs.sf_layer.declared.layer.Layer.{Layer}
use Rattle.sf_tree.specs.sf_layer.declared.parent.Parent.{Parent}
use Rattle.sf_tree.specs.sf_layer.declared.parent.Parent.TheVariants as parent
use Rattle.sf_tree.specs.DrawOrder.{draw_order}
use Rattle.sf_tree.specs.Layers.{has_layer, is_numbered, layer_of, parent_layer}
use Rattle.sf_output_shown.specs.sf_view.Ancestry.{ancestry, ancestry_within, and_above}
use Rattle.sf_output_shown.specs.Displays.{declared, is_of, is_on, is_top, order_on, stack_by, stack_on, top}
use Rattle.sf_display.specs.Stacks.{is_of_layer, stacks_in}

-- what is found first of a number is found where that is kept
find_kept : (keep : ℕ × ℕ → Bool) (n : ℕ) (stacks : List (ℕ × ℕ)) → ((pair : ℕ × ℕ) → is_of n pair ≡ true → keep pair ≡ true) → find (is_of n) (filter keep stacks) ≡ find (is_of n) stacks
find_kept keep n [] all = refl
find_kept keep n (p ∷ ps) all = elim (cases_Bool (keep p)) [
  | inl kept ↦ elim (cases_Bool (is_of n p)) [
    | inl met ↦ rw (kept, met) refl
    | inr unmet ↦ rw (kept, unmet) (find_kept keep n ps all)
  ]
  | inr gone ↦ elim (cases_Bool (is_of n p)) [
    | inl met ↦ absurd (false≢true (sym gone ∙ all p met))
    | inr unmet ↦ rw (gone, unmet) (find_kept keep n ps all)
  ]
]

declared_kept : (tree : List Layer) (stacks : List (ℕ × ℕ)) (layer : Layer) → has_layer tree layer.number ≡ true → declared (stacks_in tree stacks) layer ≡ declared stacks layer
declared_kept tree stacks layer there =
    ap (λ (o : Option (ℕ × ℕ)). option_map_or (λ (pair : ℕ × ℕ). pair.1) o 0)
    (find_kept (is_of_layer tree) layer.number.0 stacks (λ pair met. subst (λ (n : ℕ). has_layer tree (record { 0 = n }) ≡ true) (sym (eqb-true pair.0 layer.number.0 met)) there))

-- what is found has the number, and is there
passes : (id : LayerId) (tree : List Layer) (layer : Layer) → layer_of tree id ≡ Some layer → is_numbered id layer ≡ true
passes id [] layer e = absurd (none-some layer e)
passes id (x ∷ xs) layer e = elim (cases_Bool (is_numbered id x)) [
  | inl met ↦ subst (λ (l : Layer). is_numbered id l ≡ true) (same_Some x layer (rw met at e)) met
  | inr unmet ↦ passes id xs layer (rw unmet at e)
]

found_there : (tree : List Layer) (id : LayerId) (layer : Layer) → layer_of tree id ≡ Some layer → has_layer tree layer.number ≡ true
found_there tree id layer e =
    let same : id.0 ≡ layer.number.0 = sym (eqb-true layer.number.0 id.0 (passes id tree layer e)) in
    subst (λ (n : ℕ). has_layer tree (record { 0 = n }) ≡ true) same (ap is_some e)

parent_there : (tree : List Layer) (p : Parent) (layer : Layer) → parent_layer tree p ≡ Some layer → has_layer tree layer.number ≡ true
parent_there tree parent.Root layer e = absurd (none-some layer e)
parent_there tree (parent.Layer id) layer e = found_there tree id layer e
parent_there tree parent.Nothing layer e = absurd (none-some layer e)

-- the layer that hangs from the root, on the way up from one that is there
top_within : (tree : List Layer) (steps : ℕ) (layer above : Layer) → has_layer tree layer.number ≡ true → find is_top (ancestry_within tree steps layer) ≡ Some above → has_layer tree above.number ≡ true
top_within tree zero layer above there e = absurd (none-some above e)
top_within tree (suc steps) layer above there e = elim (cases_Bool (is_top layer)) [
  | inl met ↦ subst (λ (l : Layer). has_layer tree l.number ≡ true) (same_Some layer above (rw met at e)) there
  | inr unmet ↦ by_parent (parent_layer tree layer.parent) refl (λ next. top_within tree steps next above) (rw unmet at e)
]
  where
    by_parent : (o : Option Layer) → parent_layer tree layer.parent ≡ o
        → ((next : Layer) → has_layer tree next.number ≡ true → find is_top (ancestry_within tree steps next) ≡ Some above → has_layer tree above.number ≡ true)
        → find is_top (and_above (ancestry_within tree steps) o) ≡ Some above → has_layer tree above.number ≡ true
    by_parent None is next e = absurd (none-some above e)
    by_parent (Some up) is next e = next up (parent_there tree layer.parent up is) e

top_there : (tree : List Layer) (layer above : Layer) → has_layer tree layer.number ≡ true → top tree layer ≡ Some above → has_layer tree above.number ≡ true
unfolding ancestry
top_there tree layer above there e = top_within tree (length tree) layer above there e

stack_kept : (tree : List Layer) (stacks : List (ℕ × ℕ)) (id : LayerId) → stack_on tree (stacks_in tree stacks) id ≡ stack_on tree stacks id
unfolding stack_on
stack_kept tree stacks id = by_layer (layer_of tree id) refl
  where
    by_top : (layer : Layer) (o : Option Layer) → has_layer tree layer.number ≡ true → top tree layer ≡ o → option_map_or (declared (stacks_in tree stacks)) o 0 ≡ option_map_or (declared stacks) o 0
    by_top layer None there is = refl
    by_top layer (Some above) there is = declared_kept tree stacks above (top_there tree layer above there is)

    by_layer : (o : Option Layer) → layer_of tree id ≡ o → stack_by tree (stacks_in tree stacks) o ≡ stack_by tree stacks o
    by_layer None is = refl
    by_layer (Some layer) is = by_top layer (top tree layer) (found_there tree id layer is) refl

-- where two tests tell the same of each, the same is kept
same_kept : (p q : LayerId → Bool) → ((id : LayerId) → p id ≡ q id) → (ids : List LayerId) → filter p ids ≡ filter q ids
same_kept p q same ids = λ i. filter (λ (id : LayerId). same id i) ids

pub same_orders : (tree : List Layer) (stacks : List (ℕ × ℕ)) (stack : ℕ) → order_on tree (stacks_in tree stacks) stack ≡ order_on tree stacks stack
same_orders tree stacks stack =
    same_kept (is_on tree (stacks_in tree stacks) stack) (is_on tree stacks stack) (λ id. ap (λ (n : ℕ). n == stack) (stack_kept tree stacks id)) (draw_order tree)

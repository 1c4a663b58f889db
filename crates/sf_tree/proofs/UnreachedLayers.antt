-- A layer that no step leads to is not reached.
use Rattle.std.proofs.Common.{◌≡◌, ℕ, zero, suc, Bool, true, false, List, [], ◌∷◌, Option, Some, None, is_some, refl, ap, ◌∙◌, sym, subst, get_or, take, length, ◌+◌, ◌<◌, ◌≤◌}
use Rattle.std.specs.List.{All, list_any, slice_get}
use Rattle.std.specs.Prelude.{◌==◌, ◌||◌, option_to_list}
use Rattle.std.proofs.lemmas.List.{take_all, take_more}
use Rattle.std.proofs.lemmas.List.Elements.{All-push}
use Rattle.std.proofs.lemmas.List.Folds.{list_any-append}
use Rattle.std.proofs.lemmas.Option.{get_or_from_slice_get}
use Rattle.sf_base.specs.declared.ids.LayerId.{LayerId}
use Rattle.sf_layer.specs.declared.layer.Layer.{Layer}
use Rattle.sf_tree.specs.declared.cycles.Along.{Along}
use Rattle.sf_tree.specs.declared.cycles.Along.TheVariants as along
use Rattle.sf_tree.specs.Layers.{layer_of, index_of}
use Rattle.sf_tree.specs.inner.Search.{leads_to, relative_along, steps_along}
use Rattle.sf_tree.specs.Steps.{reaches, steps_of, to_parent}
use Rattle.sf_tree.proofs.Lookups.{layer_of-place, layer_of-none}
use Rattle.sf_tree.proofs.Places.{index_of_inside}

pub led_by_no_step : (way : Along) (id : LayerId) (layer : Layer) (first : Option LayerId) → option_to_list first ≡ to_parent layer.parent → list_any (λ other. other.0 == id.0) (option_to_list first) ≡ false → list_any (λ other. other.0 == id.0) (option_to_list (relative_along way layer)) ≡ false → leads_to way id layer ≡ false
led_by_no_step along.Parents id layer first same none more = rw same at none
led_by_no_step along.All id layer first same none more =
    let here : list_any (λ (other : LayerId). other.0 == id.0) (to_parent layer.parent) ≡ false = rw same at none in
    rw (list_any-append (λ (other : LayerId). other.0 == id.0) (to_parent layer.parent) (option_to_list layer.relative), here) more

pub no_step : (way : Along) (layer : Layer) (first : Option LayerId) → option_to_list first ≡ to_parent layer.parent → is_some first ≡ false → is_some (relative_along way layer) ≡ false → steps_along way layer ≡ []
no_step way layer (Some id) same none more = cc
no_step along.Parents layer None same none more = sym same
no_step along.All layer None same none more = rw (sym same, no_relative layer.relative more) refl
  where
    no_relative : (relative : Option LayerId) → is_some relative ≡ false → relative ≡ None
    no_relative None h = refl
    no_relative (Some id) h = cc

-- a layer without a step reaches none
pub reaches-stepless : (steps : Layer → List LayerId) (layers : List Layer) (id to : LayerId) (layer : Layer) → layer_of layers id ≡ Some layer → steps layer ≡ [] → (k : ℕ) → reaches steps layers k id to ≡ false
unfolding reaches
reaches-stepless steps layers id to layer found none zero = refl
reaches-stepless steps layers id to layer found none (suc k) = rw (found, none) refl

none_on : (p q : LayerId → Bool) → ((x : LayerId) → q x ≡ false) → (xs : List LayerId) → list_any p xs ≡ false → list_any (λ x. p x || q x) xs ≡ false
none_on p q none [] h = refl
none_on p q none (x ∷ xs) h = by_test (p x) refl (none_on p q none xs)
  where
    by_test : (b : Bool) → p x ≡ b → (list_any p xs ≡ false → list_any (λ x. p x || q x) xs ≡ false) → list_any (λ x. p x || q x) (x ∷ xs) ≡ false
    by_test true e rest = let clash : true ≡ false = rw e at h in cc
    by_test false e rest = rw (e, none x) (rest (rw e at h))

pub reaches-unled : (way : Along) (layers : List Layer) (id : LayerId) → All (λ layer. leads_to way id layer ≡ false) layers → (k : ℕ) (from : LayerId) → reaches (steps_along way) layers k from id ≡ false
unfolding reaches
reaches-unled way layers id none zero from = refl
reaches-unled way layers id none (suc k) from =
    none_on (λ next. next.0 == id.0) (λ next. reaches (steps_along way) layers k next id) (λ next. reaches-unled way layers id none k next) (steps_of (steps_along way) (layer_of layers from)) (by_place (index_of layers from) refl)
  where
    by_place : (place : Option ℕ) → index_of layers from ≡ place → list_any (λ next. next.0 == id.0) (steps_of (steps_along way) (layer_of layers from)) ≡ false
    by_place None e = rw (layer_of-none layers from e) refl
    by_place (Some place) e = by_layer (layer_of layers from) (sym (layer_of-place layers from place e))
      where
        by_layer : (found : Option Layer) → slice_get layers place ≡ found → list_any (λ next. next.0 == id.0) (steps_of (steps_along way) found) ≡ false
        by_layer None at = refl
        by_layer (Some layer) at = ap (leads_to way id) (sym (get_or_from_slice_get layers place layer layer at)) ∙ none place layer (index_of_inside layers from place e)

-- one more of the first layers passes
pub all_more : (P : Layer → Type 0) (xs : List Layer) (i : ℕ) (d : Layer) → i < length xs → All P (take i xs) → P (get_or xs i d) → All P (take (i + 1) xs)
all_more P xs i d h all one = rw (take_more xs i d h) (All-push P (take i xs) (get_or xs i d) all one)

pub all_passed : (P : Layer → Type 0) (xs : List Layer) (i : ℕ) → length xs ≤ i → All P (take i xs) → All P xs
all_passed P xs i h all = subst (All P) (take_all i xs h) all

-- A layer of a list, by its number and by its place.
use Rattle.std.proofs.Common.{◌≡◌, ℕ, zero, suc, ◌<◌, ◌≤◌, ◌≢◌, Bool, true, false, cond, List, [], ◌∷◌, length, get_or, take, map, Option, Some, None, is_some, refl, ap, ◌∙◌, sym, arith, length-take}
use Rattle.std.specs.List.{slice_get, slice_set}
use Rattle.std.specs.Prelude.{nat_lt, if◌then◌else◌}
use Rattle.std.proofs.lemmas.List.{get_or-take}
use Rattle.std.proofs.lemmas.List.Folds.{find_at}
use Rattle.std.proofs.lemmas.List.Quantifiers.{position-Some}
use Rattle.std.proofs.lemmas.Option.{slice_get_past, get_or_from_slice_get}
use Rattle.std.proofs.lemmas.Grind.{common_steps}
use Rattle.sf_base.specs.declared.ids.LayerId.{LayerId}
use Rattle.sf_layer.specs.declared.layer.Layer.{Layer}
use Rattle.sf_tree.specs.Changes.{with_layer}
use Rattle.sf_tree.specs.Kept.{IsDistinct}
use Rattle.sf_tree.specs.Layers.{is_numbered, layer_of, index_of, has_layer}
use Rattle.sf_tree.proofs.Places.{index_of_same, index_of_inside}

pub some_is : (n l k : ℕ) → cond (nat_lt n l) (Some n) None ≡ Some k → n ≡ k
some_is n l k h = grind (arith, common_steps)

pub none_is : (n l : ℕ) → cond (nat_lt n l) (Some n) None ≡ None → l ≤ n
none_is n l h = grind (arith, common_steps)

-- the layer of a number stands at its place
pub layer_of-place : (xs : List Layer) (id : LayerId) (k : ℕ) → index_of xs id ≡ Some k → layer_of xs id ≡ slice_get xs k
layer_of-place xs id k e = find_at (is_numbered id) xs ∙ ap (slice_get xs) (some_is _ _ k e)

pub layer_of-none : (xs : List Layer) (id : LayerId) → index_of xs id ≡ None → layer_of xs id ≡ None
layer_of-none xs id e = find_at (is_numbered id) xs ∙ slice_get_past xs _ (none_is _ _ e)

pub has_layer-place : (xs : List Layer) (id : LayerId) → has_layer xs id ≡ is_some (index_of xs id)
has_layer-place xs id = by_place (index_of xs id) refl
  where
    there : (ys : List Layer) (k : ℕ) → k < length ys → is_some (slice_get ys k) ≡ true
    there [] k h = absurd (omega arith)
    there (y ∷ ys) zero h = refl
    there (y ∷ ys) (suc k) h = there ys k (omega arith)

    by_place : (o : Option ℕ) → index_of xs id ≡ o → has_layer xs id ≡ is_some (index_of xs id)
    by_place None e = rw (layer_of-none xs id e, e) refl
    by_place (Some k) e = rw (layer_of-place xs id k e, e) (there xs k (index_of_inside xs id k e))

pub index_of-absent : (xs : List Layer) (id : LayerId) → has_layer xs id ≡ false → index_of xs id ≡ None
index_of-absent xs id h = by_place (index_of xs id) refl
  where
    by_place : (o : Option ℕ) → index_of xs id ≡ o → index_of xs id ≡ None
    by_place None e = e
    by_place (Some k) e = let clash : true ≡ false = sym (rw e at (has_layer-place xs id)) ∙ h in cc

-- a layer that has the number is the one that is found
pub numbered_alone : (xs : List Layer) (id : LayerId) (p k : ℕ) (d : Layer) → IsDistinct xs → index_of xs id ≡ Some p → k < length xs → k ≢ p → is_numbered id (get_or xs k d) ≡ false
numbered_alone xs id p k d distinct e inside other = by_test (is_numbered id (get_or xs k d)) refl
  where
    by_test : (b : Bool) → is_numbered id (get_or xs k d) ≡ b → is_numbered id (get_or xs k d) ≡ false
    by_test false t = t
    by_test true t =
        let found : Some k ≡ Some p = sym (distinct k d inside) ∙ (index_of_same xs (get_or xs k d).number id t ∙ e) in
        let same : k ≡ p = cc in absurd (other same)

-- a list has two layers of one number where the first ones have the number of the next
pub number_twice : (xs : List Layer) (i : ℕ) (d : Layer) → i < length xs → has_layer (take i xs) (get_or xs i d).number ≡ true → IsDistinct xs → ⊥
number_twice xs i d inside there distinct = by_place (index_of (take i xs) id) refl
  where
    id : LayerId
    id = (get_or xs i d).number

    by_place : (o : Option ℕ) → index_of (take i xs) id ≡ o → ⊥
    by_place None e = let clash : true ≡ false = sym there ∙ (has_layer-place (take i xs) id ∙ ap is_some e) in cc
    by_place (Some k) e =
        let before : k < i = omega (arith, index_of_inside (take i xs) id k e, length-take i xs) in
        let same : is_numbered id (get_or xs k d) ≡ true = rw (get_or-take i xs k d before) at ((position-Some (is_numbered id) (take i xs) k d e).1) in
        let clash : true ≡ false = sym same ∙ numbered_alone xs id i k d distinct (distinct i d inside) (omega arith) (omega arith) in cc

map_none : {X : Type 0} (q : X → Bool) (f : X → X) (xs : List X) → ((k : ℕ) (d : X) → k < length xs → q (get_or xs k d) ≡ false) → map (λ x. if q x then f x else x) xs ≡ xs
map_none q f [] h = refl
map_none q f (x ∷ xs) h = rw (h 0 x (omega arith)) (ap (λ ys. x ∷ ys) (map_none q f xs (λ k d i. h (suc k) d (omega arith))))

map_one : {X : Type 0} (q : X → Bool) (f : X → X) (xs : List X) (p : ℕ) (x : X) → slice_get xs p ≡ Some x → q x ≡ true → ((k : ℕ) (d : X) → k < length xs → k ≢ p → q (get_or xs k d) ≡ false) → map (λ y. if q y then f y else y) xs ≡ slice_set xs p (f x)
map_one q f [] p x at passes others = cc
map_one q f (y ∷ ys) zero x at passes others =
    let same : y ≡ x = cc in rw (same, passes) (ap (λ zs. f x ∷ zs) (map_none q f ys (λ k d i. others (suc k) d (omega arith) (omega arith))))
map_one q f (y ∷ ys) (suc p) x at passes others =
    rw (others 0 y (omega arith) (omega arith)) (ap (λ zs. y ∷ zs) (map_one q f ys p x at passes (λ k d i other. others (suc k) d (omega arith) (λ same. other (omega arith)))))

-- the layer at the place of a number has the number
pub is_numbered-place : (xs : List Layer) (id : LayerId) (p : ℕ) (layer : Layer) → index_of xs id ≡ Some p → slice_get xs p ≡ Some layer → is_numbered id layer ≡ true
is_numbered-place xs id p layer e at = rw (get_or_from_slice_get xs p layer layer at) at ((position-Some (is_numbered id) xs p layer e).1)

-- an edit by number is an edit at the place
pub with_layer-place : (xs : List Layer) (id : LayerId) (f : Layer → Layer) (p : ℕ) (layer : Layer) → IsDistinct xs → index_of xs id ≡ Some p → slice_get xs p ≡ Some layer → with_layer id f xs ≡ slice_set xs p (f layer)
with_layer-place xs id f p layer distinct e at =
    map_one (is_numbered id) f xs p layer at (is_numbered-place xs id p layer e at) (λ k d inside other. numbered_alone xs id p k d distinct e inside other)

pub ruleset lookups = (layer_of-none, layer_of-place, has_layer-place, index_of-absent, with_layer-place, is_numbered-place)

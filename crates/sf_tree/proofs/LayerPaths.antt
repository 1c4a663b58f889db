-- Ways from layer to layer.
use Rattle.std.proofs.Common.{◌≡◌, ℕ, zero, suc, ◌<◌, ◌≤◌, Bool, true, false, List, [], ◌∷◌, length, get_or, None, refl, sym, subst, arith, inl, inr, ◌⊎◌}
use Rattle.std.specs.List.{AllByRecursion, Contains, list_any}
use Rattle.std.specs.Prelude.{◌==◌, ◌||◌}
use Rattle.std.proofs.lemmas.Bool.{eqb-true}
use Rattle.sf_base.specs.declared.ids.LayerId.{LayerId}
use Rattle.sf_layer.specs.declared.layer.Layer.{Layer}
use Rattle.sf_tree.specs.Layers.{layer_of, index_of}
use Rattle.sf_tree.specs.Steps.{steps_of, reaches}
use Rattle.sf_tree.specs.inner.Search.{IsExplored, IsFollowed}
use Rattle.sf_tree.proofs.Lookups.{layer_of-none}

or_weaker : (a b c d : Bool) → (a ≡ true → c ≡ true) → (b ≡ true → d ≡ true) → (a || b) ≡ true → (c || d) ≡ true
or_weaker true b true d p q h = refl
or_weaker true b false d p q h = let clash : false ≡ true = p refl in cc
or_weaker false true true d p q h = refl
or_weaker false true false d p q h = q refl
or_weaker false false c d p q h = cc

pub any_weaker : (p q : LayerId → Bool) → ((x : LayerId) → p x ≡ true → q x ≡ true) → (xs : List LayerId) → list_any p xs ≡ true → list_any q xs ≡ true
any_weaker p q w [] h = h
any_weaker p q w (x ∷ xs) h = or_weaker (p x) (list_any p xs) (q x) (list_any q xs) (w x) (any_weaker p q w xs) h

or_false : (a b : Bool) → a ≡ false → b ≡ false → (a || b) ≡ false
or_false a b p q = rw (p, q) refl

-- a way of at most so many steps is one of at most one more
pub reaches-suc : (steps : Layer → List LayerId) (tree : List Layer) (k : ℕ) (a b : LayerId) → reaches steps tree k a b ≡ true → reaches steps tree (suc k) a b ≡ true
unfolding reaches
reaches-suc steps tree zero a b h = cc
reaches-suc steps tree (suc k) a b h =
    any_weaker _ _ (λ next. or_weaker (next.0 == b.0) (reaches steps tree k next b) (next.0 == b.0) (reaches steps tree (suc k) next b) (λ e. e) (reaches-suc steps tree k next b)) (steps_of steps (layer_of tree a)) h

pub reaches-le : (steps : Layer → List LayerId) (tree : List Layer) (k j : ℕ) (a b : LayerId) → k ≤ j → reaches steps tree k a b ≡ true → reaches steps tree j a b ≡ true
reaches-le steps tree k zero a b h r = let e : k ≡ 0 = omega arith in subst (λ (n : ℕ). reaches steps tree n a b ≡ true) e r
reaches-le steps tree k (suc j) a b h r = by_last (λ low. reaches-le steps tree k j a b low r) (last (suc j) k h)
  where
    last : (m n : ℕ) → n ≤ m → (n ≡ m) ⊎ (n < m)
    last m n h = grind arith

    by_last : (k ≤ j → reaches steps tree j a b ≡ true) → (k ≡ suc j) ⊎ (k < suc j) → reaches steps tree (suc j) a b ≡ true
    by_last ih (inl e) = subst (λ (n : ℕ). reaches steps tree n a b ≡ true) e r
    by_last ih (inr low) = reaches-suc steps tree j a b (ih (omega arith))

-- one step
pub reaches-step : (steps : Layer → List LayerId) (tree : List Layer) (k : ℕ) (a b : LayerId) → list_any (λ next. next.0 == b.0) (steps_of steps (layer_of tree a)) ≡ true → reaches steps tree (suc k) a b ≡ true
unfolding reaches
reaches-step steps tree k a b h =
    any_weaker (λ next. next.0 == b.0) _ (λ next. λ e. rw e refl) (steps_of steps (layer_of tree a)) h

-- a way with one more step at its beginning
pub reaches-first : (steps : Layer → List LayerId) (tree : List Layer) (k : ℕ) (a b c : LayerId) → list_any (λ next. next.0 == b.0) (steps_of steps (layer_of tree a)) ≡ true → reaches steps tree k b c ≡ true → reaches steps tree (suc k) a c ≡ true
unfolding reaches
reaches-first steps tree k a b c h r = any_weaker (λ next. next.0 == b.0) _ onward (steps_of steps (layer_of tree a)) h
  where
    to_right : (p q : Bool) → q ≡ true → (p || q) ≡ true
    to_right true q e = refl
    to_right false q e = e

    onward : (next : LayerId) → (next.0 == b.0) ≡ true → (next.0 == c.0 || reaches steps tree k next c) ≡ true
    onward next e = to_right (next.0 == c.0) _ (subst (λ (n : ℕ). reaches steps tree k (record { 0 = n }) c ≡ true) (sym (eqb-true next.0 b.0 e)) r)

-- a way with one more step at its end
pub reaches-more : (steps : Layer → List LayerId) (tree : List Layer) (k : ℕ) (a b c : LayerId) → reaches steps tree k a b ≡ true → list_any (λ next. next.0 == c.0) (steps_of steps (layer_of tree b)) ≡ true → reaches steps tree (suc k) a c ≡ true
unfolding reaches
reaches-more steps tree zero a b c r h = cc
reaches-more steps tree (suc k) a b c r h =
    any_weaker _ _ (onward (λ next r. reaches-more steps tree k next b c r h)) (steps_of steps (layer_of tree a)) r
  where
    to_right : (p q : Bool) → q ≡ true → (p || q) ≡ true
    to_right true q e = refl
    to_right false q e = e

    by_test : ((next : LayerId) → reaches steps tree k next b ≡ true → reaches steps tree (suc k) next c ≡ true) → (next : LayerId) (t : Bool) → (next.0 == b.0) ≡ t → (t || reaches steps tree k next b) ≡ true → reaches steps tree (suc k) next c ≡ true
    by_test ih next true e r = reaches-step steps tree k next c (let at : ℕ → LayerId = λ n. record { 0 = n } in subst (λ (n : ℕ). list_any (λ s. s.0 == c.0) (steps_of steps (layer_of tree (at n))) ≡ true) (sym (eqb-true next.0 b.0 e)) h)
    by_test ih next false e r = ih next r

    onward : ((next : LayerId) → reaches steps tree k next b ≡ true → reaches steps tree (suc k) next c ≡ true) → (next : LayerId) → (next.0 == b.0 || reaches steps tree k next b) ≡ true → (next.0 == c.0 || reaches steps tree (suc k) next c) ≡ true
    onward ih next r = to_right (next.0 == c.0) _ (by_test ih next (next.0 == b.0) refl r)

-- nothing is reached from a layer that is not there
pub reaches-unknown : (steps : Layer → List LayerId) (tree : List Layer) (k : ℕ) (a b : LayerId) → index_of tree a ≡ None → reaches steps tree k a b ≡ false
unfolding reaches
reaches-unknown steps tree zero a b e = refl
reaches-unknown steps tree (suc k) a b e = rw (layer_of-none tree a e) refl

-- where all steps from what was found were followed, none leads back
pub reaches-explored : (steps : Layer → List LayerId) (tree : List Layer) (first : LayerId) (found : List LayerId) → ((k : ℕ) (d : LayerId) → k < length found → IsExplored steps tree first found (get_or found k d)) → (j : ℕ) (id : LayerId) → Contains found id → reaches steps tree j id first ≡ false
unfolding reaches
reaches-explored steps tree first found all zero id at = refl
reaches-explored steps tree first found all (suc j) id at =
    none (λ x at. reaches-explored steps tree first found all j x at) (steps_of steps (layer_of tree id)) here
  where
    here : IsExplored steps tree first found id
    here = subst (λ (x : LayerId). IsExplored steps tree first found x) at.2 (all at.0 id at.1)

    by_noted : ((x : LayerId) → Contains found x → reaches steps tree j x first ≡ false) → (x : LayerId) → (index_of tree x ≡ None) ⊎ Contains found x → reaches steps tree j x first ≡ false
    by_noted ih x (inl e) = reaches-unknown steps tree j x first e
    by_noted ih x (inr at) = ih x at

    none : ((x : LayerId) → Contains found x → reaches steps tree j x first ≡ false) → (xs : List LayerId) → AllByRecursion (IsFollowed tree first found) xs → list_any (λ next. next.0 == first.0 || reaches steps tree j next first) xs ≡ false
    none ih [] h = refl
    none ih (x ∷ xs) h = or_false _ _ (or_false _ _ h.0.other (by_noted ih x h.0.noted)) (none ih xs h.1)

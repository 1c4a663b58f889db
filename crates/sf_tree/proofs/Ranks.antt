-- Rankings of layers by which every step leads lower.
use Rattle.std.proofs.Common.{◌≡◌, ℕ, ◌+◌, ◌<◌, ◌≤◌, Bool, true, false, cond, List, [], ◌∷◌, length, Option, Some, None, refl, ap, ◌∙◌, sym, subst, arith, is_some}
use Rattle.std.specs.List.{All}
use Rattle.std.specs.Prelude.{nat_lt}
use Rattle.std.proofs.lemmas.Bool.{eqb-true, ltb-true, lt-ltb}
use Rattle.std.proofs.lemmas.List.Elements.{All-head, All-tail}
use Rattle.sf_base.specs.declared.ids.LayerId.{LayerId}
use Rattle.sf_layer.specs.declared.layer.Layer.{Layer}
use Rattle.sf_tree.specs.Kept.{HasNoCycle, IsRanked, IsTied}
use Rattle.sf_tree.specs.inner.Known.{IsBounded}
use Rattle.sf_tree.specs.Layers.{is_numbered, layer_of, has_layer}

-- a layer that is found is one of the tree, and has the number
pub All-layer_of : (P : Layer → Type 0) (tree : List Layer) (id : LayerId) (layer : Layer) → All P tree → layer_of tree id ≡ Some layer → P layer
All-layer_of P [] id layer all e = cc
All-layer_of P (x ∷ xs) id layer all e = by_test (is_numbered id x) e (λ e. All-layer_of P xs id layer (All-tail P x xs all) e)
  where
    by_test : (b : Bool) → cond b (Some x) (layer_of xs id) ≡ Some layer → (layer_of xs id ≡ Some layer → P layer) → P layer
    by_test true e ih = let same : x ≡ layer = cc in subst P same (All-head P x xs all)
    by_test false e ih = ih e

pub layer_of-number : (tree : List Layer) (id : LayerId) (layer : Layer) → layer_of tree id ≡ Some layer → layer.number.0 ≡ id.0
layer_of-number [] id layer e = cc
layer_of-number (x ∷ xs) id layer e = by_test (is_numbered id x) refl e (layer_of-number xs id layer)
  where
    by_test : (b : Bool) → is_numbered id x ≡ b → cond b (Some x) (layer_of xs id) ≡ Some layer → (layer_of xs id ≡ Some layer → layer.number.0 ≡ id.0) → layer.number.0 ≡ id.0
    by_test true t e ih = let same : x ≡ layer = cc in subst (λ (l : Layer). l.number.0 ≡ id.0) same (eqb-true x.number.0 id.0 t)
    by_test false t e ih = ih e

-- how many layers rank below a rank
below : (ℕ → ℕ) → ℕ → List Layer → ℕ
below rank n [] = 0
below rank n (x ∷ xs) = cond (nat_lt (rank x.number.0) n) (1 + below rank n xs) (below rank n xs)

below-le : (rank : ℕ → ℕ) (n : ℕ) (xs : List Layer) → below rank n xs ≤ length xs
unfolding below
below-le rank n [] = omega arith
below-le rank n (x ∷ xs) = by_test (nat_lt (rank x.number.0) n) (below-le rank n xs)
  where
    by_test : (b : Bool) → below rank n xs ≤ length xs → cond b (1 + below rank n xs) (below rank n xs) ≤ length (x ∷ xs)
    by_test true h = omega arith
    by_test false h = omega arith

below-weaker : (rank : ℕ → ℕ) (m n : ℕ) (xs : List Layer) → m ≤ n → below rank m xs ≤ below rank n xs
unfolding below
below-weaker rank m n [] h = omega arith
below-weaker rank m n (x ∷ xs) h = by_tests (nat_lt (rank x.number.0) m) (nat_lt (rank x.number.0) n) refl refl (below-weaker rank m n xs h)
  where
    by_tests : (a b : Bool) → nat_lt (rank x.number.0) m ≡ a → nat_lt (rank x.number.0) n ≡ b → below rank m xs ≤ below rank n xs → cond a (1 + below rank m xs) (below rank m xs) ≤ cond b (1 + below rank n xs) (below rank n xs)
    by_tests true true p q ih = omega arith
    by_tests true false p q ih =
        let low : rank x.number.0 < m = ltb-true _ _ p in
        let clash : true ≡ false = sym (lt-ltb (rank x.number.0) n (omega arith)) ∙ q in cc
    by_tests false true p q ih = omega arith
    by_tests false false p q ih = ih

-- a layer between two ranks counts below the higher one alone
below-more : (rank : ℕ → ℕ) (m n : ℕ) (xs : List Layer) (id : LayerId) (layer : Layer) → layer_of xs id ≡ Some layer → m ≤ rank id.0 → rank id.0 < n → below rank m xs < below rank n xs
unfolding below
below-more rank m n [] id layer e low high = cc
below-more rank m n (x ∷ xs) id layer e low high = by_number (is_numbered id x) refl e (λ e. below-more rank m n xs id layer e low high)
  where
    here : rank x.number.0 ≡ rank id.0 → cond (nat_lt (rank x.number.0) m) (1 + below rank m xs) (below rank m xs) < cond (nat_lt (rank x.number.0) n) (1 + below rank n xs) (below rank n xs)
    here same =
        let not_low : nat_lt (rank x.number.0) m ≡ false = grind arith in
        let is_high : nat_lt (rank x.number.0) n ≡ true = lt-ltb _ _ (omega arith) in
        rw (not_low, is_high) (omega (arith, below-weaker rank m n xs (omega arith)))

    onward : (a b : Bool) → nat_lt (rank x.number.0) m ≡ a → nat_lt (rank x.number.0) n ≡ b → below rank m xs < below rank n xs → cond a (1 + below rank m xs) (below rank m xs) < cond b (1 + below rank n xs) (below rank n xs)
    onward true true p q ih = omega arith
    onward true false p q ih =
        let under : rank x.number.0 < m = ltb-true _ _ p in
        let clash : true ≡ false = sym (lt-ltb (rank x.number.0) n (omega arith)) ∙ q in cc
    onward false true p q ih = omega arith
    onward false false p q ih = ih

    by_number : (b : Bool) → is_numbered id x ≡ b → cond b (Some x) (layer_of xs id) ≡ Some layer → (layer_of xs id ≡ Some layer → below rank m xs < below rank n xs) → cond (nat_lt (rank x.number.0) m) (1 + below rank m xs) (below rank m xs) < cond (nat_lt (rank x.number.0) n) (1 + below rank n xs) (below rank n xs)
    by_number true t e ih = here (ap rank (eqb-true x.number.0 id.0 t))
    by_number false t e ih = onward _ _ refl refl (ih e)

pub is_there : (tree : List Layer) (id : LayerId) → has_layer tree id ≡ true → (layer : Layer) × (layer_of tree id ≡ Some layer)
is_there tree id h = by_found (layer_of tree id) refl h
  where
    by_found : (o : Option Layer) → layer_of tree id ≡ o → is_some o ≡ true → (layer : Layer) × (layer_of tree id ≡ Some layer)
    by_found None e h = cc
    by_found (Some layer) e h = (layer, e)

pub bounded_rank : (tree : List Layer) → All (IsTied tree) tree → HasNoCycle tree → (rank : ℕ → ℕ) × IsBounded tree rank
bounded_rank tree tied no_cycle = (by_count, record { ranked = ranked; bounded = bounded; most = λ n. below-le rank (rank n) tree })
  where
    rank : ℕ → ℕ
    rank = no_cycle.rank

    by_count : ℕ → ℕ
    by_count n = below no_cycle.rank (no_cycle.rank n) tree

    lower : (id : LayerId) (n : ℕ) → has_layer tree id ≡ true → no_cycle.rank id.0 < no_cycle.rank n → below no_cycle.rank (no_cycle.rank id.0) tree < below no_cycle.rank (no_cycle.rank n) tree
    lower id n there low = let at = is_there tree id there in below-more no_cycle.rank (no_cycle.rank id.0) (no_cycle.rank n) tree id at.0 at.1 (omega arith) low

    ranked : All (IsRanked by_count) tree
    ranked k d h = record {
      parent = λ id e. lower id _ (rw e at (tied k d h).parent) ((no_cycle.ranked k d h).parent id e);
      relative = λ id e. lower id _ (rw e at (tied k d h).relative) ((no_cycle.ranked k d h).relative id e);
    }

    bounded : (id : LayerId) (layer : Layer) → layer_of tree id ≡ Some layer → by_count id.0 < length tree
    bounded id layer e =
        let more : below no_cycle.rank (no_cycle.rank id.0) tree < below no_cycle.rank (no_cycle.rank id.0 + 1) tree = below-more no_cycle.rank (no_cycle.rank id.0) (no_cycle.rank id.0 + 1) tree id layer e (omega arith) (omega arith) in
        omega (arith, below-le no_cycle.rank (no_cycle.rank id.0 + 1) tree)

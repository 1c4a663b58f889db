-- Merging place by place, and the first value that is not reached.
use Rattle.std.proofs.Common.{◌≡◌, ◌∙◌, sym, ℕ, zero, suc, ◌+◌, ◌<◌, ◌≤◌, max, nat_le, List, [], ◌∷◌, ◌++◌, length, take, drop, slice_index, slice_set, None, Some, refl, ap, arith, inl, inr}
use Rattle.std.proofs.lemmas.Bool.Decides.{leb_tells}
use Rattle.std.proofs.lemmas.List.{append-nil, drop_all, take_all}
use Rattle.std.proofs.lemmas.Bool.{cond-true, cond-false, le-leb, lt-leb}
use Rattle.sf_base.specs.Fences.{greater_of_each, open_from}

-- the first places hold the greater values, the others are as they were
unfoldable pub merged_up_to : ℕ → List ℕ → List ℕ → List ℕ
merged_up_to index vs ws = greater_of_each (take index vs) ws ++ drop index vs

pub merged_up_to-at : (index : ℕ) (vs ws : List ℕ) → index < length vs → index < length ws
    → slice_index (merged_up_to index vs ws) index ≡ slice_index vs index
unfolding merged_up_to greater_of_each
merged_up_to-at index [] ws p q = absurd (omega (arith, p))
merged_up_to-at index (v ∷ vs) [] p q = absurd (omega (arith, q))
merged_up_to-at zero (v ∷ vs) (w ∷ ws) p q = refl
merged_up_to-at (suc index) (v ∷ vs) (w ∷ ws) p q = merged_up_to-at index vs ws (omega (arith, p)) (omega (arith, q))

pub merged_up_to-suc : (index : ℕ) (vs ws : List ℕ) → index < length vs → index < length ws
    → slice_set (merged_up_to index vs ws) index (max (slice_index vs index) (slice_index ws index)) ≡ merged_up_to (suc index) vs ws
unfolding merged_up_to greater_of_each
merged_up_to-suc index [] ws p q = absurd (omega (arith, p))
merged_up_to-suc index (v ∷ vs) [] p q = absurd (omega (arith, q))
merged_up_to-suc zero (v ∷ vs) (w ∷ ws) p q = refl
merged_up_to-suc (suc index) (v ∷ vs) (w ∷ ws) p q = ap (λ t. max v w ∷ t) (merged_up_to-suc index vs ws (omega (arith, p)) (omega (arith, q)))

pub merged_up_to-all : (index : ℕ) (vs ws : List ℕ) → length vs ≤ index → merged_up_to index vs ws ≡ greater_of_each vs ws
unfolding merged_up_to
merged_up_to-all index vs ws h = rw (take_all index vs h, drop_all index vs h) (append-nil (greater_of_each vs ws))

pub greater_of_each-at : (vs ws : List ℕ) → length vs ≡ length ws → (k : ℕ) → slice_index (greater_of_each vs ws) k ≡ max (slice_index vs k) (slice_index ws k)
unfolding greater_of_each
greater_of_each-at [] [] l k = refl
greater_of_each-at [] (w ∷ ws) l k = absurd (omega (arith, l))
greater_of_each-at (v ∷ vs) [] l k = absurd (omega (arith, l))
greater_of_each-at (v ∷ vs) (w ∷ ws) l zero = refl
greater_of_each-at (v ∷ vs) (w ∷ ws) l (suc k) = greater_of_each-at vs ws (omega (arith, l)) k

-- a timeline that has reached its value
pub open_from-more : (t v s : ℕ) (vs ss : List ℕ) → v ≤ s → open_from t (v ∷ vs) (s ∷ ss) ≡ open_from (t + 1) vs ss
unfolding open_from
open_from-more t v s vs ss h = cond-true (nat_le v s) _ _ (le-leb v s h)

-- a timeline that has not
pub open_from-here : (t v s : ℕ) (vs ss : List ℕ) → s < v → open_from t (v ∷ vs) (s ∷ ss) ≡ Some (t, v)
unfolding open_from
open_from-here t v s vs ss h = cond-false (nat_le v s) _ _ (lt-leb v s h)

reached-cons : (v s : ℕ) (vs ss : List ℕ) → v ≤ s → ((k : ℕ) → slice_index vs k ≤ slice_index ss k) → (k : ℕ) → slice_index (v ∷ vs) k ≤ slice_index (s ∷ ss) k
reached-cons v s vs ss first others zero = first
reached-cons v s vs ss first others (suc k) = others k

some-none : (point : ℕ × ℕ) → Some point ≡ None → ⊥
some-none point e = cc

pub open_from-none : (t : ℕ) (vs ss : List ℕ) → length vs ≡ length ss → open_from t vs ss ≡ None → (k : ℕ) → slice_index vs k ≤ slice_index ss k
open_from-none t [] [] l e k = omega arith
open_from-none t [] (s ∷ ss) l e k = absurd (omega (arith, l))
open_from-none t (v ∷ vs) [] l e k = absurd (omega (arith, l))
open_from-none t (v ∷ vs) (s ∷ ss) l e k = elim (leb_tells v s) [
  | inl reached ↦ reached-cons v s vs ss reached.1 (open_from-none (t + 1) vs ss (omega (arith, l)) (sym (open_from-more t v s vs ss reached.1) ∙ e)) k
  | inr above ↦ absurd (some-none (t, v) (sym (open_from-here t v s vs ss above.1) ∙ e))
]

pub length-greater : (vs ws : List ℕ) → length vs ≡ length ws → length (greater_of_each vs ws) ≡ length vs
unfolding greater_of_each
length-greater [] [] l = refl
length-greater [] (w ∷ ws) l = absurd (omega (arith, l))
length-greater (v ∷ vs) [] l = absurd (omega (arith, l))
length-greater (v ∷ vs) (w ∷ ws) l =
    let rest : length (greater_of_each vs ws) ≡ length vs = length-greater vs ws (omega (arith, l)) in
    omega (arith, rest)

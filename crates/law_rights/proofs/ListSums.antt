-- Sums over lists of which one item changed.
use Rattle.std.proofs.Common.{◌≡◌, ℕ, ◌+◌, ◌<◌, ◌≤◌, ◌⊎◌, suc, zero, true, false, ◌==◌, List, [], ◌∷◌, arith, refl, inl, inr, subst}
use Rattle.std.specs.Prelude.{if◌then◌else◌}
use Rattle.std.specs.List.{flat_map, range_with_len, sum_by}
use Rattle.std.proofs.lemmas.Bool.{cases_Bool, eqb-true}
use Rattle.std.proofs.lemmas.List.Sums.{sum_by-append, sum_by-cons}

-- a number at one place, and 0 at the others
abbrev pub at : ℕ → ℕ → ℕ → ℕ
at place amount other = if place == other then amount else 0

module _ {X A : Type 0} where
  pub sum-flat_map : (w : A → ℕ) (f : X → List A) (xs : List X) → sum_by w (flat_map f xs) ≡ sum_by (λ x. sum_by w (f x)) xs
  sum-flat_map w f [] = refl
  sum-flat_map w f (x ∷ xs) =
      let rest = sum-flat_map w f xs in
      let joined = sum_by-append w (f x) (flat_map f xs) in
      let cons = sum_by-cons (λ y. sum_by w (f y)) x xs in
      omega (arith, rest, joined, cons)

module _ {X : Type 0} where
  -- what holds of each item holds of the sums
  pub sums_le : (f g a b : X → ℕ) → ((x : X) → f x + a x ≤ g x + b x) → (xs : List X) → sum_by f xs + sum_by a xs ≤ sum_by g xs + sum_by b xs
  sums_le f g a b each [] = omega arith
  sums_le f g a b each (x ∷ xs) =
      let rest = sums_le f g a b each xs in
      let here = each x in
      let p = sum_by-cons f x xs in
      let q = sum_by-cons g x xs in
      let r = sum_by-cons a x xs in
      let s = sum_by-cons b x xs in
      omega (arith, rest, here, p, q, r, s)

  pub sum_none : (xs : List X) → sum_by (λ x. 0) xs ≡ 0
  sum_none [] = refl
  sum_none (x ∷ xs) = let rest = sum_none xs in let cons = sum_by-cons (λ x. 0) x xs in omega (arith, rest, cons)

at_itself : (place amount : ℕ) → at place amount place ≡ amount
at_itself place amount = grind arith

at_other : (place amount other : ℕ) → (place == other) ≡ false → at place amount other ≡ 0
at_other place amount other apart = grind (arith, apart)

-- one place of a range
range_past : (place amount k n : ℕ) → place < k → sum_by (at place amount) (range_with_len k n) ≡ 0
range_past place amount k zero past = refl
range_past place amount k (suc n) past =
    let rest = range_past place amount (k + 1) n (omega (arith, past)) in
    let cons = sum_by-cons (at place amount) k (range_with_len (k + 1) n) in
    let other = at_other place amount k (apart past) in
    omega (arith, rest, cons, other)
  where
    apart : place < k → (place == k) ≡ false
    apart past = grind (arith, past)

pub range_once : (place amount k n : ℕ) → k ≤ place → place < k + n → sum_by (at place amount) (range_with_len k n) ≡ amount
range_once place amount k zero low high = absurd (omega (arith, low, high))
range_once place amount k (suc n) low high = by_first (cases_Bool (place == k)) (λ further. range_once place amount (k + 1) n further (omega (arith, high)))
  where
    cons : sum_by (at place amount) (range_with_len k (suc n)) ≡ at place amount k + sum_by (at place amount) (range_with_len (k + 1) n)
    cons = sum_by-cons (at place amount) k (range_with_len (k + 1) n)

    by_first : ((place == k) ≡ true) ⊎ ((place == k) ≡ false) → (k + 1 ≤ place → sum_by (at place amount) (range_with_len (k + 1) n) ≡ amount) → sum_by (at place amount) (range_with_len k (suc n)) ≡ amount
    by_first (inl met) later =
        let same = eqb-true place k met in
        let here : at place amount k ≡ amount = subst (λ (j : ℕ). at place amount j ≡ amount) same (at_itself place amount) in
        let past = range_past place amount (k + 1) n (omega (arith, same)) in
        omega (arith, cons, here, past)
    by_first (inr unmet) later =
        let here = at_other place amount k unmet in
        let further = later (above unmet) in
        omega (arith, cons, here, further)
      where
        above : (place == k) ≡ false → k + 1 ≤ place
        above unmet = grind (arith, unmet, low)

pub range_most : (place amount k n : ℕ) → sum_by (at place amount) (range_with_len k n) ≤ amount
range_most place amount k zero = omega arith
range_most place amount k (suc n) = by_first (cases_Bool (place == k)) (range_most place amount (k + 1) n)
  where
    cons : sum_by (at place amount) (range_with_len k (suc n)) ≡ at place amount k + sum_by (at place amount) (range_with_len (k + 1) n)
    cons = sum_by-cons (at place amount) k (range_with_len (k + 1) n)

    by_first : ((place == k) ≡ true) ⊎ ((place == k) ≡ false) → sum_by (at place amount) (range_with_len (k + 1) n) ≤ amount → sum_by (at place amount) (range_with_len k (suc n)) ≤ amount
    by_first (inl met) rest =
        let same = eqb-true place k met in
        let here : at place amount k ≡ amount = subst (λ (j : ℕ). at place amount j ≡ amount) same (at_itself place amount) in
        let past = range_past place amount (k + 1) n (omega (arith, same)) in
        omega (arith, cons, here, past)
    by_first (inr unmet) rest = let here = at_other place amount k unmet in omega (arith, cons, here, rest)

-- where no item has more, where one place has more, and where one has less
pub range_kept : (f g : ℕ → ℕ) (n : ℕ) → ((s : ℕ) → f s ≤ g s) → sum_by f (range_with_len 0 n) ≤ sum_by g (range_with_len 0 n)
range_kept f g n each =
    let sums = sums_le f g (λ s. 0) (λ s. 0) (λ s. let one = each s in omega (arith, one)) (range_with_len 0 n) in
    let none = sum_none (range_with_len 0 n) in
    omega (arith, sums, none)

pub range_filled : (f g : ℕ → ℕ) (place amount n : ℕ) → ((s : ℕ) → f s ≤ g s + at place amount s) → sum_by f (range_with_len 0 n) ≤ sum_by g (range_with_len 0 n) + amount
range_filled f g place amount n each =
    let sums = sums_le f g (λ s. 0) (at place amount) (λ s. let one = each s in omega (arith, one)) (range_with_len 0 n) in
    let none = sum_none (range_with_len 0 n) in
    let most = range_most place amount 0 n in
    omega (arith, sums, none, most)

pub range_taken : (f g : ℕ → ℕ) (place amount n : ℕ) → place < n → ((s : ℕ) → f s + at place amount s ≤ g s) → sum_by f (range_with_len 0 n) + amount ≤ sum_by g (range_with_len 0 n)
range_taken f g place amount n low each =
    let sums = sums_le f g (at place amount) (λ s. 0) (λ s. let one = each s in omega (arith, one)) (range_with_len 0 n) in
    let none = sum_none (range_with_len 0 n) in
    let once = range_once place amount 0 n (omega arith) (omega (arith, low)) in
    omega (arith, sums, none, once)

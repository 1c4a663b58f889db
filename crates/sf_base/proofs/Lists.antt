-- Lists that are read by `get_elem?`, and their sums.
use Rattle.std.proofs.Common.{◌≡◌, ℕ, zero, suc, ◌+◌, ◌<◌, ◌≤◌, ◌≢◌, List, [], ◌∷◌, ◌++◌, length, get_or, set, sym, refl, ap, ◌∙◌, arith}
use Rattle.std.specs.List.{sum_by}
use Rattle.std.proofs.lemmas.List.Sums.{sum_by-set, sum_by-cons, sum_by-append}
use mathlib.Core.Option.{some, some-injective, some-ne-none}
use lib.ListN.{get_elem?}

module _ {A : Type 0} where
  pub inside : (l : List A) (i : ℕ) (a : A) → get_elem? l i ≡ some a → i < length l
  inside [] i a e = absurd (some-ne-none a (sym e))
  inside (x ∷ xs) zero a e = omega arith
  inside (x ∷ xs) (suc i) a e = let h = inside xs i a e in omega arith

  pub read : (l : List A) (i : ℕ) (a d : A) → get_elem? l i ≡ some a → get_or l i d ≡ a
  read [] i a d e = absurd (some-ne-none a (sym e))
  read (x ∷ xs) zero a d e = some-injective x a e
  read (x ∷ xs) (suc i) a d e = read xs i a d e

  pub same_at : (l : List A) (i j : ℕ) (a b : A) → i ≡ j → get_elem? l i ≡ some a → get_elem? l j ≡ some b → a ≡ b
  same_at l i j a b e p q = some-injective a b (sym p ∙ (ap (get_elem? l) e ∙ q))

  pub at_le : (f : A → ℕ) (l : List A) (i : ℕ) (a : A) → get_elem? l i ≡ some a → f a ≤ sum_by f l
  at_le f [] i a e = absurd (some-ne-none a (sym e))
  at_le f (x ∷ xs) zero a e = let h : f x ≡ f a = ap f (some-injective x a e) in omega (arith, sum_by-cons f x xs)
  at_le f (x ∷ xs) (suc i) a e = omega (arith, sum_by-cons f x xs, at_le f xs i a e)

  pub sum_set : (f : A → ℕ) (l : List A) (i : ℕ) (a b : A) → get_elem? l i ≡ some a → sum_by f (set l i b) + f a ≡ sum_by f l + f b
  sum_set f l i a b e = let h : f (get_or l i a) ≡ f a = ap f (read l i a a e) in omega (arith, sum_by-set f l i b a (inside l i a e))

  -- what a list has at two places is at most its sum
  pub two_le : (f : A → ℕ) (l : List A) (i j : ℕ) (a b : A) → j ≢ i → get_elem? l i ≡ some a → get_elem? l j ≡ some b → f a + f b ≤ sum_by f l
  two_le f [] i j a b ne p q = absurd (some-ne-none a (sym p))
  two_le f (x ∷ xs) zero zero a b ne p q = absurd (ne refl)
  two_le f (x ∷ xs) zero (suc j) a b ne p q = let h : f x ≡ f a = ap f (some-injective x a p) in omega (arith, sum_by-cons f x xs, at_le f xs j b q)
  two_le f (x ∷ xs) (suc i) zero a b ne p q = let h : f x ≡ f b = ap f (some-injective x b q) in omega (arith, sum_by-cons f x xs, at_le f xs i a p)
  two_le f (x ∷ xs) (suc i) (suc j) a b ne p q = omega (arith, sum_by-cons f x xs, two_le f xs i j a b (λ e. ne (ap suc e)) p q)

  pub sum_snoc : (f : A → ℕ) (l : List A) (a : A) → sum_by f (l ++ a ∷ []) ≡ sum_by f l + f a
  sum_snoc f l a = omega (arith, sum_by-append f l (a ∷ []), sum_by-cons f a [])

  pub zero_sum : (f : A → ℕ) (l : List A) → ((j : ℕ) (a : A) → get_elem? l j ≡ some a → f a ≡ 0) → sum_by f l ≡ 0
  zero_sum f [] h = refl
  zero_sum f (x ∷ xs) h = let a = h zero x refl in let b = zero_sum f xs (λ j y e. h (suc j) y e) in omega (arith, sum_by-cons f x xs)

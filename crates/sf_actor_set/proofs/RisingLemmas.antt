-- A list by rising number, from a list in which no number stands twice.
use Rattle.std.proofs.Common.{◌≡◌, ◌≢◌, ℕ, List, [], ◌∷◌, map, arith}
use Rattle.std.specs.Prelude.{◌==◌}
use Rattle.std.specs.List.{AllPairs}
use Rattle.std.specs.List.Sorted.{IsNonDecreasing, IsNonDecreasingBy, IsStrictlyIncreasing}
use Rattle.std.proofs.lemmas.Bool.Decides.{Decides-eqb}
use Rattle.std.proofs.lemmas.List.{get_or-map, length-map}
use Rattle.std.proofs.lemmas.List.Kept.{AllPairs-from_increasing}
use Rattle.std.proofs.lemmas.List.Sorted.{IsPermutation-map}
use Rattle.std.proofs.lemmas.Map.Keys.{IsDistinct-IsPermutation, IsStrictlyIncreasing-from_distinct}
use Rattle.std.proofs.lemmas.Map.Made.{IsDistinct-from_AllPairs}
use Rattle.sf_actor_set.specs.Opening.{IsSortedFrom}

flips : (m n : ℕ) → (m == n) ≡ (n == m)
flips m n = grind arith

module _ {X : Type 0} (number : X → ℕ) where
  -- no number stands twice, said of the numbers
  differ : (xs : List X) → AllPairs (λ x y. number x ≢ number y) xs → AllPairs (λ m n. m ≢ n) (map number xs)
  differ [] pairs = λ i j d before below. absurd (omega arith)
  differ (x ∷ xs) pairs = λ i j d before below.
      let many = length-map (x ∷ xs) number in
      rw (get_or-map number (x ∷ xs) i x d (omega (arith, many)), get_or-map number (x ∷ xs) j x d (omega (arith, many))) (pairs i j x before (omega (arith, many)))

  rise : (xs : List X) → IsNonDecreasingBy number xs → IsNonDecreasing (map number xs)
  rise [] sorted = λ i j d up below. absurd (omega arith)
  rise (x ∷ xs) sorted = λ i j d up below.
      let many = length-map (x ∷ xs) number in
      rw (get_or-map number (x ∷ xs) i x d (omega (arith, many)), get_or-map number (x ∷ xs) j x d (omega (arith, many))) (sorted i j x up (omega (arith, many)))

  pub sorted_rises : (xs sorted : List X) → AllPairs (λ x y. number x ≢ number y) xs → IsSortedFrom number xs sorted → IsStrictlyIncreasing (map number sorted)
  sorted_rises xs sorted pairs is =
      IsStrictlyIncreasing-from_distinct (map number sorted) (rise sorted is.rising)
      (IsDistinct-IsPermutation _ flips (map number xs) (map number sorted) (IsPermutation-map number xs sorted is.permutation) (IsDistinct-from_AllPairs Decides-eqb (map number xs) (differ xs pairs)))

-- numbers that rise differ
pub rising_differ : (xs : List ℕ) → IsStrictlyIncreasing xs → AllPairs (λ m n. m ≢ n) xs
rising_differ xs up = λ i j d before below. λ e. let h = AllPairs-from_increasing xs up i j d before below in absurd (omega arith)

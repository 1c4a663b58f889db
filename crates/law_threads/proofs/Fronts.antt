-- The earliest calls of a history.
use Rattle.std.proofs.Common.{◌≡◌, ℕ, ◌<◌, ◌≤◌, true, false, List, [], ◌∷◌, ◌++◌, arith, ap, ◌∙◌, refl, inl, inr, length}
use Rattle.std.specs.Prelude.{nat_le}
use Rattle.std.proofs.lemmas.Bool.{cases_Bool, leb-true}
use Rattle.law_threads.specs.Cuts.{front}

module _ {A : Type 0} where
  joined_nil : (xs : List A) → xs ≡ [] ++ xs
  joined_nil xs = refl

  -- a history that is no longer than that
  pub front_all : (n : ℕ) (xs : List A) → length xs ≤ n → front n xs ≡ xs
  front_all n [] few = refl
  front_all n (x ∷ xs) few = rw (le_true (length (x ∷ xs)) n few) refl
    where
      le_true : (a b : ℕ) → a ≤ b → nat_le a b ≡ true
      le_true a b less = grind (arith, less)

  pub front_shorter : (n : ℕ) (x : A) (xs : List A) → n < length (x ∷ xs) → front n (x ∷ xs) ≡ front n xs
  front_shorter n x xs more = rw (le_false (length (x ∷ xs)) n more) refl
    where
      le_false : (a b : ℕ) → b < a → nat_le a b ≡ false
      le_false a b less = grind (arith, less)

  -- what a history began as
  pub front_of : (more ys : List A) → front (length ys) (more ++ ys) ≡ ys
  front_of [] ys = front_all (length ys) ys (omega arith)
  front_of (x ∷ more) ys = front_shorter (length ys) x (more ++ ys) (longer more) ∙ front_of more ys
    where
      longer : (more : List A) → length ys < length (x ∷ more ++ ys)
      longer [] = omega arith
      longer (m ∷ more) = let rest = longer more in omega (arith, rest)

  pub front_begins : (n : ℕ) (xs : List A) → (more : List A) × (xs ≡ more ++ front n xs)
  front_begins n [] = ([], refl)
  front_begins n (x ∷ xs) = by_length (front_begins n xs)
    where
      by_length : ((more : List A) × (xs ≡ more ++ front n xs)) → (more : List A) × (x ∷ xs ≡ more ++ front n (x ∷ xs))
      by_length rest = elim (cases_Bool (nat_le (length (x ∷ xs)) n)) [
        | inl met ↦ ([], rw met refl)
        | inr unmet ↦ (x ∷ rest.0, rw unmet (ap (λ (ys : List A). x ∷ ys) rest.1))
      ]

  pub front_length : (n : ℕ) (xs : List A) → length (front n xs) ≤ n
  front_length n [] = omega arith
  front_length n (x ∷ xs) = by_length (front_length n xs)
    where
      by_length : length (front n xs) ≤ n → length (front n (x ∷ xs)) ≤ n
      by_length rest = elim (cases_Bool (nat_le (length (x ∷ xs)) n)) [
        | inl met ↦ rw met (leb-true (length (x ∷ xs)) n met)
        | inr unmet ↦ rw unmet rest
      ]

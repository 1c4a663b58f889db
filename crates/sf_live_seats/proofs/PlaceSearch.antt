-- A search for the first place of a list where a test passes, from its front on.
use Rattle.std.proofs.Common.{◌≡◌, ℕ, zero, suc, ◌+◌, ◌<◌, ◌≤◌, Bool, true, false, cond, is_some, List, [], ◌∷◌, inl, inr, length, get_or, Some, None, arith, ap, ◌∙◌, sym, refl, subst}
use Rattle.std.specs.Prelude.{◌⊎◌, nat_lt}
use Rattle.std.specs.List.{list_any, position, position_or_len}
use Rattle.std.proofs.lemmas.Bool.{cases_Bool, lt-ltb, le-ltb}
use Rattle.std.proofs.lemmas.Bool.Decides.{nat_tests}
use Rattle.std.proofs.lemmas.List.{get_or_default}
use Rattle.std.proofs.lemmas.List.Sums.{position_or_len_is}

-- below the next number is this one, or one below
pub below_next : (k n : ℕ) → k < n + 1 → (k < n) ⊎ (k ≡ n)
below_next zero zero low = inr refl
below_next zero (suc n) low = inl (omega arith)
below_next (suc k) zero low = absurd (omega (arith, low))
below_next (suc k) (suc n) low = elim (below_next k n (omega (arith, low))) [
  | inl less ↦ inl (omega (arith, less))
  | inr same ↦ inr (ap suc same)
]

-- the test passes at none of the first places
abbrev pub NoneBefore : {X : Type 0} → (X → Bool) → List X → ℕ → Type 0
NoneBefore {X} test xs place = (k : ℕ) (d : X) → k < place → test (get_or xs k d) ≡ false

pub none_first : {X : Type 0} (test : X → Bool) (xs : List X) → NoneBefore test xs 0
none_first test xs k d low = absurd (omega (arith, low))

pub none_next : {X : Type 0} (test : X → Bool) (xs : List X) (place : ℕ) (x : X) → NoneBefore test xs place → place < length xs → test (get_or xs place x) ≡ false → NoneBefore test xs (place + 1)
none_next test xs place x none low unmet k d less = elim (below_next k place less) [
  | inl earlier ↦ none k d earlier
  | inr this ↦ subst (λ y. test y ≡ false) (get_or_default xs place x d low ∙ ap (λ (n : ℕ). get_or xs n d) (sym this)) unmet
]

pub place_found : {X : Type 0} (test : X → Bool) (xs : List X) (place : ℕ) (x : X) → NoneBefore test xs place → place < length xs → test (get_or xs place x) ≡ true → position test xs ≡ Some place
place_found test xs place x none low met = rw (position_or_len_is test xs place x (omega (arith, low)) (λ k. none k x) (λ here. met), lt-ltb place (length xs) low) refl

none_at_all : {X : Type 0} (test : X → Bool) (xs : List X) (x : X) → NoneBefore test xs (length xs) → position test xs ≡ None
none_at_all test xs x none = rw (position_or_len_is test xs (length xs) x (omega arith) (λ k. none k x) (λ here. absurd (omega (arith, here))), le-ltb (length xs) (length xs) (omega arith)) refl

pub none_found : {X : Type 0} (test : X → Bool) (xs : List X) (place : ℕ) → NoneBefore test xs place → length xs ≤ place → position test xs ≡ None
none_found test [] place none end = refl
none_found test (x ∷ xs) place none end = none_at_all test (x ∷ xs) x (λ k d low. none k d (up k low))
  where
    up : (k : ℕ) → k < length (x ∷ xs) → k < place
    up k low = omega (arith, low, end)

lt-suc : (a b : ℕ) → nat_lt (1 + a) (suc b) ≡ nat_lt a b
lt-suc a b = elim (cases_Bool (nat_lt a b)) [
  | inl met ↦ grind (arith, nat_tests, met)
  | inr unmet ↦ grind (arith, nat_tests, unmet)
]

reached : {X : Type 0} (test : X → Bool) (xs : List X) → nat_lt (position_or_len test xs) (length xs) ≡ list_any test xs
reached test [] = refl
reached test (x ∷ xs) = elim (cases_Bool (test x)) [
  | inl met ↦ rw met (grind (arith, nat_tests))
  | inr unmet ↦ rw unmet (lt-suc (position_or_len test xs) (length xs) ∙ reached test xs)
]

some_if : (b : Bool) (n : ℕ) → is_some (cond b (Some n) None) ≡ b
some_if true n = refl
some_if false n = refl

-- a place is found where the test passes somewhere
pub is_some-position : {X : Type 0} (test : X → Bool) (xs : List X) → is_some (position test xs) ≡ list_any test xs
is_some-position test xs = some_if (nat_lt (position_or_len test xs) (length xs)) (position_or_len test xs) ∙ reached test xs

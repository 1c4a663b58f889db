-- Names of which the first ones were gone through.
use Rattle.std.proofs.Common.{◌≡◌, ◌∙◌, ℕ, zero, suc, ◌+◌, ◌≤◌, List, [], ◌∷◌, length, map, set, get_or, Option, None, refl, ap, arith}

-- the first ones are changed, the others are as they were
unfoldable pub changed_to : {A : Type 0} → (Option A → Option A) → ℕ → List (Option A) → List (Option A)
changed_to f zero xs = xs
changed_to f (suc k) [] = []
changed_to f (suc k) (x ∷ xs) = f x ∷ changed_to f k xs

pub changed_next : {A : Type 0} (f : Option A → Option A) (k : ℕ) (xs : List (Option A)) → set (changed_to f k xs) k (f (get_or (changed_to f k xs) k None)) ≡ changed_to f (suc k) xs
unfolding changed_to
changed_next f zero [] = refl
changed_next f zero (x ∷ xs) = refl
changed_next f (suc k) [] = refl
changed_next f (suc k) (x ∷ xs) = ap (λ (rest : List (Option _)). f x ∷ rest) (changed_next f k xs)

pub changed_all : {A : Type 0} (f : Option A → Option A) (k : ℕ) (xs : List (Option A)) → length xs ≤ k → changed_to f k xs ≡ map f xs
unfolding changed_to
changed_all f zero [] few = refl
changed_all f zero (x ∷ xs) few = absurd (omega (few, arith))
changed_all f (suc k) [] few = refl
changed_all f (suc k) (x ∷ xs) few = ap (λ (rest : List (Option _)). f x ∷ rest) (changed_all f k xs (omega (few, arith)))

pub changed_none : {A : Type 0} (f : Option A → Option A) (xs : List (Option A)) → changed_to f 0 xs ≡ xs
unfolding changed_to
changed_none f xs = refl

pub changed_one_more : {A : Type 0} (f : Option A → Option A) (k : ℕ) (xs : List (Option A)) → set (changed_to f k xs) k (f (get_or (changed_to f k xs) k None)) ≡ changed_to f (k + 1) xs
changed_one_more f k xs = changed_next f k xs ∙ ap (λ (m : ℕ). changed_to f m xs) (omega arith)

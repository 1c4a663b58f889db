-- Numbers of callers.
use Rattle.std.proofs.Common.{ℕ, zero, suc, ◌+◌, ◌≤◌, List, [], ◌∷◌, arith}
use Rattle.std.specs.List.{AllByRecursion, Contains}

-- the next number is none of those up to the last one
pub next_is_new : (last : ℕ) (numbers : List ℕ) → AllByRecursion (λ b. b ≤ last) numbers → Contains numbers (last + 1) → ⊥
next_is_new last [] low (k, inside, is) = absurd (omega arith)
next_is_new last (b ∷ numbers) low (zero, inside, is) = let z = low.0 in absurd (omega arith)
next_is_new last (b ∷ numbers) low (suc k, inside, is) = next_is_new last numbers low.1 (k, omega arith, is)

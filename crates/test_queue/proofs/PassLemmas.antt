-- Which callers have passes.
use Rattle.std.proofs.Common.{◌≡◌, ℕ, ◌<◌, suc, zero, [], ◌∷◌, arith, sym}
use Rattle.std.specs.Prelude.{slice_index_or}
use Rattle.std.specs.List.{Contains}

no_two_at : (k : ℕ) → k < 1 → ◌≡◌ {A = ℕ} (slice_index_or (1 ∷ []) k 2) 2 → ⊥
no_two_at zero low same = absurd (omega (arith, same))
no_two_at (suc k) low same = absurd (omega (arith, low))

-- the first caller is not the second
pub not_second : Contains {X = ℕ} (1 ∷ []) 2 → ⊥
not_second there = no_two_at there.0 there.1 there.2

two_at : (b k : ℕ) → k < 1 → ◌≡◌ {A = ℕ} (slice_index_or (2 ∷ []) k b) b → b ≡ 2
two_at b zero low same = sym same
two_at b (suc k) low same = absurd (omega (arith, low))

-- the only pass that was given is the second caller's
pub only_second : (b : ℕ) → Contains {X = ℕ} (2 ∷ []) b → b ≡ 2
only_second b there = two_at b there.0 there.1 there.2

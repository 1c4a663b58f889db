-- Counts of looks.
use Rattle.std.specs.Prelude.{◌≡◌, ℕ, ◌+◌, ◌-◌, ◌^◌, min}

-- a count rises by just one, up to its greatest value
abbrev pub HasRisen : ℕ → ℕ → Type 0
HasRisen old new = new ≡ min (old + 1) (2 ^ 64 - 1)

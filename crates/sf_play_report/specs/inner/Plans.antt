-- What is declared under a number.
use Rattle.std.specs.Prelude.{ℕ, ◌==◌, Bool}

abbrev pub is_numbered : {X : Type 0} → (X → ℕ) → ℕ → X → Bool
is_numbered number_of number item = number_of item == number

-- A source or a sink over the outside.
use Rattle.std.specs.Prelude.{ℕ, List, Option}

-- the bytes that are left or were taken, where they are known, and how many calls failed
pub record Outside : Type 0 where
  pub bytes : Option (List ℕ)
  pub faults : ℕ

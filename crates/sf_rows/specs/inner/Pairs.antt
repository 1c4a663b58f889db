-- Two pixels of each of four rows.
use Rattle.std.specs.Prelude.{◌≡◌, ℕ, zero, suc, List}
use Rattle.sf_base.specs.Bytes.{pixel_in}
use Rattle.sf_rows.specs.declared.columns.Pairs.{Pairs}

-- the two pixels of a row, by its number
abbrev pub row_of : Pairs → ℕ → List ℕ
row_of pairs zero = pairs.first
row_of pairs (suc zero) = pairs.second
row_of pairs (suc (suc zero)) = pairs.third
row_of pairs (suc (suc (suc n))) = pairs.fourth

-- two pixels are those that two columns have in a row
pub record HasPair (left right : List ℕ) (row : ℕ) (pair : List ℕ) : Type 0 where
  pub first : pixel_in pair 0 ≡ pixel_in left row
  pub second : pixel_in pair 1 ≡ pixel_in right row

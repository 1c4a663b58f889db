-- Numbers in words.
use Rattle.std.specs.Prelude.{ℕ, ◌+◌, ◌-◌, ◌*◌, nat_le, ◌==◌, ◌&&◌, if◌then◌else◌, ℤ, pos, neg_ℤ, Bool, [], ◌∷◌, length, Option, None, Some}
use Rattle.std.specs.Option.{option_map}
use Rattle.sf_script_words.specs.Text.{Text}

-- an ASCII digit
abbrev pub is_digit : ℕ → Bool
is_digit b = nat_le 48 b && nat_le b 57

-- the number that digits give after others that gave a number
unfoldable pub digits_after : ℕ → Text → Option ℕ
digits_after n [] = Some n
digits_after n (b ∷ bs) = if is_digit b then digits_after (10 * n + (b - 48)) bs else None

-- one to twenty decimal digits
unfoldable pub decimal_of : Text → Option ℕ
decimal_of word = if nat_le 1 (length word) && nat_le (length word) 20 then digits_after 0 word else None

-- a value in a range
abbrev pub in_range : ℕ → ℕ → Option ℕ → Option ℕ
in_range low high None = None
in_range low high (Some n) = if nat_le low n && nat_le n high then Some n else None

-- a number down to `-below` and up to `above`: one to twenty decimal digits, with a `-` before them or without
unfoldable pub signed_of : ℕ → ℕ → Text → Option ℤ
signed_of below above [] = None
signed_of below above (b ∷ bs) =
    if b == 45 then option_map (λ n. neg_ℤ (pos n)) (in_range 0 below (decimal_of bs)) else option_map pos (in_range 0 above (decimal_of (b ∷ bs)))

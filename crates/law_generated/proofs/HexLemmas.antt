-- Hexadecimal digits, read back.
use Rattle.std.proofs.Common.{◌≡◌, ℕ, ◌+◌, ◌*◌, ◌/◌, ◌%◌, ◌<◌, false, Some, ap, arith}
use Rattle.std.specs.Fmt.{digit_glyph}
use Rattle.std.proofs.lemmas.Bool.Decides.{nat_tests}
use Rattle.sf_script_words.specs.Colours.{hex_digit, hex_pair}

pub hex_digit_read : (d : ℕ) → d < 16 → hex_digit (digit_glyph false d) ≡ Some d
hex_digit_read d h = grind (arith, nat_tests)

pub hex_pair_read : (n : ℕ) → n < 256 → hex_pair (digit_glyph false (n / 16)) (digit_glyph false (n % 16)) ≡ Some n
unfolding hex_pair
hex_pair_read n h =
    let value : 16 * (n / 16) + n % 16 ≡ n = omega arith in
    rw (hex_digit_read (n / 16) (omega arith), hex_digit_read (n % 16) (omega arith)) (ap Some value)

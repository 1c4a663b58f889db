-- Words that were printed, read back.
use Rattle.std.proofs.Common.{◌≡◌, ℕ, ◌+◌, ◌%◌, ◌^◌, ◌<◌, ◌≤◌, true, false, List, [], ◌∷◌, ◌++◌, Some, None, Ok, pos, get_or, refl, arith}
use Rattle.std.specs.Prelude.{codes, nat_le, ◌&&◌, ◌==◌}
use Rattle.std.specs.Option.{option_map}
use Rattle.std.specs.Fmt.{decimal}
use Rattle.std.proofs.lemmas.Bool.Decides.{nat_tests}
use Rattle.std.proofs.lemmas.Fmt.{decimal_by_steps}
use Rattle.sf_script_generate.specs.Lines.{hex}
use Rattle.sf_script_words.specs.Text.{Text}
use Rattle.sf_script_words.specs.Numbers.{decimal_of, digits_after, in_range, signed_of}
use Rattle.sf_script_words.specs.Colours.{colour_at, colour_of}
use Rattle.sf_script_words.specs.Reading.{flag_at, number_at, signed_at, word_at}
use Rattle.law_generated.proofs.DecimalLemmas.{decimal_read, if_is, if_not}
use Rattle.law_generated.proofs.HexLemmas.{hex_pair_read}

in_range_read : (low high n : ℕ) → low ≤ n → n ≤ high → in_range low high (Some n) ≡ Some n
in_range_read low high n l h = let right : (nat_le low n && nat_le n high) ≡ true = grind (arith, nat_tests) in if_is (nat_le low n && nat_le n high) (Some n) None right

pub number_read : (low high n : ℕ) (words : List Text) → low ≤ n → n ≤ high → n < 2 ^ 64 → number_at low high (decimal n ∷ words) ≡ Ok (n, words)
unfolding number_at word_at
number_read low high n words l h fits = rw (decimal_read n fits, in_range_read low high n l h) refl

pub flag_read : (n : ℕ) (words : List Text) → n < 2 → flag_at (decimal n ∷ words) ≡ Ok (n == 1, words)
unfolding flag_at
flag_read n words h = rw (number_read 0 1 n words (omega arith) (omega arith) (omega arith)) refl

-- digits begin with no `-`
begins_low : (n : ℕ) → n < 2 ^ 64 → 48 ≤ get_or (decimal n) 0 0
begins_low n h = decimal_by_steps (λ n ds. 48 ≤ get_or ds 0 0) (λ n k. omega arith) (λ n ds k before. more ds ((48 + n % 10) ∷ []) before) n h
  where
    more : (s t : Text) → 48 ≤ get_or s 0 0 → 48 ≤ get_or (s ++ t) 0 0
    more [] t k = absurd (omega arith)
    more (b ∷ s) t k = k

signed_text : (below above : ℕ) (w : Text) → 48 ≤ get_or w 0 0 → signed_of below above w ≡ option_map pos (in_range 0 above (decimal_of w))
unfolding signed_of
signed_text below above [] h = absurd (omega arith)
signed_text below above (b ∷ w) h = let other : (b == 45) ≡ false = grind (arith, nat_tests) in if_not (b == 45) _ (option_map pos (in_range 0 above (decimal_of (b ∷ w)))) other

pub signed_read : (below above n : ℕ) (words : List Text) → n ≤ above → n < 2 ^ 64 → signed_at below above (decimal n ∷ words) ≡ Ok (pos n, words)
unfolding signed_at word_at
signed_read below above n words h fits = rw (signed_text below above (decimal n) (begins_low n fits), decimal_read n fits, in_range_read 0 above n (omega arith) h) refl

pub colour_read : (r g b a : ℕ) (words : List Text) → r < 256 → g < 256 → b < 256 → a < 256 → colour_at ((hex r ++ hex g ++ hex b ++ hex a) ∷ words) ≡ Ok (record { r = r; g = g; b = b; a = a }, words)
unfolding colour_at word_at colour_of hex
colour_read r g b a words hr hg hb ha = rw (hex_pair_read r hr, hex_pair_read g hg, hex_pair_read b hb, hex_pair_read a ha) refl

-- numbers that are written out
pub one_read : (words : List Text) → number_at 1 64 (codes "1" ∷ words) ≡ Ok (1, words)
unfolding number_at word_at decimal_of digits_after
one_read words = refl

pub two_read : (words : List Text) → number_at 0 4294967295 (codes "2" ∷ words) ≡ Ok (2, words)
unfolding number_at word_at decimal_of digits_after
two_read words = refl

pub none_read : (words : List Text) → number_at 0 4294967295 (codes "0" ∷ words) ≡ Ok (0, words)
unfolding number_at word_at decimal_of digits_after
none_read words = refl

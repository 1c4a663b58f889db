-- Names in words.
use Rattle.std.specs.Prelude.{ℕ, ◌==◌, nat_le, ◌&&◌, ◌||◌, Bool, false, List, [], ◌∷◌, length, Ok}
use Rattle.std.specs.List.{list_all}
use Rattle.sf_script_words.specs.Text.{Text}
use Rattle.sf_script_words.specs.Numbers.{is_digit}
use Rattle.sf_script_words.specs.Reading.{Read, ◌>>=◌, demand, word_at}
use Rattle.sf_script_words.specs.declared.fault.Cause.TheVariants.{BadWord}

-- an ASCII letter
abbrev pub is_letter : ℕ → Bool
is_letter b = nat_le 65 b && nat_le b 90 || nat_le 97 b && nat_le b 122

-- a letter, a digit or `_`
abbrev pub is_name_byte : ℕ → Bool
is_name_byte b = is_letter b || is_digit b || b == 95

-- 1 to 16 letters, digits and `_`, the first a letter
unfoldable pub is_name : Text → Bool
is_name [] = false
is_name (b ∷ bs) = is_letter b && nat_le (length bs) 15 && list_all is_name_byte bs

-- a name
unfoldable pub name_at : List Text → Read Text
name_at words = do
  word ← word_at words
  _ ← demand (is_name word.0) (length words) BadWord
  Ok word

-- Colours in words.
use Rattle.std.specs.Prelude.{ℕ, ◌+◌, ◌-◌, ◌*◌, nat_le, ◌&&◌, if◌then◌else◌, List, [], ◌∷◌, length, Option, None, Some, Ok, option_and_then}
use Rattle.std.specs.Option.{option_map}
use Rattle.sf_base.specs.declared.pixel.Rgba.{Rgba}
use Rattle.sf_script_words.specs.Text.{Text}
use Rattle.sf_script_words.specs.Numbers.{is_digit}
use Rattle.sf_script_words.specs.Reading.{Read, ◌>>=◌, good, word_at}

-- the value of a hexadecimal digit of either case
abbrev pub hex_digit : ℕ → Option ℕ
hex_digit b =
    if is_digit b then Some (b - 48) else
    if nat_le 97 b && nat_le b 102 then Some (b - 87) else
    if nat_le 65 b && nat_le b 70 then Some (b - 55) else None

-- two hexadecimal digits
unfoldable pub hex_pair : ℕ → ℕ → Option ℕ
hex_pair a b = option_and_then (λ high. option_map (λ low. 16 * high + low) (hex_digit b)) (hex_digit a)

-- eight hexadecimal digits: red, green, blue and alpha
unfoldable pub colour_of : Text → Option Rgba
colour_of (r ∷ r' ∷ g ∷ g' ∷ b ∷ b' ∷ a ∷ a' ∷ []) = colour_from (hex_pair r r') (hex_pair g g') (hex_pair b b') (hex_pair a a')
  where
    colour_from : Option ℕ → Option ℕ → Option ℕ → Option ℕ → Option Rgba
    colour_from (Some r) (Some g) (Some b) (Some a) = Some (record { r = r; g = g; b = b; a = a })
    colour_from _ _ _ _ = None
colour_of _ = None

-- a colour
unfoldable pub colour_at : List Text → Read Rgba
colour_at words = do
  word ← word_at words
  colour ← good (length words) (colour_of word.0)
  Ok (colour, word.1)

-- The lines of a generated scene, as bytes. Each ends with byte 10.
use Rattle.std.specs.Prelude.{◌≡◌, ℕ, ◌/◌, ◌%◌, false, List, [], ◌∷◌, ◌++◌, codes}
use Rattle.std.specs.List.{concat}
use Rattle.std.specs.Fmt.{decimal, digit_glyph}

-- a list of bytes
abbrev pub Text : Type 0
Text = List ℕ

-- a text grew by these lines
pub record GrowsBy (lines : List Text) (old new : Text) : Type 0 where
  pub grown : new ≡ old ++ concat lines

-- a byte as two hexadecimal digits
unfoldable pub hex : ℕ → Text
hex n = digit_glyph false (n / 16) ∷ digit_glyph false (n % 16) ∷ []

-- words as a line
unfoldable pub plain_line : Text → Text
plain_line words = words ++ 10 ∷ []

-- words with a number between them
unfoldable pub numbered_line : Text → ℕ → Text → Text
numbered_line before n behind = before ++ decimal n ++ behind ++ 10 ∷ []

-- words with a number between them and one behind
unfoldable pub pair_line : Text → ℕ → Text → ℕ → Text
pair_line before n between m = before ++ decimal n ++ between ++ decimal m ++ 10 ∷ []

-- where a layer goes
unfoldable pub position_line : ℕ → ℕ → ℕ → Text
position_line layer x y = codes "set 1 " ++ decimal layer ++ codes " position " ++ decimal x ++ codes " " ++ decimal y ++ 10 ∷ []

-- the whole picture in an opaque colour
unfoldable pub fill_line : ℕ → ℕ → ℕ → Text
fill_line r g b = codes "fill 0 0 32 32 " ++ hex r ++ hex g ++ hex b ++ codes "ff" ++ 10 ∷ []

-- a square in a translucent colour
unfoldable pub glass_line : ℕ → ℕ → ℕ → ℕ → ℕ → ℕ → Text
glass_line x y r g b a = codes "fill " ++ decimal x ++ codes " " ++ decimal y ++ codes " 16 16 " ++ hex r ++ hex g ++ hex b ++ hex a ++ 10 ∷ []

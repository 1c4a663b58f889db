-- Texts of printed characters.
use Rattle.std.specs.Prelude.{◌≡◌, ◌<◌, ◌≤◌, false, [], ◌∷◌}
use Rattle.sf_script_words.specs.Text.{Text, is_blank}

-- each byte is a printed ASCII character, or a space
abbrev pub IsPlain : Text → Type 0
IsPlain [] = Unit {0}
IsPlain (b ∷ bs) = ((32 ≤ b) × (b < 127)) × IsPlain bs

-- no byte separates words
abbrev pub IsSolid : Text → Type 0
IsSolid [] = Unit {0}
IsSolid (b ∷ bs) = (is_blank b ≡ false) × IsSolid bs

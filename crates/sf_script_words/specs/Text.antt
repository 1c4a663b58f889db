-- The lines of a script, and the words of a line.
use Rattle.std.specs.Prelude.{ℕ, ◌==◌, Bool, true, ◌||◌, if◌then◌else◌, List, [], ◌∷◌, ◌-◌, length, take, slice_index}

-- a list of bytes
abbrev pub Text : Type 0
Text = List ℕ

-- space and tab separate words
abbrev pub is_blank : ℕ → Bool
is_blank b = b == 32 || b == 9

-- a byte of the first line
abbrev pub onto : ℕ → List Text → List Text
onto b [] = (b ∷ []) ∷ []
onto b (line ∷ lines) = (b ∷ line) ∷ lines

-- The lines, which byte 10 ends. One at the very end begins no further line.
unfoldable pub lines_of : Text → List Text
lines_of [] = []
lines_of (b ∷ bs) = if b == 10 then [] ∷ lines_of bs else onto b (lines_of bs)

-- a word may end here
abbrev pub ends_word : Text → Bool
ends_word [] = true
ends_word (b ∷ bs) = is_blank b

-- the words, which spaces and tabs separate
unfoldable pub words_of : Text → List Text
words_of [] = []
words_of (b ∷ bs) = if is_blank b then words_of bs else if ends_word bs then (b ∷ []) ∷ words_of bs else onto b (words_of bs)

-- a line without a byte 13 at its end
unfoldable pub trimmed : Text → Text
trimmed line = if slice_index line (length line - 1) == 13 then take (length line - 1) line else line

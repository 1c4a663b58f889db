-- Reading a line from its first word on: a value and the words after it, or the fault of the
-- leftmost word that is wrong.
use Rattle.std.specs.Prelude.{◌≡◌, ℕ, ◌==◌, ℤ, if◌then◌else◌, Bool, List, [], ◌∷◌, length, Option, None, Some, Result, Ok, Err}
use Rattle.std.specs.Str.{bytes_eq}
use Rattle.sf_script_words.specs.Text.{Text}
pub use Rattle.sf_script_words.specs.Numbers.{in_range}
use Rattle.sf_script_words.specs.Numbers.{decimal_of, signed_of}
use Rattle.sf_script_words.specs.declared.fault.Cause.{Cause}
use Rattle.sf_script_words.specs.declared.fault.Cause.TheVariants.{BadWord, MissingWord, ExtraWord, UnknownWord}
use Rattle.sf_script_words.specs.declared.fault.WordFault.{WordFault}

-- what reading gives: a value and the words that are left, or a fault
abbrev pub Read : Type 0 → Type 0
Read A = Result (A × List Text) WordFault

-- read on, unless there was a fault
infixl 10 ◌>>=◌
abbrev pub ◌>>=◌ : {A B : Type 0} → Result A WordFault → (A → Result B WordFault) → Result B WordFault
(Ok x) >>= f = f x
(Err e) >>= f = Err e

-- what a function returned, seen by view, is what reading gives
abbrev pub Gives : {X Y : Type 0} → (X → Y) → Result X WordFault → Result Y WordFault → Type 0
Gives view (Ok x) read = read ≡ Ok (view x)
Gives view (Err e) read = read ≡ Err e

-- a word is wrong, of so many that are left
abbrev pub wrong : {A : Type 0} → ℕ → Cause → Result A WordFault
wrong left cause = Err (record { left = left; cause = cause })

-- a word is wrong unless this holds
abbrev pub demand : Bool → ℕ → Cause → Result (Unit {0}) WordFault
demand holds left cause = if holds then Ok tt else wrong left cause

-- a value, or a word that is wrong for this cause
abbrev pub some_or : {A : Type 0} → ℕ → Cause → Option A → Result A WordFault
some_or left cause None = wrong left cause
some_or left cause (Some x) = Ok x

-- a value, or a bad word
abbrev pub good : {A : Type 0} → ℕ → Option A → Result A WordFault
good left value = some_or left BadWord value

-- the next word
unfoldable pub word_at : List Text → Read Text
word_at [] = wrong 0 MissingWord
word_at (word ∷ words) = Ok (word, words)

-- a number in a range
unfoldable pub number_at : ℕ → ℕ → List Text → Read ℕ
number_at low high words = do
  word ← word_at words
  n ← good (length words) (in_range low high (decimal_of word.0))
  Ok (n, word.1)

-- a number down to `-below` and up to `above`
unfoldable pub signed_at : ℕ → ℕ → List Text → Read ℤ
signed_at below above words = do
  word ← word_at words
  z ← good (length words) (signed_of below above word.0)
  Ok (z, word.1)

-- 0 or 1, for no and yes
unfoldable pub flag_at : List Text → Read Bool
flag_at words = do
  number ← number_at 0 1 words
  Ok (number.0 == 1, number.1)

-- a fixed word
unfoldable pub fixed_at : Text → List Text → Read (Unit {0})
fixed_at text words = do
  word ← word_at words
  _ ← demand (bytes_eq word.0 text) (length words) UnknownWord
  Ok (tt, word.1)

-- the line ends here
unfoldable pub end_at : List Text → Result (Unit {0}) WordFault
end_at [] = Ok tt
end_at (word ∷ words) = wrong (length (word ∷ words)) ExtraWord

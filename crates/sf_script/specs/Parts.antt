-- The parts of a form that may be absent.
use Rattle.std.specs.Prelude.{ℕ, ◌++◌, if◌then◌else◌, List, [], ◌∷◌, length, Option, None, Some, Result, Ok, codes}
use Rattle.std.specs.Str.{bytes_eq}
use Rattle.sf_script_words.specs.Text.{Text}
use Rattle.sf_script_words.specs.Numbers.{decimal_of}
use Rattle.sf_script_words.specs.Reading.{Read, ◌>>=◌, end_at, fixed_at, good, in_range, number_at, wrong}
use Rattle.sf_script_words.specs.declared.fault.Cause.TheVariants.{MissingWord, UnknownWord}
use Rattle.sf_script_words.specs.declared.fault.WordFault.{WordFault}
use Rattle.sf_script_scene.specs.Scene.{SceneValue}
use Rattle.sf_script.specs.Mentions.{timeline_of}

-- a time in nanoseconds
abbrev pub moment_at : List Text → Read ℕ
moment_at words = number_at 0 9223372036854775807 words

-- a value of a timeline, or a frame number
abbrev pub value_at : List Text → Read ℕ
value_at words = number_at 0 18446744073709551615 words

-- the end of a line with `size DW DH`, or nothing
unfoldable pub asked_size_at : List Text → Result (Option (ℕ × ℕ)) WordFault
asked_size_at [] = Ok None
asked_size_at (word ∷ words) = do
  rest ← fixed_at (codes "size") (word ∷ words)
  width ← number_at 0 4294967295 rest.1
  height ← number_at 0 4294967295 width.1
  _ ← end_at height.1
  Ok (Some (width.0, height.0))

-- the end of a line with `at TIME`, or nothing
unfoldable pub expected_at : List Text → Result (Option ℕ) WordFault
expected_at [] = Ok None
expected_at (word ∷ words) = do
  rest ← fixed_at (codes "at") (word ∷ words)
  time ← moment_at rest.1
  _ ← end_at time.1
  Ok (Some time.0)

-- a time, behind `time`
abbrev pub some_time_at : List Text → Read (Option ℕ)
some_time_at words = do
  time ← moment_at words
  Ok (Some time.0, time.1)

-- `time TIME`, if it comes next
unfoldable pub time_at : List Text → Read (Option ℕ)
time_at [] = Ok (None, [])
time_at (word ∷ words) = if bytes_eq word (codes "time") then some_time_at words else Ok (None, word ∷ words)

-- a part of a buffer, behind `crop`
unfoldable pub some_part_at : List Text → Read (Option (ℕ × ℕ × ℕ × ℕ))
some_part_at words = do
  left ← number_at 0 511 words
  top ← number_at 0 511 left.1
  width ← number_at 1 512 top.1
  height ← number_at 1 512 width.1
  Ok (Some (left.0, top.0, width.0, height.0), height.1)

-- `crop FX FY FW FH`, if it comes next
unfoldable pub part_at : List Text → Read (Option (ℕ × ℕ × ℕ × ℕ))
part_at [] = Ok (None, [])
part_at (word ∷ words) = if bytes_eq word (codes "crop") then some_part_at words else Ok (None, word ∷ words)

-- a point, by its two words, from each of which on so many are left
unfoldable pub point_of : SceneValue → ℕ → ℕ → Text → Text → Result (ℕ × ℕ) WordFault
point_of scene left_timeline left_value timeline value = do
  number ← timeline_of scene left_timeline timeline
  v ← good left_value (in_range 0 18446744073709551615 (decimal_of value))
  Ok (number, v)

-- a line that ends behind the timeline of a point
unfoldable pub cut_point : SceneValue → Text → Result (List (ℕ × ℕ)) WordFault
cut_point scene timeline = timeline_of scene 1 timeline >>= λ number. wrong 0 MissingWord

-- the end of a line with `fence T V`, as often as it comes: the points so far, and those of the words that are left
unfoldable pub fences_at : SceneValue → List (ℕ × ℕ) → List Text → Result (List (ℕ × ℕ)) WordFault
fences_at scene points [] = Ok points
fences_at scene points (word ∷ []) = if bytes_eq word (codes "fence") then wrong 0 MissingWord else wrong 1 UnknownWord
fences_at scene points (word ∷ t ∷ []) = if bytes_eq word (codes "fence") then cut_point scene t else wrong 2 UnknownWord
fences_at scene points (word ∷ t ∷ v ∷ rest) =
    if bytes_eq word (codes "fence")
    then (point_of scene (length (t ∷ v ∷ rest)) (length (v ∷ rest)) t v >>= λ point. fences_at scene (points ++ point ∷ []) rest)
    else wrong (length (word ∷ t ∷ v ∷ rest)) UnknownWord

-- What a line names that the lines before it declare or bind.
use Rattle.std.specs.Prelude.{ℕ, nat_lt, if◌then◌else◌, List, length, Option, None, Some, Result, Ok}
use Rattle.sf_script_words.specs.Text.{Text}
use Rattle.sf_script_words.specs.Names.{name_at}
use Rattle.sf_script_words.specs.Numbers.{decimal_of}
use Rattle.sf_script_words.specs.Reading.{Read, ◌>>=◌, demand, good, in_range, number_at, some_or, word_at}
use Rattle.sf_script_words.specs.declared.fault.Cause.TheVariants.{Limit, Undefined}
use Rattle.sf_script_words.specs.declared.fault.WordFault.{WordFault}
use Rattle.sf_script_scene.specs.Scene.{SceneValue, has_picture, has_queue, has_timeline}
use Rattle.sf_script.specs.Draft.{place_of}
use Rattle.sf_script.specs.declared.line.BoundName.{BoundName}

-- a queue that is declared
unfoldable pub declared_queue_at : SceneValue → List Text → Read ℕ
declared_queue_at scene words = do
  number ← number_at 1 16 words
  _ ← demand (has_queue scene.queues number.0) (length words) Undefined
  Ok number

-- a picture that is declared
unfoldable pub declared_picture_at : SceneValue → List Text → Read ℕ
declared_picture_at scene words = do
  number ← number_at 1 256 words
  _ ← demand (has_picture scene.pictures number.0) (length words) Undefined
  Ok number

-- a timeline that is declared, by a word from which on so many are left
unfoldable pub timeline_of : SceneValue → ℕ → Text → Result ℕ WordFault
timeline_of scene left word = do
  number ← good left (in_range 1 64 (decimal_of word))
  _ ← demand (has_timeline scene.timelines number) left Undefined
  Ok number

-- a timeline that is declared
unfoldable pub declared_timeline_at : SceneValue → List Text → Read ℕ
declared_timeline_at scene words = do
  word ← word_at words
  number ← timeline_of scene (length words) word.0
  Ok (number, word.1)

-- a name that the actor bound in an earlier line
unfoldable pub used_name_at : List Text → List Text → Read ℕ
used_name_at names words = do
  name ← name_at words
  place ← some_or (length words) Undefined (place_of name.0 names)
  Ok (place, name.1)

-- a name that has this place, or else is the next one of at most 32
abbrev pub bound_as : List Text → Text → Option ℕ → Option BoundName
bound_as names name (Some place) = Some (record { place = place; new_name = None })
bound_as names name None = if nat_lt (length names) 32 then Some (record { place = length names; new_name = Some name }) else None

-- a name that is bound, which the actor may have used
unfoldable pub bound_name_at : List Text → List Text → Read BoundName
bound_name_at names words = do
  name ← name_at words
  bound ← some_or (length words) Limit (bound_as names name.0 (place_of name.0 names))
  Ok (bound, name.1)

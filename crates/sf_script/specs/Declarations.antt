-- The forms of declarations, behind their first words.
use Rattle.std.specs.Prelude.{ℕ, ◌==◌, ◌||◌, not, if◌then◌else◌, Bool, pos, List, [], ◌∷◌, length, Option, None, Some, Result, Ok, codes}
use Rattle.std.specs.Str.{bytes_eq}
use Rattle.sf_base.specs.declared.format.Format.{Format}
use Rattle.sf_base.specs.declared.format.Format.TheVariants as format
use Rattle.sf_script_scene.specs.sf_picture.declared.fill.Fill.{Fill}
use Rattle.sf_script_scene.specs.sf_picture.declared.picture.Picture.{Picture}
use Rattle.sf_script_words.specs.Text.{Text}
use Rattle.sf_script_words.specs.Colours.{colour_at}
use Rattle.sf_script_words.specs.Reading.{Read, ◌>>=◌, demand, end_at, fixed_at, good, number_at, word_at}
use Rattle.sf_script_words.specs.declared.fault.Cause.TheVariants.{Twice, WrongVersion}
use Rattle.sf_script_words.specs.declared.fault.WordFault.{WordFault}
use Rattle.sf_script_scene.specs.Limits.{most_actors}
use Rattle.sf_script_scene.specs.Scene.{SceneValue, has_actor, has_picture, has_queue, has_timeline}
use Rattle.sf_script_scene.specs.declared.declarations.QueueDecl.{QueueDecl}
use Rattle.sf_script.specs.declared.line.Header.{Header}

-- the version is 1 or 2
unfoldable pub version_at : List Text → Read ℕ
version_at words = do
  version ← number_at 1 4294967295 words
  _ ← demand (version.0 == 1 || version.0 == 2) (length words) WrongVersion
  Ok version

-- `scene VERSION W H PERIOD`
unfoldable pub header_at : List Text → Result Header WordFault
header_at words = do
  version ← version_at words
  width ← number_at 1 1024 version.1
  height ← number_at 1 1024 width.1
  period ← number_at 1000000 1000000000 height.1
  _ ← end_at period.1
  Ok (record { version = version.0; width = width.0; height = height.0; period = period.0 })

-- a number in a range that was not declared
abbrev pub new_number_at : (ℕ → Bool) → ℕ → ℕ → List Text → Read ℕ
new_number_at is_declared low high words = do
  number ← number_at low high words
  _ ← demand (not (is_declared number.0)) (length words) Twice
  Ok number

-- `timeline T`
unfoldable pub new_timeline_at : SceneValue → List Text → Result ℕ WordFault
new_timeline_at scene words = do
  number ← new_number_at (has_timeline scene.timelines) 1 64 words
  _ ← end_at number.1
  Ok number.0

-- `queue Q BW BH`
unfoldable pub new_queue_at : SceneValue → List Text → Result QueueDecl WordFault
new_queue_at scene words = do
  number ← new_number_at (has_queue scene.queues) 1 16 words
  width ← number_at 1 512 number.1
  height ← number_at 1 512 width.1
  _ ← end_at height.1
  Ok (record { number = number.0; width = width.0; height = height.0 })

-- the format of a picture
abbrev pub format_of : Text → Option Format
format_of word =
    if bytes_eq word (codes "rgba") then Some format.Rgba else
    if bytes_eq word (codes "rgbx") then Some format.Rgbx else
    if bytes_eq word (codes "rgb565") then Some format.Rgb565 else None

-- `format F`, or nothing
unfoldable pub format_at : List Text → Result Format WordFault
format_at [] = Ok format.Rgba
format_at (word ∷ words) = do
  rest ← fixed_at (codes "format") (word ∷ words)
  name ← word_at rest.1
  chosen ← good (length rest.1) (format_of name.0)
  _ ← end_at name.1
  Ok chosen

-- the end of a `picture` line, with a format in version 2 alone
abbrev pub versioned_format_at : ℕ → List Text → Result Format WordFault
versioned_format_at version words = if version == 2 then format_at words else end_at words >>= λ _. Ok format.Rgba

-- `picture P BW BH`, with `format F` behind it in version 2 or without
unfoldable pub new_picture_at : SceneValue → List Text → Result Picture WordFault
new_picture_at scene words = do
  number ← new_number_at (has_picture scene.pictures) 1 256 words
  width ← number_at 1 512 number.1
  height ← number_at 1 512 width.1
  chosen ← versioned_format_at scene.version height.1
  Ok (record { number = number.0; width = width.0; height = height.0; fills = []; format = chosen })

-- `fill FX FY FW FH COLOUR`
unfoldable pub fill_at : List Text → Result Fill WordFault
fill_at words = do
  x ← number_at 0 511 words
  y ← number_at 0 511 x.1
  width ← number_at 1 512 y.1
  height ← number_at 1 512 width.1
  colour ← colour_at height.1
  _ ← end_at colour.1
  Ok (record { rect = record { x = pos x.0; y = pos y.0; width = width.0; height = height.0 }; colour = colour.0 })

-- `actor A`
unfoldable pub new_actor_at : SceneValue → List Text → Result ℕ WordFault
new_actor_at scene words = do
  number ← new_number_at (has_actor scene.actors) 1 (most_actors scene.version) words
  _ ← end_at number.1
  Ok number.0

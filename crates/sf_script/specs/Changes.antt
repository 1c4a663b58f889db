-- What follows `set N LAYER`.
use Rattle.std.specs.Prelude.{ℕ, ℤ, if◌then◌else◌, Bool, List, length, Option, None, Some, Ok, codes}
use Rattle.std.specs.Str.{bytes_eq}
use Rattle.sf_script_words.specs.Text.{Text}
use Rattle.sf_script_words.specs.Colours.{colour_at}
use Rattle.sf_script_words.specs.Reading.{Read, ◌>>=◌, flag_at, number_at, signed_at, some_or, word_at, wrong}
use Rattle.sf_script_words.specs.declared.fault.Cause.TheVariants.{UnknownWord}
use Rattle.sf_script_scene.specs.declared.change.Change.{Change}
use Rattle.sf_script_scene.specs.declared.change.Change.TheVariants as change
use Rattle.sf_script.specs.Keywords.{change_form_of}
use Rattle.sf_script.specs.declared.line.ChangeForm.{ChangeForm}
use Rattle.sf_script.specs.declared.line.ChangeForm.TheVariants as form

-- `none`, or the number of a layer, 0 being the root
unfoldable pub parent_at : List Text → Read (Option ℕ)
parent_at words = do
  word ← word_at words
  if bytes_eq word.0 (codes "none") then Ok (None, word.1) else (number_at 0 4294967295 words >>= λ parent. Ok (Some parent.0, parent.1))

-- a change of a parent, which follows
abbrev pub with_parent_at : (Option ℕ → Change) → List Text → Read Change
with_parent_at changed words = do
  parent ← parent_at words
  Ok (changed parent.0, parent.1)

-- `container PARENT`, `colour PARENT` or `buffer PARENT`, behind `create`
unfoldable pub created_at : List Text → Read Change
created_at words = do
  kind ← word_at words
  if bytes_eq kind.0 (codes "container") then with_parent_at change.CreateContainer kind.1 else
      if bytes_eq kind.0 (codes "colour") then with_parent_at change.CreateColour kind.1 else
      if bytes_eq kind.0 (codes "buffer") then with_parent_at change.CreateBuffer kind.1 else wrong (length words) UnknownWord

-- a place in the order of drawing
abbrev pub depth_at : List Text → Read ℤ
depth_at words = signed_at 2147483648 2147483647 words

-- a coordinate of a layer, in pixels
abbrev pub place_at : List Text → Read ℤ
place_at words = signed_at 16384 16384 words

-- `z Z`
unfoldable pub raised_at : List Text → Read Change
raised_at words = do
  z ← depth_at words
  Ok (change.Z z.0, z.1)

-- `relative LAYER Z`
unfoldable pub related_at : List Text → Read Change
related_at words = do
  layer ← number_at 1 4294967295 words
  z ← depth_at layer.1
  Ok (change.Relative layer.0 z.0, z.1)

-- `position PX PY`
unfoldable pub moved_at : List Text → Read Change
moved_at words = do
  x ← place_at words
  y ← place_at x.1
  Ok (change.Position x.0 y.0, y.1)

-- `crop PX PY CW CH`, behind `crop`
unfoldable pub framed_at : List Text → Read Change
framed_at words = do
  x ← place_at words
  y ← place_at x.1
  width ← number_at 0 16384 y.1
  height ← number_at 0 16384 width.1
  Ok (change.Crop x.0 y.0 width.0 height.0, height.1)

-- `crop none` or `crop PX PY CW CH`
unfoldable pub cropped_at : List Text → Read Change
cropped_at words = do
  word ← word_at words
  if bytes_eq word.0 (codes "none") then Ok (change.CropNone, word.1) else framed_at words

-- a change of a number in a range, which follows
abbrev pub with_number_at : (ℕ → Change) → ℕ → List Text → Read Change
with_number_at changed most words = do
  number ← number_at 0 most words
  Ok (changed number.0, number.1)

-- a change of a flag, which follows
abbrev pub with_flag_at : (Bool → Change) → List Text → Read Change
with_flag_at changed words = do
  flag ← flag_at words
  Ok (changed flag.0, flag.1)

-- `colour COLOUR`
unfoldable pub coloured_at : List Text → Read Change
coloured_at words = do
  colour ← colour_at words
  Ok (change.Colour colour.0, colour.1)

-- what this form changes
unfoldable pub changed_at : ChangeForm → List Text → Read Change
changed_at form.Create words = created_at words
changed_at form.Destroy words = Ok (change.Destroy, words)
changed_at form.Reparent words = with_parent_at change.Reparent words
changed_at form.Z words = raised_at words
changed_at form.Relative words = related_at words
changed_at form.Position words = moved_at words
changed_at form.Crop words = cropped_at words
changed_at form.Alpha words = with_number_at change.Alpha 255 words
changed_at form.Hidden words = with_flag_at change.Hidden words
changed_at form.Opaque words = with_flag_at change.Opaque words
changed_at form.Colour words = coloured_at words
changed_at form.Backpressure words = with_flag_at change.Backpressure words
changed_at form.Orient words = with_number_at change.Orient 7 words

-- what a `set` line changes
unfoldable pub change_at : List Text → Read Change
change_at words = do
  word ← word_at words
  chosen ← some_or (length words) UnknownWord (change_form_of word.0)
  changed_at chosen word.1

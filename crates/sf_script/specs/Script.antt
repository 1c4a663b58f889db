-- A whole script: its lines in order, and the scene that they spell.
use Rattle.std.specs.Prelude.{ℕ, ◌+◌, ◌-◌, ◌==◌, Bool, true, if◌then◌else◌, List, [], ◌∷◌, length, slice_index, Result, Ok, Err}
use Rattle.std.specs.Str.{is_utf8}
use Rattle.sf_script_words.specs.Causes.{number_of}
use Rattle.sf_script_words.specs.Text.{Text, lines_of, trimmed, words_of}
use Rattle.sf_script_words.specs.Reading.{◌>>=◌, demand, end_at, some_or, word_at}
use Rattle.sf_script_words.specs.declared.fault.Cause.TheVariants.{Limit, NotUtf8, OutOfOrder, Unended, UnknownWord}
use Rattle.sf_script_words.specs.declared.fault.WordFault.{WordFault}
use Rattle.sf_script_scene.specs.Scene.{SceneValue}
use Rattle.sf_script.specs.Declarations.{fill_at, header_at, new_actor_at, new_picture_at, new_queue_at, new_timeline_at}
use Rattle.sf_script.specs.Draft.{DraftValue, draft_after, has_room, is_any, is_ended, may_follow, no_lines}
use Rattle.sf_script.specs.Keywords.{keyword_of}
use Rattle.sf_script.specs.Order.{order_at}
use Rattle.sf_script.specs.Second.{new_capture_at, new_display_at, new_hit_at, new_mirror_at, new_stack_at}
use Rattle.sf_script.specs.Steps.{step_at}
use Rattle.sf_script.specs.declared.fault.ScriptFault.{ScriptFault}
use Rattle.sf_script.specs.declared.line.Keyword.{Keyword}
use Rattle.sf_script.specs.declared.line.Keyword.TheVariants as key
use Rattle.sf_script.specs.declared.line.Line.{Line}
use Rattle.sf_script.specs.declared.line.Line.TheVariants as line

-- what was read as a line
abbrev pub lined : {A : Type 0} → (A → Line) → Result A WordFault → Result Line WordFault
lined make (Ok x) = Ok (make x)
lined make (Err fault) = Err fault

-- the line behind its first word
unfoldable pub form_at : DraftValue → Keyword → List Text → Result Line WordFault
form_at d key.Scene words = lined line.Scene (header_at words)
form_at d key.Timeline words = lined line.Timeline (new_timeline_at d.scene words)
form_at d key.Display words = lined line.Display (new_display_at d.scene words)
form_at d key.Stack words = lined (λ s. line.Stack s.0 s.1) (new_stack_at d.scene words)
form_at d key.Capture words = lined line.Capture (new_capture_at d.scene words)
form_at d key.Hit words = lined line.Hit (new_hit_at d.scene words)
form_at d key.Mirror words = lined (λ m. line.Mirror m.0 m.1) (new_mirror_at d.scene words)
form_at d key.Queue words = lined line.Queue (new_queue_at d.scene words)
form_at d key.Picture words = lined line.Picture (new_picture_at d.scene words)
form_at d key.Fill words = lined line.Fill (fill_at words)
form_at d key.Actor words = lined line.Actor (new_actor_at d.scene words)
form_at d (key.Step form) words = lined line.Step (step_at d form words)
form_at d key.Order words = lined line.Order (order_at d.scene words)
form_at d key.End words = lined (λ u. line.End) (end_at words)

-- the words of a line that is not skipped, after what the lines before it spell
unfoldable pub words_at : DraftValue → List Text → Result Line WordFault
words_at d words = do
  word ← word_at words
  keyword ← some_or (length words) UnknownWord (keyword_of (d.scene.version == 2) (is_any d.scene.actors) word.0)
  _ ← demand (may_follow d keyword) (length words) OutOfOrder
  _ ← demand (has_room d.scene keyword) (length words) Limit
  form_at d keyword word.1

-- a line that is not skipped, which has to be UTF-8; word 0 is at fault where it is not
unfoldable pub line_at : DraftValue → Text → Result Line WordFault
line_at d text = do
  _ ← demand (is_utf8 text) (length (words_of text) + 1) NotUtf8
  words_at d (words_of text)

-- a line without words, or whose first word begins with `#`
unfoldable pub is_skipped : List Text → Bool
is_skipped [] = true
is_skipped (word ∷ words) = slice_index word 0 == 35

-- a fault in the line with this number, and in the word by how many are left from it on
abbrev pub placed : ℕ → Text → WordFault → ScriptFault
placed number text fault = record { line = number; word = length (words_of text) + 1 - fault.left; cause = number_of fault.cause }

-- what is spelled after the line with this number, or its fault
abbrev pub after_line : ℕ → DraftValue → Text → Result Line WordFault → Result DraftValue ScriptFault
after_line number d text (Ok l) = Ok (draft_after d l)
after_line number d text (Err fault) = Err (placed number text fault)

-- what is spelled after the line with this number, which may be one that is skipped
unfoldable pub draft_at : ℕ → DraftValue → Text → Result DraftValue ScriptFault
draft_at number d text = if is_skipped (words_of text) then Ok d else after_line number d text (line_at d text)

-- the scene of all lines, of which the next would have this number
unfoldable pub scene_at : ℕ → DraftValue → Result SceneValue ScriptFault
scene_at number d = if is_ended d.rank then Ok d.scene else Err (record { line = number; word = 0; cause = number_of Unended })

-- the scene of a script, of which the lines from this number on are left, or its first fault
unfoldable pub lines_at : ℕ → DraftValue → List Text → Result SceneValue ScriptFault
lines_at number d [] = scene_at number d
lines_at number d (text ∷ texts) = draft_at number d (trimmed text) >>> λ next. lines_at (number + 1) next texts
  where
    infixl 10 ◌>>>◌
    ◌>>>◌ : Result DraftValue ScriptFault → (DraftValue → Result SceneValue ScriptFault) → Result SceneValue ScriptFault
    (Ok next) >>> read = read next
    (Err fault) >>> read = Err fault

-- the scene that a script spells, or its first fault
unfoldable pub script_of : Text → Result SceneValue ScriptFault
script_of bytes = lines_at 1 no_lines (lines_of bytes)

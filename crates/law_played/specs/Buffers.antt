-- The buffers of commits show what was queued: this is said over the records of commits and histories and the script alone.
use Rattle.std.specs.Prelude.{◌≡◌, ℕ, ◌-◌, ◌==◌, Bool, ◌&&◌, List, find, Option, Some, None, slice_get}
use Rattle.std.specs.Prelude.{filter}
use Rattle.std.specs.List.{All, flat_map}
use Rattle.sf_script_scene.specs.sf_picture.declared.picture.Picture.{Picture}
use Rattle.sf_script_scene.specs.Scene.{SceneValue}
use Rattle.sf_script_scene.specs.declared.step.ActorScript.{ActorScript}
use Rattle.sf_script_scene.specs.declared.step.Step.{Step}
use Rattle.sf_script_scene.specs.declared.step.Step.TheVariants as step
use Rattle.sf_actor.specs.Scripts.{picture_at}
use Rattle.sf_record.specs.declared.record.CommitRecord.{CommitRecord}
use Rattle.sf_record.specs.declared.record.CommittedBuffer.{CommittedBuffer}
use Rattle.sf_record.specs.declared.record.HistoryEntry.{HistoryEntry}
use Rattle.sf_record.specs.declared.record.QueueHistory.{QueueHistory}

-- the entries of a queue's record
abbrev pub entries_on : ℕ → List QueueHistory → List HistoryEntry
entries_on queue histories = flat_map (λ (history : QueueHistory). history.entries) (filter (λ history. history.queue == queue) histories)

-- the call that queued this frame
abbrev pub is_queueing : ℕ → HistoryEntry → Bool
is_queueing frame entry = (entry.kind == 7) && ((entry.status == 0) && (entry.frame == frame))

-- the call that queued a frame of a queue, as its history shows it
abbrev pub queueing_of : List QueueHistory → ℕ → ℕ → Option HistoryEntry
queueing_of histories queue frame = find (is_queueing frame) (entries_on queue histories)

-- the step of a script that made a call
abbrev pub step_in : Option ActorScript → ℕ → Option Step
step_in None place = None
step_in (Some script) place = slice_get script.steps (place - 1)

-- the step of the script that made a call of a history
abbrev pub step_of_entry : SceneValue → Option HistoryEntry → Option Step
step_of_entry scene None = None
step_of_entry scene (Some entry) = step_in (find (λ (script : ActorScript). script.number == entry.caller) scene.actors) entry.step

-- the crop that a step names, or the whole picture
abbrev pub crop_in : Picture → Option (ℕ × ℕ × ℕ × ℕ) → ℕ × ℕ × ℕ × ℕ
crop_in picture None = (0, 0, picture.width, picture.height)
crop_in picture (Some crop) = crop

-- the crop that a committed buffer shows
abbrev pub crop_shown : CommittedBuffer → ℕ × ℕ × ℕ × ℕ
crop_shown buffer = (buffer.x, buffer.y, buffer.width, buffer.height)

-- a buffer has the picture and the crop of a step
abbrev pub HasOfStep : (ℕ → Picture) → CommittedBuffer → Option Step → Type 0
HasOfStep pictures buffer (Some (step.Queue s p time crop points)) = (buffer.picture ≡ p) × (crop_shown buffer ≡ crop_in (pictures p) crop)
HasOfStep pictures buffer other = ⊥

-- a committed buffer has the picture and the crop of the step that queued its frame
abbrev pub IsAsQueued : SceneValue → List QueueHistory → CommittedBuffer → Type 0
IsAsQueued scene histories buffer = HasOfStep (picture_at scene.pictures) buffer (step_of_entry scene (queueing_of histories buffer.queue buffer.frame))

-- Buffers. Each buffer of a commit has the picture and the crop of the step that queued its frame.
abbrev pub ShowAsQueued : SceneValue → List QueueHistory → List CommitRecord → Type 0
ShowAsQueued scene histories commits = All (λ commit. All (IsAsQueued scene histories) commit.buffers) commits

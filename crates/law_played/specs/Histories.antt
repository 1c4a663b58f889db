-- The histories of a run's queues: who called, and each call answered as the calls before it say.
use Rattle.std.specs.Prelude.{◌≡◌, ℕ, ◌==◌, true, ◌||◌, List, filter, map, reverse}
use Rattle.std.specs.List.{All, AllZip, flat_map}
use Rattle.sf_actor.specs.sf_slots.Shown.{frame_shown, kind_number, slot_shown, status_shown}
use Rattle.sf_actor.specs.sf_slots.Tells.{AreReplies}
use Rattle.sf_actor.specs.sf_slots.declared.calls.Entry.{Entry}
use Rattle.sf_actor.specs.sf_slots.declared.calls.PlainCall.{PlainCall}
use Rattle.sf_actor.specs.sf_slots.declared.calls.PlainCall.TheVariants as call
use Rattle.sf_commit.specs.OnLayers.{OnLayer}
use Rattle.sf_script_scene.specs.Scene.{SceneValue, has_actor}
use Rattle.sf_script_scene.specs.declared.declarations.QueueDecl.{QueueDecl}
use Rattle.sf_actor.specs.Makers.{Run}
use Rattle.sf_actor.specs.Names.{FrameOf}
use Rattle.sf_record.specs.declared.record.HistoryEntry.{HistoryEntry}
use Rattle.sf_record.specs.declared.record.QueueHistory.{QueueHistory}
use Rattle.law_played.specs.Runs.{calls_of, rising}
use Rattle.law_played.specs.Stages.{VsyncAt}

-- what the record of a history shows of a call
unfoldable pub entry_shown : Entry → HistoryEntry
entry_shown entry = record {
  caller = entry.caller.0;
  step = entry.step;
  kind = kind_number entry.call;
  status = status_shown entry.reply;
  slot = slot_shown entry.call entry.reply;
  frame = frame_shown entry.call entry.reply;
}

-- the record of a queue's history: its calls in order; of the calls on a queue the newest is the first
abbrev pub history_shown : Run → QueueDecl → QueueHistory
history_shown run queue = record { queue = queue.number; entries = map entry_shown (reverse (run.calls queue.number)) }

-- the number of a declared queue
abbrev pub queue_number : QueueDecl → ℕ
queue_number queue = queue.number

-- the declared queues by rising number
unfoldable pub rising_queues : SceneValue → List QueueDecl
rising_queues scene = rising queue_number 16 scene.queues

-- a frame that a vsync releases: an unread one with its own fence, and one that was shown at the end of an earlier vsync
-- with no points
pub record Released : Type 0 where
  pub vsync : ℕ
  pub on : OnLayer FrameOf

-- what a vsync gives back
abbrev pub released_at : VsyncAt → List Released
released_at told = map (λ on. record { vsync = told.vsync.number; on = on }) told.round.stage.gone

-- the frames that vsyncs release: vsync by vsync, commit by commit, in the order of operations
unfoldable pub released_in : List VsyncAt → List Released
released_in told = flat_map released_at told

-- what is given back to one queue
abbrev pub released_on : ℕ → List Released → List Released
released_on queue released = filter (λ one. one.on.lease.0.0 == queue) released

-- the call that gives a frame back
abbrev pub release_by : Released → PlainCall
release_by released = call.Release released.on.lease.1 released.on.fence

-- an entry is a release by a vsync
pub record IsReleased (released : Released) (entry : Entry) : Type 0 where
  pub step : entry.step ≡ released.vsync
  pub call : entry.call ≡ release_by released

-- the caller is an actor of the scene, or the compositor
abbrev pub IsCaller : SceneValue → Entry → Type 0
IsCaller scene entry = ((entry.caller.0 == 0) || has_actor scene.actors entry.caller.0) ≡ true

-- A queue's calls: each reply is what the calls before it say; those of the compositor are the releases of the vsyncs, and
-- nobody calls who is not of the scene. Those of an actor are said with its trace.
pub record IsHistory (scene : SceneValue) (run : Run) (released : List Released) (queue : QueueDecl) : Type 0 where
  pub legal : AreReplies queue.width queue.height (run.calls queue.number)
  pub by_compositor : AllZip IsReleased (released_on queue.number released) (calls_of 0 (run.calls queue.number))
  pub by_none_else : All (IsCaller scene) (run.calls queue.number)

-- Histories. There is one of each declared queue, by rising number, and it shows the queue's calls.
pub record AreHistories (scene : SceneValue) (run : Run) (released : List Released) (histories : List QueueHistory) : Type 0 where
  pub shown : histories ≡ map (history_shown run) (rising_queues scene)
  pub of_each : All (IsHistory scene run released) scene.queues

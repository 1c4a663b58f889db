-- What a live run begins with, and what is written of the whole of it.
use Rattle.std.specs.Prelude.{All, ◌≡◌, ℕ, ◌≤◌, Bool, true, List, [], ◌∷◌, ◌++◌, map, Option, Result}
use Rattle.std.specs.List.{flat_map}
use Rattle.atomic_table.specs.Seated.{TableId}
use Rattle.law_live_order.specs.law_rounds.law_order.Order.{InOneOrder}
use Rattle.law_live_order.specs.law_rounds.law_waits.Leaving.{LeavesNone}
use Rattle.sf_script_scene.specs.Scene.{SceneValue}
use Rattle.sf_live_compositor.specs.sf_actor.Makers.{Run}
use Rattle.sf_live_compositor.specs.sf_actor.Names.{FrameOf}
use Rattle.sf_live_compositor.specs.sf_record.Events.{events_records}
use Rattle.sf_live_compositor.specs.sf_record.declared.encode.RunFault.{RunFault}
use Rattle.sf_live_compositor.specs.sf_record.declared.event.Event.TheVariants as event
use Rattle.sf_live_compositor.specs.sf_record.declared.event.VsyncRecords.{VsyncRecords}
use Rattle.sf_live_compositor.specs.sf_record.declared.record.Record.{Record}
use Rattle.sf_live_compositor.specs.sf_token.Pending.{Arrival}
use Rattle.sf_live_compositor.specs.law_play_order.Happening.{happened_in}
use Rattle.sf_live_compositor.specs.law_played.Commits.{SaysResults}
use Rattle.sf_live_compositor.specs.law_played.Frames.{shown_after}
use Rattle.sf_live_compositor.specs.law_played.Played.{FitsWhere, PlayedLiveWhere, Shows, opening, records_of, reply_events, vsyncs_told}
use Rattle.sf_live_compositor.specs.law_played.Progress.{AreInOrder}
use Rattle.sf_live_compositor.specs.law_played.Runs.{rising_actors}
use Rattle.sf_live_compositor.specs.law_played.Stages.{VsyncAt, told_of}
use Rattle.sf_live_compositor.specs.law_played.Vsyncs.{AreVsyncs, commits_in, vsyncs_in}
use Rattle.sf_live_compositor.specs.sf_play_write.Vsyncs.{AreSameOutputs}
use Rattle.sf_live_compositor.specs.sf_play_write.Writing.{Writes, WritesPart, WritingEnded}
use Rattle.sf_turns.specs.Counts.{range}
use Rattle.sf_turns.specs.Views.{SeatView, StockView}
use Rattle.sf_live_compositor.specs.sf_actor_set.Scripts.{permits_of}

-- A scene may be run live: the run takes the seat and the whole stock of a table of turns, with a permit for
-- each dequeue. The seat is the first one, gave none and left no turn.
pub record MayLive (table : TableId) (scene : SceneValue) (seat : SeatView) (stock : StockView) : Type 0 where
  pub own : (seat.table ≡ table) × (stock.table ≡ table)
  pub first : (seat.is_first ≡ true) × (seat.out ≡ 0)
  pub fresh : seat.leaves ≡ []
  pub whole : stock.buffers ≡ range 0 (permits_of scene.actors)
  pub sized : permits_of scene.actors ≤ table.slots

-- The records of a run in threads, in which a sender learns its place or not. They mean what such a run means; its calls, its arrivals
-- and its vsyncs are in one order; and no vsync passes over an arrival.
pub record MeansLive (tells : Bool) (scene : SceneValue) (records : List Record) : Type 0 where
  pub live : PlayedLiveWhere tells scene records
  pub order : InOneOrder tells (happened_in live.played.shows)
  pub none : LeavesNone live.played.arrivals (vsyncs_told scene live.played.arrivals live.played.shows.events)

-- such records were written
pub record WroteLive (tells : Bool) (scene : SceneValue) (old new : Option (List ℕ)) : Type 0 where
  pub records : List Record
  pub means : MeansLive tells scene records
  pub written : Writes old new records

-- a vsync shows the outputs due of the tree after its commits, whichever pixels their images have
abbrev pub ShowsOutputs : SceneValue → VsyncAt → Type 0
ShowsOutputs scene told = AreSameOutputs (shown_after scene told.vsync.commits told.round.stage.tree) told.vsync.shown

-- The vsyncs of a run in threads that came to no end. For some signals they are vsyncs of the scene. For some arrivals, whose numbers rise, the
-- commits of each token are its first ones in order; each has the result that the tree before it gives, and a vsync shows the outputs due of the
-- tree after its commits.
pub record BeginsLive (scene : SceneValue) (vsyncs : List VsyncRecords) : Type 0 where
  pub signals : List (ℕ × ℕ)
  pub are : AreVsyncs scene signals vsyncs
  pub arrivals : List (Arrival FrameOf)
  pub last : ℕ
  pub order : AreInOrder arrivals last (commits_in vsyncs)
  pub results : All SaysResults (told_of scene arrivals vsyncs)
  pub outputs : All (ShowsOutputs scene) (told_of scene arrivals vsyncs)

-- What is shown is that of a whole run in threads, whether or not each number fits its field.
pub record FitsLive (tells : Bool) (scene : SceneValue) (shows : Shows) : Type 0 where
  pub run : Run
  pub arrivals : List (Arrival FrameOf)
  pub fits : FitsWhere tells scene shows run arrivals
  pub late : shows.events ≡ map event.Vsync (vsyncs_in shows.events) ++ flat_map (reply_events run) (rising_actors scene)
  pub order : InOneOrder tells (happened_in shows)
  pub none : LeavesNone arrivals (vsyncs_told scene arrivals shows.events)

-- What a run in threads wrote that ends with a fault: a prefix of the scene's record and of vsyncs, or, once these are written, of all the
-- records of the run. So at most the last record is cut.
pub data CutLive (tells : Bool) (scene : SceneValue) (old new : Option (List ℕ)) : Type 0 where
  in_vsyncs : (vsyncs : List VsyncRecords) → BeginsLive scene vsyncs → WritesPart old new (opening scene ∷ events_records (map event.Vsync vsyncs))
      → CutLive tells scene old new
  in_rest : (shows : Shows) → FitsLive tells scene shows → WritesPart old new (records_of scene shows) → CutLive tells scene old new

-- how a live run ended that wrote behind this output; the counts are those of the sink's faults
abbrev pub LiveEnded : {A : Type 0} → Bool → SceneValue → Result A RunFault → Option (List ℕ) → Option (List ℕ) → ℕ → ℕ → Type 0
LiveEnded tells scene result start now before after = WritingEnded result before after (λ _. WroteLive tells scene start now) (CutLive tells scene start now)

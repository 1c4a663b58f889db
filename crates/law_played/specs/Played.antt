-- What a played run means: a relation between a scene and the records of a run. It speaks of these alone, and of
-- no state of a program, so that it can be said of any way to play a scene. What the records do not show - the traces with
-- their whole answers, the calls on queues with their whole replies, the transactions with their operations - is some that fits.
use Rattle.std.specs.Prelude.{◌≡◌, Bool, true, List, ◌∷◌, ◌++◌, All, map}
use Rattle.std.specs.List.{flat_map}
use Rattle.sf_commit.specs.sf_token.Pending.{Arrival}
use Rattle.sf_script_scene.specs.Scene.{SceneValue}
use Rattle.sf_script_scene.specs.declared.step.ActorScript.{ActorScript}
use Rattle.sf_actor.specs.Makers.{Run}
use Rattle.sf_actor.specs.Names.{FrameOf}
use Rattle.sf_record.specs.Events.{closing, events_records}
use Rattle.sf_record.specs.Fitting.{RecordFits}
use Rattle.sf_record.specs.declared.event.Event.{Event}
use Rattle.sf_record.specs.declared.event.Event.TheVariants as event
use Rattle.sf_record.specs.declared.record.ArrivalEntry.{ArrivalEntry}
use Rattle.sf_record.specs.declared.record.HeldEntry.{HeldEntry}
use Rattle.sf_record.specs.declared.record.QueueHistory.{QueueHistory}
use Rattle.sf_record.specs.declared.record.Record.{Record}
use Rattle.sf_record.specs.declared.record.Record.TheVariants as rec
use Rattle.sf_record.specs.declared.record.StuckEntry.{StuckEntry}
use Rattle.law_played.specs.Arrivals.{ArriveInOrder}
use Rattle.law_played.specs.Buffers.{ShowAsQueued}
use Rattle.law_played.specs.Commits.{CommitInOrder}
use Rattle.law_played.specs.Frames.{ShowImages}
use Rattle.law_played.specs.Histories.{AreHistories, released_in}
use Rattle.law_played.specs.Holds.{AreHeld, EndOf, uncommitted}
use Rattle.law_played.specs.Replies.{AnswerSteps, replies_due}
use Rattle.law_played.specs.Runs.{AreTraced, final_values, rising_actors, signals_in, written_in}
use Rattle.law_played.specs.Stages.{VsyncAt, bare_round, round_at_end, told_of}
use Rattle.law_played.specs.Stuck.{AreStuck}
use Rattle.law_played.specs.Turns.{DrawAfterOwed}
use Rattle.law_played.specs.Vsyncs.{AreVsyncs, commits_in, vsyncs_in}

-- what the records of a run show, part by part
pub record Shows : Type 0 where
  pub events : List Event
  pub arrived : List ArrivalEntry
  pub histories : List QueueHistory
  pub held : List HeldEntry
  pub stuck : List StuckEntry

-- the record that a run begins with
abbrev pub opening : SceneValue → Record
opening scene = rec.Scen (record { version = scene.version; width = scene.width; height = scene.height; period = scene.period })

-- the records of a run: the scene's, those of replies and vsyncs as they come, and last those that end it
abbrev pub records_of : SceneValue → Shows → List Record
records_of scene shows = (opening scene ∷ events_records shows.events) ++ closing shows.arrived shows.histories shows.held shows.stuck

-- the vsyncs, each with what was committed before
abbrev pub vsyncs_told : SceneValue → List (Arrival FrameOf) → List Event → List VsyncAt
vsyncs_told scene arrivals events = told_of scene arrivals (vsyncs_in events)

-- what is known at the end: what was written, what was committed, and the final values
abbrev pub end_of : SceneValue → Run → List VsyncAt → EndOf
end_of scene run told = record { written = written_in scene run; frames = (round_at_end (bare_round scene) told).frames; values = final_values scene run }

-- What is shown fits a run with these arrivals: the parts, one sentence each. Who sends a transaction learns its place among
-- the arrivals, or not.
pub record FitsWhere (tells : Bool) (scene : SceneValue) (shows : Shows) (run : Run) (arrivals : List (Arrival FrameOf)) : Type 0 where
  pub traces : AreTraced tells scene run arrivals
  pub turns : DrawAfterOwed scene run
  pub replies : AnswerSteps scene run shows.events
  pub arrive : ArriveInOrder scene arrivals shows.arrived
  pub vsyncs : AreVsyncs scene (signals_in scene run) (vsyncs_in shows.events)
  pub commits : CommitInOrder arrivals (written_in scene run) (commits_in (vsyncs_in shows.events)) (vsyncs_told scene arrivals shows.events)
  pub calls : AreHistories scene run (released_in (vsyncs_told scene arrivals shows.events)) shows.histories
  pub frames : ShowImages scene (vsyncs_told scene arrivals shows.events)
  pub buffers : ShowAsQueued scene shows.histories (commits_in (vsyncs_in shows.events))
  pub holds : AreHeld (end_of scene run (vsyncs_told scene arrivals shows.events)) (uncommitted arrivals (commits_in (vsyncs_in shows.events))) shows.held
  pub ends : AreStuck scene run shows.stuck

-- so it does where each learns its place
abbrev pub Fits : SceneValue → Shows → Run → List (Arrival FrameOf) → Type 0
Fits = FitsWhere true

-- The records of a run in their order, and what they mean. Each number fits its field, so that the bytes determine the records.
pub record PlayedWhere (tells : Bool) (scene : SceneValue) (records : List Record) : Type 0 where
  pub shows : Shows
  pub order : records ≡ records_of scene shows
  pub fit : All RecordFits records
  pub run : Run
  pub arrivals : List (Arrival FrameOf)
  pub fits : FitsWhere tells scene shows run arrivals

-- what a run's records mean, where each sender learns its place
abbrev pub Played : SceneValue → List Record → Type 0
Played = PlayedWhere true

-- the replies to an actor's steps, as events
abbrev pub reply_events : Run → ActorScript → List Event
reply_events run script = map event.Reply (replies_due run script.number)

-- The same where threads ran: the replies stand behind the last vsync, by actor and step.
pub record PlayedLiveWhere (tells : Bool) (scene : SceneValue) (records : List Record) : Type 0 where
  pub played : PlayedWhere tells scene records
  pub late : played.shows.events ≡ map event.Vsync (vsyncs_in played.shows.events) ++ flat_map (reply_events played.run) (rising_actors scene)

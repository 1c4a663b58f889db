-- The end of a play, and the records of a whole play. They are determined by what was shown and by the state at its end.
use Rattle.std.specs.Prelude.{◌≡◌, ℕ, ◌*◌, List, ◌∷◌, map}
use Rattle.sf_commit.specs.sf_ready.declared.hold.Hold.{Hold}
use Rattle.sf_commit.specs.Rounds.{held}
use Rattle.sf_script_scene.specs.Scene.{SceneValue}
use Rattle.sf_record.specs.Events.{events_records}
use Rattle.sf_record.specs.declared.event.Event.{Event}
use Rattle.sf_record.specs.declared.record.Record.{Record}
use Rattle.law_played.specs.Arrivals.{entry_of}
use Rattle.law_played.specs.Commits.{IsPrefix, is_written}
use Rattle.law_played.specs.Histories.{history_shown, rising_queues}
use Rattle.law_played.specs.Played.{Shows, opening, records_of}
use Rattle.law_played.specs.Plays.{Comes, IsOver, IsPlay, Playing}
use Rattle.law_played.specs.Progress.{held_shown}
use Rattle.law_played.specs.Runs.{final_values, written_in}
use Rattle.law_played.specs.Stuck.{stuck_of}
use Rattle.law_played.specs.RunStates.{RunState, round_now}

-- what the last vsync held
abbrev pub held_in : SceneValue → RunState → List (ℕ × Hold)
held_in scene state = held (is_written (written_in scene state.run)) (final_values scene state.run) (state.vsyncs * scene.period) (round_now scene state)

-- what the records of a run show, whose play showed these events and came to this state
abbrev pub shows_of : SceneValue → List Event → RunState → Shows
shows_of scene events state = record {
  events = events;
  arrived = map entry_of state.arrivals;
  histories = map (history_shown state.run) (rising_queues scene);
  held = map held_shown (held_in scene state);
  stuck = stuck_of scene state.run;
}

-- these are the records of the play of a scene
pub record ArePlayRecords (scene : SceneValue) (records : List Record) : Type 0 where
  pub events : List Event
  pub state : RunState
  pub is_play : IsPlay scene events state
  pub are : records ≡ records_of scene (shows_of scene events state)

-- the records of what a play showed so far
abbrev pub records_so_far : SceneValue → List Event → List Record
records_so_far scene events = opening scene ∷ events_records events

-- a play comes to its end
pub record Ends (scene : SceneValue) (playing : Playing) : Type 0 where
  pub end : Playing
  pub comes : Comes scene playing end
  pub over : IsOver scene end

-- records begin with those of what a play showed so far
abbrev pub BeginWith : SceneValue → Playing → List Record → Type 0
BeginWith scene playing records = IsPrefix (records_so_far scene playing.events) records

-- a scene has records that begin with those of what a play showed so far
pub record HasRecords (scene : SceneValue) (playing : Playing) : Type 0 where
  pub records : List Record
  pub are : ArePlayRecords scene records
  pub begin_so : BeginWith scene playing records

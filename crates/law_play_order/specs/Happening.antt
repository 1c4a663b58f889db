-- What a run means beside its parts: all that happened is in one order, and nobody is passed over.
use Rattle.std.specs.Prelude.{Bool, List, All, map}
use Rattle.law_order.specs.Order.{Happened, InOneOrder}
use Rattle.law_played.specs.sf_record.Fitting.{RecordFits}
use Rattle.law_played.specs.sf_record.declared.event.Event.{Event}
use Rattle.law_played.specs.sf_record.declared.record.Record.{Record}
use Rattle.law_played.specs.sf_script_scene.Limits.{IsWithinLimits}
use Rattle.law_played.specs.sf_script_scene.Scene.{SceneValue}
use Rattle.law_played.specs.Arrivals.{entry_of}
use Rattle.law_played.specs.Histories.{history_shown, rising_queues}
use Rattle.law_played.specs.Played.{Fits, PlayedWhere, Shows, records_of, vsyncs_told}
use Rattle.law_played.specs.Plays.{IsPlay}
use Rattle.law_played.specs.RunStates.{RunState}
use Rattle.law_played.specs.Vsyncs.{vsyncs_in}
use Rattle.law_waits.specs.Leaving.{LeavesNone}

-- the calls, the arrivals and the vsyncs that records show
abbrev pub happened_in : Shows → Happened
happened_in shows = record { histories = shows.histories; arrived = shows.arrived; vsyncs = vsyncs_in shows.events }

-- The records of a run in order. They mean what a played run means; its calls, arrivals and vsyncs are in one order; and no vsync
-- passes over an arrival.
pub record HappenedInOrder (tells : Bool) (scene : SceneValue) (records : List Record) : Type 0 where
  pub played : PlayedWhere tells scene records
  pub order : InOneOrder tells (happened_in played.shows)
  pub none : LeavesNone played.arrivals (vsyncs_told scene played.arrivals played.shows.events)

-- A play of a scene, from its begin to its end.
pub record WholePlay : Type 0 where
  pub scene : SceneValue
  pub events : List Event
  pub state : RunState
  pub is : IsPlay scene events state

-- what its records show
abbrev pub happened_by : WholePlay → Happened
happened_by play =
    record { histories = map (history_shown play.state.run) (rising_queues play.scene); arrived = map entry_of play.state.arrivals; vsyncs = vsyncs_in play.events }

-- What shows a play and fits its run.
pub record ShownPlay : Type 0 where
  pub scene : SceneValue
  pub shows : Shows
  pub state : RunState
  -- the scene is within its limits
  pub limits : IsWithinLimits scene
  pub is : IsPlay scene shows.events state
  -- each number fits its field
  pub fit : All RecordFits (records_of scene shows)
  pub fits : Fits scene shows state.run state.arrivals

-- What is shown of a run, in another order.
use Rattle.std.specs.Prelude.{◌≡◌, ℕ, Bool, List}
use Rattle.sf_commit.specs.sf_token.Pending.{Arrival}
use Rattle.sf_script_scene.specs.Scene.{SceneValue}
use Rattle.sf_actor.specs.Makers.{Run}
use Rattle.sf_actor.specs.Names.{FrameOf}
use Rattle.sf_record.specs.declared.event.Event.{Event}
use Rattle.law_played.specs.Played.{FitsWhere, Shows}
use Rattle.law_played.specs.Replies.{replies_to}
use Rattle.law_played.specs.Vsyncs.{vsyncs_in}

-- What is shown, with a run and its arrivals; where `tells` holds, who sends a transaction learns its place among these.
pub record ShownRun : Type 0 where
  pub tells : Bool
  pub scene : SceneValue
  pub shows : Shows
  pub run : Run
  pub arrivals : List (Arrival FrameOf)

-- what is shown fits the run
abbrev pub IsFit : ShownRun → Type 0
IsFit shown = FitsWhere shown.tells shown.scene shown.shows shown.run shown.arrivals

-- the same with other events
abbrev pub with_events : ShownRun → List Event → ShownRun
with_events shown events =
    let shows = shown.shows in
    record shown { shows = record shows { events = events } }

-- events have the same vsyncs, and to each actor the same replies
pub record AreAlike (events others : List Event) : Type 0 where
  pub vsyncs : vsyncs_in events ≡ vsyncs_in others
  pub replies : (actor : ℕ) → replies_to actor events ≡ replies_to actor others

-- What a play shows at its end, and what it keeps of who rests.
use Rattle.std.specs.Prelude.{◌≡◌, ◌++◌, Bool, true, false, List, All, Contains, length, map, take}
use Rattle.std.specs.List.{flat_map}
use Rattle.sf_play_report.specs.sf_surface.Tokens.{ReadLeaseOf}
use Rattle.sf_play_report.specs.sf_turns.Views.{SeatView}
use Rattle.sf_play_report.specs.sf_txn.declared.lease.Lease.{Ghosts}
use Rattle.sf_base.specs.declared.fences.Seen.{Seen}
use Rattle.atomic_table.specs.Seated.{TableId}
use Rattle.sf_play_report.specs.sf_commit.Releases.{CommittedOf}
use Rattle.sf_script_scene.specs.Scene.{SceneValue}
use Rattle.sf_play_report.specs.sf_actor.Known.{frame_of}
use Rattle.sf_play_report.specs.sf_actor.Makers.{Run}
use Rattle.sf_play_report.specs.sf_actor.Tries.{ActorOf}
use Rattle.sf_play_report.specs.sf_record.declared.event.Event.{Event}
use Rattle.sf_play_report.specs.sf_record.declared.event.Event.TheVariants as event
use Rattle.sf_play_report.specs.law_played.Arrivals.{entry_of}
use Rattle.sf_play_report.specs.law_played.Histories.{history_shown, rising_queues}
use Rattle.sf_play_report.specs.law_played.Holds.{AreHeld, uncommitted}
use Rattle.sf_play_report.specs.law_played.Played.{Shows, end_of, reply_events}
use Rattle.sf_play_report.specs.law_played.Progress.{ShowsWhatIsWritten, held_shown}
use Rattle.sf_play_report.specs.law_played.Runs.{rising_actors}
use Rattle.sf_play_report.specs.law_played.Stopping.{TellsOlder, stuck_among}
use Rattle.sf_play_report.specs.law_played.Stuck.{IsNotReady, next_step}
use Rattle.sf_play_report.specs.law_played.Vsyncs.{commits_in, vsyncs_in}
use Rattle.sf_play.specs.Players.{PlayOf, PlayerOf, SoFar, arrived_at, home_in, run_so, taken_at, told_at, view_in, written_so}
use Rattle.sf_play_report.specs.Reports.{has_commits}
use Rattle.sf_play.specs.Vsyncing.{MakesVsync}
use Rattle.sf_play.specs.declared.place.Place.{Place}
use Rattle.sf_play.specs.declared.place.Place.TheVariants as at
use Rattle.sf_play.specs.declared.action.Action.{Action}
use Rattle.sf_play.specs.declared.action.Action.TheVariants as action

-- an action did a step, or committed something
abbrev pub has_shown : Action → Bool
has_shown (action.Step place) = true
has_shown (action.Vsync report) = has_commits report.commits
has_shown other = false

-- the same events where threads ran: the vsyncs, and behind them the replies to the steps of each actor
abbrev pub late_events : SceneValue → Run → List Event → List Event
late_events scene run events = map event.Vsync (vsyncs_in events) ++ flat_map (reply_events run) (rising_actors scene)

module _ {B : Type 0} where
  -- the events so far; and at the end what arrived, the histories of the queues, what the last vsync held, and who is stuck
  abbrev pub shows_at_end : SceneValue → SoFar B → PlayerOf B → Shows
  shows_at_end scene so player = record {
    events = so.events;
    arrived = map entry_of (arrived_at player.play);
    histories = map (history_shown (run_so so player.play)) (rising_queues scene);
    held = map held_shown player.held;
    stuck = stuck_among so.actors;
  }

  -- the same, with the replies behind the last vsync
  abbrev pub shows_late : SceneValue → SoFar B → PlayerOf B → Shows
  shows_late scene so player = record (shows_at_end scene so player) { events = late_events scene (run_so so player.play) so.events }

  -- an actor has no next step, or it is not ready at it
  abbrev pub Rests : SceneValue → Run → ActorOf B → Type 0
  Rests scene run of = IsNotReady scene run of.script (next_step run of.script)

  -- at the end of a play all that arrived was taken, what the last vsync held is truly held, and each actor rests
  pub record IsAtEnd (scene : SceneValue) (so : SoFar B) (player : PlayerOf B) : Type 0 where
    pub taken : (home_in player.play).taken ≡ length (arrived_at player.play)
    pub held : AreHeld (end_of scene (run_so so player.play) (told_at scene so player.play))
        (uncommitted (taken_at player.play) (commits_in (vsyncs_in so.events))) (map held_shown player.held)
    pub rest : All (Rests scene (run_so so player.play)) so.actors

  -- in a round in which no step was done each actor that was tried rests
  abbrev pub RestsAt : SceneValue → SoFar B → PlayerOf B → Place → Type 0
  RestsAt scene so player (at.Round place false) = All (Rests scene (run_so so player.play)) (take place so.actors)
  RestsAt scene so player at.End = IsAtEnd scene so player
  RestsAt scene so player other = Unit {0}

  -- looks show what is owed and what is written: an earlier turn at pixels is an older draw, and a write has ended exactly
  -- where it is done
  pub record LooksTell {R C : Type 0} (lease : Ghosts ReadLeaseOf SeatView R C) (table : TableId) (scene : SceneValue) (so : SoFar B)
      (old new : PlayOf B) : Type 0 where
    pub older : (of : ActorOf B) → Contains so.actors of → TellsOlder scene (run_so so new) of (view_in old) (view_in new)
    pub written : (seen : Seen) (told : CommittedOf ReadLeaseOf) (v : MakesVsync lease table old seen told new)
        → ShowsWhatIsWritten frame_of lease.shown (written_so scene so old) v.decides.looked

-- What is shown at the end of a run of actors over a desk fits the run that they tell.
use Rattle.std.proofs.Common.{List}
use Rattle.sf_script_scene.specs.Limits.{IsWithinLimits}
use Rattle.sf_script_scene.specs.Scene.{SceneValue}
use Rattle.sf_actor.specs.Desks.{DeskHome, DeskView}
use Rattle.sf_actor.specs.Tries.{ActorOf}
use Rattle.sf_actor.specs.Known.{frame_of}
use Rattle.sf_commit.specs.Handlers.{HandlerOf}
use Rattle.sf_actor.specs.sf_surface.Tokens.{ReadLeaseOf}
use Rattle.law_played.specs.Actors.{AreActors, AreArrivals, AreCalls, KnowsSignals, arrivals_of, run_of}
use Rattle.law_played.specs.Commits.{CommitInOrder}
use Rattle.law_played.specs.Frames.{ShowImages}
use Rattle.law_played.specs.Histories.{released_in}
use Rattle.law_played.specs.Holds.{AreHeld, uncommitted}
use Rattle.law_played.specs.Played.{FitsWhere, Shows, end_of, vsyncs_told}
use Rattle.law_played.specs.Progress.{HasPlayed}
use Rattle.law_played.specs.Runs.{signals_in, written_in}
use Rattle.law_played.specs.Stages.{bare_round}
use Rattle.law_played.specs.Stuck.{AreStuck}
use Rattle.law_played.specs.Telling.{TellShows}
use Rattle.law_played.specs.Turns.{DrawAfterOwed}
use Rattle.law_played.specs.Vsyncs.{AreVsyncs, commits_in, vsyncs_in}
use Rattle.law_played.proofs.ArrivedFrames.{show_as_queued}
use Rattle.law_played.proofs.CommitBuffers.{show_brought}
use Rattle.law_played.proofs.KeepingLemmas.{in_order}
use Rattle.law_played.proofs.Parts.{answer_steps, are_histories, arrive_in_order}
use Rattle.law_played.proofs.RunTraces.{are_traced}

pub fits : {B : Type 0} (scene : SceneValue) (ofs : List (ActorOf B)) (home : DeskHome) (view : DeskView B) (shows : Shows) → IsWithinLimits scene → AreActors scene ofs home view
    → KnowsSignals scene ofs home view → AreCalls scene ofs home view → AreArrivals ofs view → TellShows scene ofs home view shows
    → DrawAfterOwed scene (run_of ofs home view) → AreVsyncs scene (signals_in scene (run_of ofs home view)) (vsyncs_in shows.events)
    → CommitInOrder (arrivals_of view) (written_in scene (run_of ofs home view)) (commits_in (vsyncs_in shows.events)) (vsyncs_told scene (arrivals_of view) shows.events)
    → ShowImages scene (vsyncs_told scene (arrivals_of view) shows.events)
    → AreHeld (end_of scene (run_of ofs home view) (vsyncs_told scene (arrivals_of view) shows.events)) (uncommitted (arrivals_of view) (commits_in (vsyncs_in shows.events))) shows.held
    → AreStuck scene (run_of ofs home view) shows.stuck → FitsWhere home.tells scene shows (run_of ofs home view) (arrivals_of view)
fits {B} scene ofs home view shows limits actors signals calls senders tell turns vsyncs commits frames holds ends =
    let traced = are_traced scene ofs home view actors signals in
    let brought = show_brought (arrivals_of view) (bare_round scene) (vsyncs_in shows.events) commits.results in
    record {
      traces = traced;
      turns = turns;
      replies = answer_steps scene ofs home view shows.events actors tell.replies;
      arrive = arrive_in_order scene ofs home view shows.arrived actors senders tell.numbered tell.arrived;
      vsyncs = vsyncs;
      commits = commits;
      calls = are_histories scene ofs home view (released_in (vsyncs_told scene (arrivals_of view) shows.events)) shows.histories actors calls tell.releases tell.histories;
      frames = frames;
      buffers = show_as_queued scene ofs home view shows.histories (commits_in (vsyncs_in shows.events)) home.tells limits actors calls senders traced tell.histories brought;
      holds = holds;
      ends = ends;
    }

-- the same where a handler has played the vsyncs
pub played_fits : {B : Type 0} (scene : SceneValue) (ofs : List (ActorOf B)) (home : DeskHome) (view : DeskView B) (shows : Shows) (handler : HandlerOf ReadLeaseOf) → IsWithinLimits scene
    → AreActors scene ofs home view → KnowsSignals scene ofs home view → AreCalls scene ofs home view → AreArrivals ofs view → TellShows scene ofs home view shows
    → DrawAfterOwed scene (run_of ofs home view) → AreVsyncs scene (signals_in scene (run_of ofs home view)) (vsyncs_in shows.events)
    → HasPlayed frame_of scene (written_in scene (run_of ofs home view)) (arrivals_of view) (vsyncs_in shows.events) handler
    → ShowImages scene (vsyncs_told scene (arrivals_of view) shows.events)
    → AreHeld (end_of scene (run_of ofs home view) (vsyncs_told scene (arrivals_of view) shows.events)) (uncommitted (arrivals_of view) (commits_in (vsyncs_in shows.events))) shows.held
    → AreStuck scene (run_of ofs home view) shows.stuck → FitsWhere home.tells scene shows (run_of ofs home view) (arrivals_of view)
played_fits {B} scene ofs home view shows handler limits actors signals calls senders tell turns vsyncs played frames holds ends =
    fits scene ofs home view shows limits actors signals calls senders tell turns vsyncs
    (in_order frame_of scene (written_in scene (run_of ofs home view)) (arrivals_of view) (vsyncs_in shows.events) handler played) frames holds ends

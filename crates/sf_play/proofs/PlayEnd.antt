-- What stands at the end of a play fits the run that was told.
use Rattle.std.proofs.Common.{◌≡◌, ℕ, ◌+◌, ◌*◌, ◌==◌, true, false, List, [], ◌++◌, length, map, take, refl, ap, sym, ◌∙◌, subst, arith}
use Rattle.std.specs.List.{All}
use Rattle.std.proofs.lemmas.Bool.{eqb-true}
use Rattle.std.proofs.lemmas.List.{take_all}
use Rattle.std.proofs.lemmas.List.Elements.{All-contains}
use Rattle.atomic_table.specs.Seated.{TableId}
use Rattle.sf_base.specs.declared.fences.Seen.{Seen}
use Rattle.sf_play_report.specs.sf_ready.declared.hold.Hold.{Hold}
use Rattle.sf_play_report.specs.sf_surface.Tokens.{Issued, ReadLeaseOf}
use Rattle.sf_play_report.specs.sf_surface.declared.mark.QueueMark.{QueueMark}
use Rattle.sf_play_report.specs.sf_token.Arrivals.{Calls, waiting}
use Rattle.sf_play_report.specs.sf_token.Pending.{Arrival}
use Rattle.sf_play_report.specs.sf_turns.Views.{SeatView}
use Rattle.sf_play_report.specs.sf_txn.declared.lease.Lease.{Ghosts}
use Rattle.sf_play_report.specs.sf_commit.Releases.{CommittedOf}
use Rattle.sf_script_scene.specs.Scene.{SceneValue, has_queue}
use Rattle.sf_play_report.specs.sf_actor.Desks.{DeskView, KnowsAll}
use Rattle.sf_play_report.specs.sf_actor.Known.{frame_of}
use Rattle.sf_play_report.specs.sf_actor.Names.{FrameOf}
use Rattle.sf_play_report.specs.sf_actor.Plain.{PlainOf}
use Rattle.sf_play_report.specs.sf_actor.Tries.{Sees}
use Rattle.sf_play_report.proofs.law_played_lemmas.AsQueued.{one_passes}
use Rattle.sf_play_report.proofs.law_played_lemmas.DeskOfOneThread.{desk_called, sent_numbered}
use Rattle.sf_play_report.proofs.law_played_lemmas.ShownFits.{played_fits}
use Rattle.sf_play_report.proofs.law_played_lemmas.LeaseLemmas.{plain_frame}
use Rattle.sf_play_report.proofs.law_played_lemmas.ProgressLemmas.{end_is_held}
use Rattle.sf_play_report.proofs.law_played_lemmas.StuckActors.{are_stuck, final_is}
use Rattle.sf_play_report.specs.law_played.Actors.{AreCalls}
use Rattle.sf_play_report.specs.law_played.Frames.{ShowImages}
use Rattle.sf_play_report.specs.law_played.Framing.{framed_arrival}
use Rattle.sf_play_report.specs.law_played.Histories.{released_in}
use Rattle.sf_play_report.specs.law_played.Holds.{AreHeld, uncommitted}
use Rattle.sf_play_report.specs.law_played.Played.{FitsWhere, end_of}
use Rattle.sf_play_report.specs.law_played.Progress.{HasPlayed, ShowsWhatIsWritten, held_shown, is_time}
use Rattle.sf_play_report.specs.law_played.Runs.{final_values}
use Rattle.sf_play_report.specs.law_played.Stages.{bare_round, round_at_end, told_of}
use Rattle.sf_play_report.specs.law_played.Stopping.{stuck_among}
use Rattle.sf_play_report.specs.law_played.Telling.{AreReleases}
use Rattle.sf_play_report.specs.law_played.Turns.{DrawAfterOwed}
use Rattle.sf_play_report.specs.law_played.Vsyncs.{commits_in, vsyncs_in}
use Rattle.sf_play.proofs.VsyncKeepsPlayer.{arrived_rises, taken_now}
use Rattle.sf_play.proofs.HandlerLeases.{OfFrames}
use Rattle.sf_play.proofs.PlayLedger.{IsLegalDesk}
use Rattle.sf_play.specs.Ending.{IsAtEnd, shows_at_end}
use Rattle.sf_play.specs.Players.{PlayOf, PlayerOf, SoFar, Stands, arrived_at, home_in, run_so, taken_at, told_at, view_in, written_so}
use Rattle.sf_play.specs.Vsyncing.{MakesVsync}

module _ {B : Type 0} where
  module _ (table : TableId) (scene : SceneValue) (so : SoFar B) (play : PlayOf B) (stands : Stands table scene so play) where
    -- the calls that a play's desk knows are those of its queues
    pub calls_stand : IsLegalDesk play.actor_set.desk → AreCalls scene so.actors (home_in play) (view_in play)
    calls_stand legal = record {
      marks = stands.desk.marks;
      declared = λ queue made there.
          let mark = one_passes (λ (mark : QueueMark). mark.queue.0 == queue) (home_in play).marks (desk_called play.actor_set.desk queue made there) in
          subst (λ (n : ℕ). has_queue scene.queues n ≡ true) (eqb-true mark.0.queue.0 queue mark.2)
          (All-contains (λ (mark : QueueMark). has_queue scene.queues mark.queue.0 ≡ true) (home_in play).marks mark.0 stands.desk.declared mark.1);
      legal = legal;
      callers = stands.tell.callers;
    }

    -- what a look at the timelines saw is what they come to, where no step was done since
    pub saw_final : (later : DeskView B) (seen : Seen) → Sees (home_in play) (view_in play) later seen → final_values scene (run_so so play) ≡ seen
    saw_final later seen sees = final_is scene so.actors (home_in play) (view_in play) seen stands.of_scene.limits stands.tell.actors stands.tell.signals sees.all (sees.exact refl)

  module _ {R C : Type 0} (lease : Ghosts ReadLeaseOf SeatView R C) (frames : OfFrames lease) (table : TableId) (scene : SceneValue) (so : SoFar B) (old new : PlayOf B) (seen : Seen) (told : CommittedOf ReadLeaseOf)
      (stands : Stands table scene so old) (v : MakesVsync lease table old seen told new) where
    -- what a vsync that commits nothing told as held is held at the end, where no time holds anything and looks showed what is written
    pub held_at_end : told.commits ≡ [] → All (λ (h : ℕ × Hold). is_time h.1 ≡ false) told.held → ShowsWhatIsWritten frame_of lease.shown (written_so scene so old) v.decides.looked
        → AreHeld (end_of scene (run_so so new) (told_at scene so new)) (uncommitted (taken_at new) (commits_in (vsyncs_in so.events))) (map held_shown told.held)
    held_at_end none no_time shows =
        let arrived_is : v.arrived ≡ waiting old.actor_set.desk.arrivals =
        v.takes.all ∙ ap (λ (a : Calls ReadLeaseOf SeatView ReadLeaseOf Issued). waiting a) (ap (λ (d : PlainOf B). d.arrivals) v.times) in
        let all = taken_at old ++ map (framed_arrival frame_of) v.arrived in
        let vsyncs = vsyncs_in so.events in
        let is_held = end_is_held lease frame_of (λ a b same. plain_frame a b (frames.plain a b same)) scene (written_so scene so old) (taken_at old) vsyncs old.handler new.handler v.took.desk.turns v.decided.desk.turns
        v.arrived seen ((old.vsyncs + 1) * old.period) told stands.vsyncs.played v.decides (arrived_rises table scene so old stands v.arrived arrived_is) none no_time shows in
        subst (λ (arrivals : List (Arrival FrameOf)). AreHeld (end_of scene (run_so so new) (told_of scene arrivals vsyncs)) (uncommitted arrivals (commits_in vsyncs)) (map held_shown told.held))
        (sym (taken_now lease frames table scene so old new seen told stands v))
        (subst (λ (values : Seen). AreHeld (record { written = written_so scene so old; frames = (round_at_end (bare_round scene) (told_of scene all vsyncs)).frames; values = values })
        (uncommitted all (commits_in vsyncs)) (map held_shown told.held))
        (sym (saw_final table scene so old stands (view_in (record old { actor_set = v.looked })) seen v.sees)) is_held)

  -- At its end what a play shows fits the run that its actors tell.
  pub fits_at_end : (table : TableId) (scene : SceneValue) (so : SoFar B) (player : PlayerOf B) → Stands table scene so player.play → KnowsAll (view_in player.play) → IsLegalDesk player.play.actor_set.desk
      → DrawAfterOwed scene (run_so so player.play) → IsAtEnd scene so player → FitsWhere (home_in player.play).tells scene (shows_at_end scene so player) (run_so so player.play) (arrived_at player.play)
  fits_at_end table scene so player stands knows legal turns end =
      let play = player.play in
      let home = home_in play in
      let view = view_in play in
      let run = run_so so play in
      let vsyncs = vsyncs_in so.events in
      let is_all : taken_at play ≡ arrived_at play = ap (λ (n : ℕ). take n (arrived_at play)) end.taken ∙ take_all (length (arrived_at play)) (arrived_at play) (omega arith) in
      let ends = are_stuck scene so.actors home view (stuck_among so.actors) stands.of_scene.limits stands.tell.actors refl end.rest in
      played_fits scene so.actors home view (shows_at_end scene so player) play.handler stands.of_scene.limits stands.tell.actors (record { all = knows; made = stands.tell.signals })
      (calls_stand table scene so play stands legal) stands.tell.senders
      (record {
        replies = stands.tell.replies;
        arrived = refl;
        numbered = sent_numbered play.actor_set.desk.arrivals;
        histories = refl;
        releases = subst (λ (arrivals : List (Arrival FrameOf)). AreReleases scene so.actors home view (released_in (told_of scene arrivals vsyncs))) is_all stands.tell.releases;
      })
      turns stands.vsyncs.vsyncs
      (subst (λ (arrivals : List (Arrival FrameOf)). HasPlayed frame_of scene (written_so scene so play) arrivals vsyncs play.handler) is_all stands.vsyncs.played)
      (subst (λ (arrivals : List (Arrival FrameOf)). ShowImages scene (told_of scene arrivals vsyncs)) is_all stands.vsyncs.frames)
      (subst (λ (arrivals : List (Arrival FrameOf)). AreHeld (end_of scene run (told_of scene arrivals vsyncs)) (uncommitted arrivals (commits_in vsyncs)) (map held_shown player.held)) is_all end.held)
      ends

-- A vsync of a player is a transition of the play of its scene.
use Rattle.std.proofs.Common.{◌≡◌, ℕ, suc, ◌+◌, ◌*◌, ◌<◌, ◌≤◌, Bool, true, false, List, [], ◌∷◌, ◌++◌, length, map, take, Some, refl, sym, ap, ◌∙◌, subst, arith}
use Rattle.std.specs.Prelude.{Contains, nat_lt, slice_get}
use Rattle.std.specs.List.{All, AllZip}
use Rattle.std.proofs.lemmas.Bool.{ltb-false}
use Rattle.std.proofs.lemmas.List.{append-nil, length-map, map-append, take-map}
use Rattle.std.proofs.lemmas.List.Elements.{All-head, All-tail}
use Rattle.atomic_table.specs.Seated.{TableId}
use Rattle.sf_base.specs.declared.fences.Seen.{Seen}
use Rattle.sf_base.specs.declared.ids.QueueId.{QueueId}
use Rattle.sf_play_report.specs.sf_layer.declared.shown.Shown.{Shown}
use Rattle.sf_picture.specs.declared.picture.Picture.{Picture}
use Rattle.sf_play_report.specs.sf_surface.Histories.{Made, told as told_by}
use Rattle.sf_play_report.specs.sf_surface.Reading.{PlainLease, plain_lease}
use Rattle.sf_play_report.specs.sf_surface.Tokens.{Issued, ReadLeaseOf}
use Rattle.sf_play_report.specs.sf_token.Arrivals.{Calls, sent, waiting}
use Rattle.sf_play_report.specs.sf_token.Pending.{Arrival}
use Rattle.sf_play_report.specs.sf_turns.Views.{SeatView}
use Rattle.sf_play_report.specs.sf_txn.declared.lease.Lease.{Ghosts}
use Rattle.sf_play_report.specs.sf_commit.Handlers.{Decides}
use Rattle.sf_play_report.specs.sf_commit.Leases.{HandsBack, IsReleaseOf}
use Rattle.sf_play_report.specs.sf_commit.OnLayers.{OnLayer}
use Rattle.sf_play_report.specs.sf_commit.Releases.{ReleaseOf, CommittedOf}
use Rattle.sf_play_report.specs.sf_commit.declared.vsync.Commit.{Commit}
use Rattle.sf_script_scene.specs.Scene.{SceneValue, has_queue}
use Rattle.sf_script_scene.specs.declared.declarations.Pick.{Pick}
use Rattle.sf_script_scene.specs.declared.declarations.QueueDecl.{QueueDecl}
use Rattle.sf_script_scene.specs.declared.step.ActorScript.{ActorScript}
use Rattle.sf_play_report.specs.sf_actor.Desks.{DeskHome, DeskView, mark_among}
use Rattle.sf_play_report.specs.sf_actor.Known.{frame_of, plain_arrival}
use Rattle.sf_play_report.specs.sf_actor.Makers.{Run}
use Rattle.sf_play_report.specs.sf_actor.Names.{FrameOf}
use Rattle.sf_play_report.specs.sf_actor.Plain.{home_of, taken_in, view_of}
use Rattle.sf_play_report.specs.sf_actor.Tries.{ActorOf}
use Rattle.law_rights.specs.sf_actor_steps.declared.actor.Actor.{Actor}
use Rattle.law_rights.proofs.sf_actor_set_lemmas.ArrivalLemmas.{sent_is}
use Rattle.law_rights.specs.sf_actor_set.ActorSets.{KeepAs}
use Rattle.sf_play_report.specs.sf_record.declared.event.Event.{Event}
use Rattle.sf_play_report.specs.sf_record.declared.event.Event.TheVariants as event
use Rattle.sf_play_report.specs.sf_record.declared.event.VsyncRecords.{VsyncRecords}
use Rattle.sf_play_report.specs.law_played.Actors.{mark_declared, run_of, script_of, trace_among}
use Rattle.sf_play_report.specs.law_played.Commits.{commit_shown}
use Rattle.sf_play_report.specs.law_played.Ends.{held_in}
use Rattle.sf_play_report.specs.law_played.Framing.{framed_arrival, framed_on}
use Rattle.sf_play_report.specs.law_played.Histories.{Released}
use Rattle.sf_play_report.specs.law_played.Plays.{TakesTransition}
use Rattle.sf_play_report.specs.law_played.Frames.{shown_after}
use Rattle.sf_play_report.specs.law_played.Progress.{ShowsWhatIsWritten}
use Rattle.sf_play_report.specs.law_played.Runs.{final_values, rising_actors}
use Rattle.sf_play_report.specs.law_played.Seeing.{value_shown}
use Rattle.sf_play_report.specs.law_played.Vsyncs.{rising_timelines, vsyncs_in}
use Rattle.sf_play_report.specs.law_played.RunStates.{IsPlaysVsync, Transition, RunState, after_vsync, release_asked, report_of, reports_if, reports_of, with_call, with_calls}
use Rattle.sf_play_report.proofs.law_played_lemmas.LeaseLemmas.{plain_arrivals, plain_frame}
use Rattle.sf_play_report.proofs.law_played_lemmas.NextStep.{desk_release}
use Rattle.sf_play_report.proofs.law_played_lemmas.ProgressLemmas.{vsync_of_play}
use Rattle.sf_play_report.proofs.law_played_lemmas.RisingNumbers.{rising_actors_are}
use Rattle.sf_play_report.proofs.law_played_lemmas.StuckActors.{final_is}
use Rattle.sf_play.proofs.AlongLemmas.{plays_pick, plays_round}
use Rattle.sf_play.proofs.AlongTransitions.{calls_declared}
use Rattle.sf_play.proofs.VsyncKeepsPlayer.{arrived_is, arrivals_now, calls_same, gives_now, goes, home_now, plain, rises, vsyncs_in_more}
use Rattle.sf_play.proofs.LastHolds.{held_bare}
use Rattle.sf_play.proofs.HandlerLeases.{IsOnLent, OfFrames}
use Rattle.sf_play.specs.Alongs.{PlaysSo, PlaysTo, behind_round, state_so}
use Rattle.law_rights.specs.Standing.{GiveAll, GivesOne}
use Rattle.sf_play.specs.Players.{PlayOf, SoFar, Stands, arrived_at, run_so, taken_at, written_so}
use Rattle.sf_play.specs.Showing.{vsync_shown}
use Rattle.sf_play.specs.Vsyncing.{MakesVsync}
use Rattle.sf_play.specs.declared.place.Place.TheVariants as at

-- the frames that a vsync of this number releases
abbrev released_then : ℕ → List (OnLayer FrameOf) → List Released
released_then number gone = map (λ (on : OnLayer FrameOf). record { vsync = number; on = on }) gone

module _ {B : Type 0} where
  -- as many actors as the actor set has
  keep_length : (table : TableId) (pictures : ℕ → Picture) (home : DeskHome) (view : DeskView B) (actors : List (Actor B)) (ofs : List (ActorOf B)) → KeepAs table pictures home view actors ofs → length actors ≡ length ofs
  keep_length table pictures home view [] [] keep = refl
  keep_length table pictures home view [] (of ∷ ofs) keep = absurd keep
  keep_length table pictures home view (actor ∷ actors) [] keep = absurd keep
  keep_length table pictures home view (actor ∷ actors) (of ∷ ofs) keep = ap suc (keep_length table pictures home view actors ofs keep.1)

  -- frames that go back are the calls of a vsync of the play
  module _ {R C : Type 0} (lease : Ghosts ReadLeaseOf SeatView R C) (frames : OfFrames lease) (home : DeskHome) (exact : home.is_exact ≡ true) (number : ℕ) (lent : DeskView B) (scene : SceneValue) (ofs : List (ActorOf B))
      (marks : All (λ (queue : QueueDecl). mark_among home.marks queue.number ≡ mark_declared queue) scene.queues)
      (declared : (queue : ℕ) (made : Made B) → Contains (lent.calls queue) made → has_queue scene.queues queue ≡ true) where
    handed : (is_read : Bool) (l back : ReadLeaseOf) → HandsBack lease is_read l back → plain_lease back ≡ plain_lease l
    handed true l back back_so = frames.plain back l back_so.0
    handed false l back back_so = ap plain_lease back_so

    one_run : (on : OnLayer ReadLeaseOf) (release : ReleaseOf ReadLeaseOf) (old new : DeskView B) → IsReleaseOf lease on release → IsOnLent lent on → GivesOne home number release old new
        → run_of ofs home new ≡ with_call scene 0 number (run_of ofs home old) (release_asked (record { vsync = number; on = framed_on frame_of on }))
    one_run on release old new is shows one =
        let same = handed on.is_read on.lease release.lease is.handed in
        let there : release.queue.0 ≡ on.lease.queue.0 = ap (λ (q : QueueId). q.0) is.queue ∙ ap (λ (s : Shown). s.queue.0) shows.shows in
        let own : release.lease.queue.0 ≡ release.queue.0 = ap (λ (l : PlainLease). l.queue.0) same ∙ sym there in
        desk_release scene ofs home old new marks release.queue.0 number release.lease release.fence one.reply (record { vsync = number; on = framed_on frame_of on }) exact
        (subst (λ (q : ℕ). has_queue scene.queues q ≡ true) (sym there) (declared on.lease.queue.0 shows.lent.made shows.lent.there))
        own (plain_frame on.lease release.lease (sym same)) (sym is.fence) one.made

    gives_run : (gone : List (OnLayer ReadLeaseOf)) (releases : List (ReleaseOf ReadLeaseOf)) (old new : DeskView B) → AllZip (IsReleaseOf lease) gone releases → All (IsOnLent lent) gone
        → GiveAll home number releases old new
        → run_of ofs home new ≡ with_calls scene 0 number (run_of ofs home old) (map release_asked (released_then number (map (framed_on frame_of) gone)))
    unfolding with_calls
    gives_run [] [] old new zip shows gives = ap (run_of ofs home) gives
    gives_run [] (release ∷ releases) old new zip shows gives = absurd zip
    gives_run (on ∷ gone) [] old new zip shows gives = absurd zip
    gives_run (on ∷ gone) (release ∷ releases) old new zip shows gives =
        gives_run gone releases gives.0 new zip.1 (All-tail (IsOnLent lent) on gone shows) gives.2
        ∙ ap (λ (run : Run). with_calls scene 0 number run (map release_asked (released_then number (map (framed_on frame_of) gone))))
        (one_run on release old gives.0 zip.0 (All-head (IsOnLent lent) on gone shows) gives.1)

  module _ {R C : Type 0} (lease : Ghosts ReadLeaseOf SeatView R C) (frames : OfFrames lease) (table : TableId) (scene : SceneValue) (so : SoFar B) (old new : PlayOf B) (seen : Seen) (told : CommittedOf ReadLeaseOf)
      (stands : Stands table scene so old) (v : MakesVsync lease table old seen told new) where
    -- it saw what was signalled so far
    final_now : final_values scene (run_so so old) ≡ seen
    final_now = final_is scene so.actors (home_of old.actor_set.desk) (view_of old.actor_set.desk) seen stands.of_scene.limits stands.tell.actors stands.tell.signals v.sees.all (v.sees.exact refl)

    -- all that has arrived is taken
    abbrev arrivals : Calls ReadLeaseOf SeatView ReadLeaseOf Issued
    arrivals = old.actor_set.desk.arrivals

    all_arrived : taken_at old ++ map (framed_arrival frame_of) v.arrived ≡ arrived_at old
    all_arrived =
        ap (λ (xs : List (Arrival FrameOf)). taken_at old ++ xs) (plain_arrivals v.arrived)
        ∙ (λ i. take-map plain_arrival (taken_in arrivals) (sent arrivals) i ++ map plain_arrival (arrived_is lease frames table scene so old new seen told stands v i))
        ∙ sym (map-append plain_arrival (take (taken_in arrivals) (sent arrivals)) (waiting arrivals))
        ∙ ap (map plain_arrival) (sym (sent_is arrivals))

    period_now : (old.vsyncs + 1) * scene.period ≡ (old.vsyncs + 1) * old.period
    period_now = ap (λ (n : ℕ). (old.vsyncs + 1) * n) (sym stands.of_scene.period)

    -- the number of actors
    pub all_had : (place : ℕ) → nat_lt place (length old.actor_set.actors) ≡ false → length (rising_actors scene) ≤ place
    all_had place past =
        let most = ltb-false place (length old.actor_set.actors) past in
        let rising = ap (λ (scripts : List ActorScript). length scripts) (rising_actors_are scene so.actors (home_of old.actor_set.desk) (view_of old.actor_set.desk) stands.of_scene.limits stands.tell.actors) in
        let mapped = length-map so.actors script_of in
        let same = keep_length table _ (home_of old.actor_set.desk) (view_of old.actor_set.desk) old.actor_set.actors so.actors stands.keep in
        omega (arith, most, rising, mapped, same)

    module _ (shows : ShowsWhatIsWritten frame_of lease.shown (written_so scene so old) v.decides.looked) where
      abbrev gone : List (OnLayer FrameOf)
      gone = map (framed_on frame_of) v.decides.end.stage.gone

      pub next_vsync : IsPlaysVsync scene (state_so so old) told.commits new.handler.tree gone told.held
      next_vsync =
          subst (λ (xs : List (Arrival FrameOf)). IsPlaysVsync scene (record (state_so so old) { arrivals = xs }) told.commits new.handler.tree gone told.held) all_arrived
          (subst (λ (p : Seen × ℕ). (d : Decides lease old.handler v.took.desk.turns v.arrived p.0 p.1 told new.handler v.decided.desk.turns) → ShowsWhatIsWritten frame_of lease.shown (written_so scene so old) d.looked
          → IsPlaysVsync scene (record (state_so so old) { arrivals = taken_at old ++ map (framed_arrival frame_of) v.arrived }) told.commits new.handler.tree (map (framed_on frame_of) d.end.stage.gone) told.held)
          (λ i. (final_now i, period_now i))
          (λ d shown. vsync_of_play lease frame_of (plain lease frames table scene so old new seen told stands v) scene (run_so so old) old.vsyncs (taken_at old) (vsyncs_in so.events) old.handler new.handler
          v.took.desk.turns v.decided.desk.turns v.arrived told stands.vsyncs.played d (rises lease frames table scene so old new seen told stands v) shown)
          v.decides shows)

      abbrev transition : Transition
      transition = after_vsync scene (state_so so old) next_vsync.end

      -- the calls that give frames back
      run_now : transition.state.run ≡ run_so so new
      run_now =
          let home : DeskHome = record (home_of old.actor_set.desk) { taken = taken_in v.took.desk.arrivals } in
          ap (λ (ones : List (OnLayer FrameOf)). with_calls scene 0 (old.vsyncs + 1) (run_so so old) (map release_asked (released_then (old.vsyncs + 1) ones))) next_vsync.goes
          ∙ ap (λ (run : Run). with_calls scene 0 (old.vsyncs + 1) run (map release_asked (released_then (old.vsyncs + 1) gone)))
          (λ i. record { trace = trace_among so.actors; calls = λ queue. told_by (mark_among (home_of old.actor_set.desk).marks queue) (sym (calls_same lease frames table scene so old new seen told stands v) i queue) })
          ∙ sym (gives_run lease frames home refl (old.vsyncs + 1) (view_of old.actor_set.desk) scene so.actors stands.desk.marks (calls_declared table scene so old stands) v.decides.end.stage.gone told.releases
          (view_of v.decided.desk) (view_of new.actor_set.desk) v.decides.settled.releases (goes lease frames table scene so old new seen told stands v) (gives_now lease frames table scene so old new seen told stands v))
          ∙ ap (λ (h : DeskHome). run_of so.actors h (view_of new.actor_set.desk)) (sym (home_now lease frames table scene so old new seen told stands v))

      state_now : transition.state ≡ record { run = run_so so new; arrivals = arrived_at new; reports = transition.state.reports; vsyncs = new.vsyncs }
      state_now = λ i. record {
        run = run_now i;
        arrivals = map plain_arrival (sym (arrivals_now lease frames table scene so old new seen told stands v) i);
        reports = transition.state.reports;
        vsyncs = sym (ap (λ (p : PlayOf B). p.vsyncs) v.rest) i;
      }

      -- what it shows
      abbrev report : VsyncRecords
      report = vsync_shown scene (old.vsyncs + 1) ((old.vsyncs + 1) * old.period) seen told.commits new.handler.tree

      report_is : report_of scene (state_so so old) next_vsync.end ≡ report
      report_is = λ i. record {
        number = old.vsyncs + 1;
        expected = period_now i;
        timelines = map (value_shown (final_now i)) (rising_timelines scene);
        commits = map commit_shown (next_vsync.commits_are i);
        shown = shown_after scene (map commit_shown (next_vsync.commits_are i)) (next_vsync.leaves i);
      }

      goes_pick : (place done : ℕ) (pick : Pick) (later : SoFar B) → so.events ++ transition.events ≡ later.events → transition.state ≡ state_so later new → PlaysSo scene so old (at.Order place done)
          → slice_get scene.order place ≡ Some pick → done < pick.times → pick.actor ≡ 0 → PlaysSo scene later new (at.Order place (done + 1))
      goes_pick place done pick later events state plays there less is =
          subst (λ (w : RunState). PlaysTo scene later.events w (at.Order place (done + 1))) state
          (subst (λ (es : List Event). PlaysTo scene es transition.state (at.Order place (done + 1))) events
          (plays_pick scene so.events (state_so so old) place done pick transition plays there less
          (subst (λ (n : ℕ). TakesTransition scene n (state_so so old) transition) (sym is) (record { end = next_vsync.end; decides = next_vsync.decides; is = refl }))))

      goes_round : (place : ℕ) (stepped : Bool) (later : SoFar B) → so.events ++ transition.events ≡ later.events → transition.state ≡ state_so later new → PlaysSo scene so old (at.Round place stepped)
          → length (rising_actors scene) ≤ place → PlaysSo scene later new (behind_round stepped told.commits told.held)
      goes_round place stepped later events state plays had =
          subst (λ (w : RunState). PlaysTo scene later.events w (behind_round stepped told.commits told.held)) state
          (subst (λ (es : List Event). PlaysTo scene es transition.state (behind_round stepped told.commits told.held)) events
          (plays_round scene so.events (state_so so old) place stepped plays had told.commits new.handler.tree gone told.held next_vsync))

      -- a vsync that commits something is shown
      module _ (c : Commit) (cs : List Commit) (some : told.commits ≡ c ∷ cs) where
        abbrev shown : SoFar B
        shown = record so { events = so.events ++ event.Vsync report ∷ [] }

        reports_some : reports_of scene (state_so so old) next_vsync.end ≡ report ∷ []
        reports_some = λ i. reports_if (report_is i) (map commit_shown ((next_vsync.commits_are ∙ some) i))

        events_some : so.events ++ transition.events ≡ shown.events
        events_some = ap (λ (rs : List VsyncRecords). so.events ++ map event.Vsync rs) reports_some

        state_some : transition.state ≡ state_so shown new
        state_some = state_now ∙ ap (λ (rs : List VsyncRecords). record { run = run_so so new; arrivals = arrived_at new; reports = rs; vsyncs = new.vsyncs })
            (ap (λ (rs : List VsyncRecords). vsyncs_in so.events ++ rs) reports_some ∙ sym (vsyncs_in_more so.events report))

        pub pick_shown : (place done : ℕ) (pick : Pick) → PlaysSo scene so old (at.Order place done) → slice_get scene.order place ≡ Some pick → done < pick.times → pick.actor ≡ 0
            → PlaysSo scene shown new (at.Order place (done + 1))
        pick_shown place done pick = goes_pick place done pick shown events_some state_some

        pub round_shown : (place : ℕ) (stepped : Bool) → PlaysSo scene so old (at.Round place stepped) → length (rising_actors scene) ≤ place → PlaysSo scene shown new (behind_round stepped told.commits told.held)
        round_shown place stepped = goes_round place stepped shown events_some state_some

      -- a vsync that commits nothing is not
      module _ (none : told.commits ≡ []) where
        reports_none : reports_of scene (state_so so old) next_vsync.end ≡ []
        reports_none = ap (λ (ds : List Commit). reports_if (report_of scene (state_so so old) next_vsync.end) (map commit_shown ds)) (next_vsync.commits_are ∙ none)

        events_none : so.events ++ transition.events ≡ so.events
        events_none = ap (λ (rs : List VsyncRecords). so.events ++ map event.Vsync rs) reports_none ∙ append-nil so.events

        state_none : transition.state ≡ state_so so new
        state_none = state_now ∙ ap (λ (rs : List VsyncRecords). record { run = run_so so new; arrivals = arrived_at new; reports = rs; vsyncs = new.vsyncs })
            (ap (λ (rs : List VsyncRecords). vsyncs_in so.events ++ rs) reports_none ∙ append-nil (vsyncs_in so.events))

        -- it holds what the play's last vsync held
        pub holds_silent : held_in scene (state_so so new) ≡ told.held
        holds_silent = ap (held_in scene) (sym state_none) ∙ held_bare scene (state_so so old) told.commits new.handler.tree gone told.held next_vsync none

        pub pick_silent : (place done : ℕ) (pick : Pick) → PlaysSo scene so old (at.Order place done) → slice_get scene.order place ≡ Some pick → done < pick.times → pick.actor ≡ 0
            → PlaysSo scene so new (at.Order place (done + 1))
        pick_silent place done pick = goes_pick place done pick so events_none state_none

        pub round_silent : (place : ℕ) (stepped : Bool) → PlaysSo scene so old (at.Round place stepped) → length (rising_actors scene) ≤ place → PlaysSo scene so new (behind_round stepped told.commits told.held)
        round_silent place stepped = goes_round place stepped so events_none state_none

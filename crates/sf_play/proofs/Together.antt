-- What happened by a try or by a vsync, and that the play and the ledger of its rights stand with it.
use Rattle.std.proofs.Common.{◌≡◌, ◌≢◌, ℕ, zero, suc, ◌+◌, ◌*◌, Bool, false, List, [], ◌∷◌, ◌++◌, set, refl, ap, sym, ◌∙◌, subst, Some}
use Rattle.std.specs.Prelude.{slice_get}
use Rattle.std.specs.List.{All}
use Rattle.std.proofs.lemmas.List.Elements.{All-weaker}
use Rattle.atomic_table.specs.Seated.{TableId}
use Rattle.sf_picture.specs.declared.picture.Picture.{Picture}
use Rattle.sf_play_report.specs.sf_surface.Tokens.{Issued, ReadLeaseOf}
use Rattle.sf_play_report.specs.sf_surface.declared.mark.QueueMark.{QueueMark}
use Rattle.sf_play_report.specs.sf_token.Pending.{Arrival}
use Rattle.sf_play_report.specs.sf_turns.Views.{SeatView}
use Rattle.sf_play_report.specs.sf_txn.declared.lease.Lease.{Ghosts}
use Rattle.sf_play_report.specs.sf_commit.Releases.{CommittedOf}
use Rattle.sf_play_report.specs.sf_commit.declared.vsync.Commit.{Commit}
use Rattle.sf_script_scene.specs.Scene.{SceneValue}
use Rattle.sf_script_scene.specs.declared.step.ActorScript.{ActorScript}
use Rattle.sf_play_report.specs.sf_actor.declared.tried.Stepped.{Stepped}
use Rattle.sf_play_report.specs.sf_actor.declared.tried.Stepped.TheVariants as stepped
use Rattle.sf_play_report.specs.sf_actor.Desks.{DeskHome, DeskView, KnowsAll}
use Rattle.sf_play_report.specs.sf_actor.Known.{frame_of}
use Rattle.sf_play_report.specs.sf_actor.Plain.{taken_in}
use Rattle.sf_play_report.specs.sf_actor.Scripts.{picture_at}
use Rattle.sf_play_report.specs.sf_actor.Tries.{ActorOf}
use Rattle.law_rights.specs.sf_actor_steps.Actors.{IsActor}
use Rattle.law_rights.specs.sf_actor_steps.Playable.{MayPlay}
use Rattle.law_rights.specs.sf_actor_steps.declared.actor.Actor.{Actor}
use Rattle.law_rights.proofs.sf_actor_set_lemmas.CompositingLemmas.{taken_plays}
use Rattle.law_rights.specs.sf_actor_set.ActorSets.{ActorSetOf, IsSameActorSet, KeepAs, StepsAt, scripts_of}
use Rattle.sf_play_report.specs.sf_record.declared.event.Event.TheVariants as event
use Rattle.sf_play_report.specs.law_played.Progress.{ShowsWhatIsWritten, WroteWhatShows}
use Rattle.law_rights.proofs.StepLedger.{step_stands}
use Rattle.law_rights.specs.InTurn.{DrawsStand}
use Rattle.law_rights.specs.MakerRuns.{MakersPlay}
use Rattle.law_rights.specs.Standing.{LedgerStands}
use Rattle.law_rights.specs.Vsyncs.{IsOfTurns}
use Rattle.sf_play.proofs.VsyncKeepsPlayer.{home_now, shown, stands_shown, stands_silent, whole}
use Rattle.sf_play.proofs.HandlerLeases.{OfFrames}
use Rattle.sf_play.proofs.PlayLedger.{IsLegalDesk, TellsAll, are_over, ledger_vsync, looks_written}
use Rattle.sf_play.proofs.Makers.{draws_tried, draws_vsync, makers_tried, makers_vsync}
use Rattle.sf_play.proofs.StepKeepsPlayer.{later_so, same_ended, same_left, stands_done, stands_ended, stands_waiting}
use Rattle.sf_play_report.specs.Reports.{has_commits}
use Rattle.sf_play_report.specs.declared.report.VsyncReport.{VsyncReport}
use Rattle.sf_play.specs.Happening.{Happens, VsyncHappens}
use Rattle.sf_play.specs.Players.{PlayOf, SoFar, Stands, home_in, view_in, written_so}
use Rattle.sf_play.specs.Playing.{KeepsRights}
use Rattle.sf_play.specs.Showing.{vsync_shown}
use Rattle.sf_play.specs.Vsyncing.{MakesVsync}
use Rattle.sf_play.specs.declared.action.Action.{Action}
use Rattle.sf_play.specs.declared.action.Action.TheVariants as action

-- after an action this much has happened, the play stands still, and the ledger of its rights with it; its queues are these
pub record StandsWith {B : Type 0} (table : TableId) (scene : SceneValue) (marks : List QueueMark) (so : SoFar B) (came_to : Action) (new : PlayOf B) : Type 0 where
  pub later : SoFar B
  pub happens : Happens scene came_to new so later
  pub stands : Stands table scene later new
  pub rights : KeepsRights table scene later new
  pub queues : (home_in new).marks ≡ marks

-- what shows only what is written shows as written only what is
wrote_shown : {C : Type 0} (lease : Ghosts ReadLeaseOf SeatView ReadLeaseOf Issued) (scene : SceneValue) (so : SoFar C) (play : PlayOf C) (looked : List (Arrival ReadLeaseOf)) → ShowsWhatIsWritten frame_of lease.shown (written_so scene so play) looked
    → WroteWhatShows frame_of lease.shown (written_so scene so play) looked
wrote_shown lease scene so play looked shows k d low j e less drawn = sym (shows k d low j e less) ∙ drawn

module _ {B : Type 0} where
  -- what is kept at a place
  pub kept_at : (table : TableId) (pictures : ℕ → Picture) (home : DeskHome) (view : DeskView B) (actors : List (Actor B)) (ofs : List (ActorOf B)) (place : ℕ) (actor : Actor B) (old new : ActorOf B)
      → KeepAs table pictures home view actors (set ofs place new) → slice_get ofs place ≡ Some old → slice_get actors place ≡ Some actor → IsActor table actor new
  kept_at table pictures home view actors [] place actor old new keep was now = absurd (cc (was))
  kept_at table pictures home view [] (of ∷ ofs) place actor old new keep was now = absurd (cc (now))
  kept_at table pictures home view (a ∷ actors) (of ∷ ofs) zero actor old new keep was now =
      let same : a ≡ actor = cc in
      subst (λ (x : Actor B). IsActor table x new) same keep.0.is
  kept_at table pictures home view (a ∷ actors) (of ∷ ofs) (suc place) actor old new keep was now = kept_at table pictures home view actors ofs place actor old new keep.1 was now

module _ {B : Type 0} (table : TableId) (scene : SceneValue) (marks : List QueueMark) (so : SoFar B) (old : PlayOf B) (stands : Stands table scene so old) (rights : KeepsRights table scene so old) (marked : (home_in old).marks ≡ marks)
    (legal : IsLegalDesk old.actor_set.desk) (knows : KnowsAll (view_in old)) (own : old.actor_set.desk.turns.table ≡ table) where
  -- nothing was done
  abbrev pub nothing_with : (came_to : Action) → Happens scene came_to old so so → StandsWith table scene marks so came_to old
  nothing_with came_to happens = record { later = so; happens = happens; stands = stands; rights = record { ledger = rights.ledger; makers = rights.makers; draws = rights.draws; plays = rights.plays }; queues = marked }

  -- an actor's next step was tried
  module _ (actor_set : ActorSetOf B) (place : ℕ) (same : IsSameActorSet old.actor_set actor_set) (acts : actor_set.is_spent ≡ false) where
    abbrev pub then : PlayOf B
    then = record old { actor_set = actor_set }

    plays_then : All (MayPlay (home_in then) scene.pictures) (scripts_of actor_set.actors)
    plays_then = subst (λ (h : DeskHome). All (MayPlay h scene.pictures) (scripts_of actor_set.actors)) (sym same.home)
        (subst (λ (ss : List ActorScript). All (MayPlay (home_in old) scene.pictures) ss) (sym same.scripts) rights.plays)

    pub marks_then : (home_in then).marks ≡ marks
    marks_then = ap (λ (h : DeskHome). h.marks) same.home ∙ marked

    module _ (st : Stepped) (s : StepsAt table (picture_at scene.pictures) place old.actor_set.actors so.actors old.actor_set.desk actor_set.actors actor_set.desk st) where
      ledger_then : LedgerStands table.slots (home_in then) (view_in then) (set so.actors place s.new) old.handler
      ledger_then = step_stands table table.slots place scene.pictures so.actors old.actor_set.actors actor_set.actors old.actor_set.desk actor_set.desk st old.handler s stands.keep rights.plays same.home
          (are_over table scene so old stands rights.ledger legal) rights.ledger

      draws_then : DrawsStand scene (home_in then) (view_in then) (set so.actors place s.new) old.handler
      draws_then = draws_tried table scene so old stands rights legal knows own place actor_set same st s

      makers_then : MakersPlay scene (home_in then) (view_in then) (set so.actors place s.new) old.handler
      makers_then = makers_tried table scene so old stands rights legal knows own place actor_set same st s

      pub rights_then : (ofs : List (ActorOf B)) → set so.actors place s.new ≡ ofs → (later : SoFar B) → later.actors ≡ ofs → KeepsRights table scene later then
      rights_then ofs is later are =
          let same_actors : set so.actors place s.new ≡ later.actors = is ∙ sym are in
          record {
            ledger = subst (λ (xs : List (ActorOf B)). LedgerStands table.slots (home_in then) (view_in then) xs old.handler) same_actors ledger_then;
            makers = subst (λ (xs : List (ActorOf B)). MakersPlay scene (home_in then) (view_in then) xs old.handler) same_actors makers_then;
            draws = subst (λ (xs : List (ActorOf B)). DrawsStand scene (home_in then) (view_in then) xs old.handler) same_actors draws_then;
            plays = plays_then;
          }

    abbrev pub done_with : (s : StepsAt table (picture_at scene.pictures) place old.actor_set.actors so.actors old.actor_set.desk actor_set.actors actor_set.desk stepped.Done) → StandsWith table scene marks so (action.Step place) then
    done_with s = record {
      later = later_so table scene so old place actor_set stands same acts s;
      happens = record {
        of = s.new;
        reply = s.tries.0;
        actor = s.now_here;
        there = s.now_at;
        earlier = s.old.replies;
        replies = sym (kept_at table (picture_at scene.pictures) (home_in then) (view_in then) actor_set.actors so.actors place s.now_here s.old s.new s.keep s.here s.now_at).replies ∙ s.tries.1.replies;
        is = refl;
      };
      stands = stands_done table scene so old place actor_set stands same acts s;
      rights = rights_then stepped.Done s (set so.actors place s.new) refl (later_so table scene so old place actor_set stands same acts s) refl;
      queues = marks_then;
    }

    abbrev pub left_with : (s : StepsAt table (picture_at scene.pictures) place old.actor_set.actors so.actors old.actor_set.desk actor_set.actors actor_set.desk stepped.NotYet) → StandsWith table scene marks so action.Idle then
    left_with s = record {
      later = so;
      happens = refl;
      stands = stands_waiting table scene so old place actor_set stands same acts s;
      rights = rights_then stepped.NotYet s so.actors (same_left table scene so old place actor_set stands same acts s) so refl;
      queues = marks_then;
    }

    abbrev pub ended_with : (s : StepsAt table (picture_at scene.pictures) place old.actor_set.actors so.actors old.actor_set.desk actor_set.actors actor_set.desk stepped.Ended) → StandsWith table scene marks so action.Idle then
    ended_with s = record {
      later = so;
      happens = refl;
      stands = stands_ended table scene so old place actor_set stands same acts s;
      rights = rights_then stepped.Ended s so.actors (same_ended table scene so old place actor_set stands same acts s) so refl;
      queues = marks_then;
    }

  -- a vsync was made
  module _ (lease : Ghosts ReadLeaseOf SeatView ReadLeaseOf Issued) (frames : OfFrames lease) (of_turns : IsOfTurns lease) (tells : TellsAll lease) (new : PlayOf B) (report : VsyncReport) (told : CommittedOf ReadLeaseOf)
      (v : MakesVsync lease table old report.seen told new) (commits : report.commits ≡ told.commits) where
    plays_now : All (MayPlay (home_in new) scene.pictures) (scripts_of new.actor_set.actors)
    plays_now = subst (λ (h : DeskHome). All (MayPlay h scene.pictures) (scripts_of new.actor_set.actors)) (sym (home_now lease frames table scene so old new report.seen told stands v))
        (subst (λ (actors : List (Actor B)). All (MayPlay (record (home_in old) { taken = taken_in v.took.desk.arrivals }) scene.pictures) (scripts_of actors))
        (sym (ap (λ (c : ActorSetOf B). c.actors) (whole lease frames table scene so old new report.seen told stands v).same))
        (All-weaker (MayPlay (home_in old) scene.pictures) (MayPlay (record (home_in old) { taken = taken_in v.took.desk.arrivals }) scene.pictures)
        (taken_plays (home_in old) (taken_in v.took.desk.arrivals) scene.pictures) (scripts_of old.actor_set.actors) rights.plays))

    pub marks_now : (home_in new).marks ≡ marks
    marks_now = ap (λ (h : DeskHome). h.marks) (home_now lease frames table scene so old new report.seen told stands v) ∙ marked

    pub rights_now : (later : SoFar B) → later.actors ≡ so.actors → KeepsRights table scene later new
    rights_now later same =
        record {
          ledger = subst (λ (xs : List (ActorOf B)). LedgerStands table.slots (home_in new) (view_in new) xs new.handler) (sym same)
              (ledger_vsync lease frames of_turns tells table scene so old new report.seen told stands rights.ledger v);
          makers = subst (λ (xs : List (ActorOf B)). MakersPlay scene (home_in new) (view_in new) xs new.handler) (sym same) (makers_vsync table scene so old stands rights legal knows own lease frames of_turns tells new report.seen told v);
          draws = subst (λ (xs : List (ActorOf B)). DrawsStand scene (home_in new) (view_in new) xs new.handler) (sym same) (draws_vsync table scene so old stands rights legal knows own lease frames of_turns tells new report.seen told v);
          plays = plays_now;
        }

    -- its looks show just what is written
    pub shows_written : ShowsWhatIsWritten frame_of lease.shown (written_so scene so old) v.decides.looked
    shows_written = looks_written lease frames of_turns tells table scene so old new report.seen told stands rights.ledger v legal knows own

    pub wrote_written : WroteWhatShows frame_of lease.shown (written_so scene so old) v.decides.looked
    wrote_written = wrote_shown lease scene so old v.decides.looked shows_written

    abbrev pub silent_with : told.commits ≡ [] → StandsWith table scene marks so (action.Vsync report) new
    silent_with none = record {
      later = so;
      happens = subst (λ (b : Bool). VsyncHappens scene b report new so so) (sym (ap has_commits (commits ∙ none))) refl;
      stands = stands_silent lease frames table scene so old new report.seen told stands v none;
      rights = rights_now so refl;
      queues = marks_now;
    }

    pub some_commit : (c : Commit) (cs : List Commit) → told.commits ≡ c ∷ cs → told.commits ≢ []
    some_commit c cs are none = cc (are, none)

    abbrev pub shown_with : (c : Commit) (cs : List Commit) → told.commits ≡ c ∷ cs → report.number ≡ old.vsyncs + 1 → report.expected ≡ (old.vsyncs + 1) * old.period → StandsWith table scene marks so (action.Vsync report) new
    shown_with c cs are number expected =
        let after = shown lease frames table scene so old new report.seen told stands v (some_commit c cs are) wrote_written in
        record {
          later = after;
          happens = subst (λ (b : Bool). VsyncHappens scene b report new so after) (sym (ap has_commits (commits ∙ are)))
              (λ i. record so { events = so.events ++ event.Vsync (vsync_shown scene (sym number i) (sym expected i) report.seen (sym commits i) new.handler.tree) ∷ [] });
          stands = stands_shown lease frames table scene so old new report.seen told stands v (some_commit c cs are) wrote_written;
          rights = rights_now after refl;
          queues = marks_now;
        }

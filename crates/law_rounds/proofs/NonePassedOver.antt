-- An action of a player passes nobody over.
use Rattle.std.proofs.Common.{◌≡◌, ℕ, zero, suc, ◌+◌, ◌*◌, ◌≤◌, Bool, true, false, List, [], ◌∷◌, ◌++◌, length, map, take, refl, ap, sym, ◌∙◌, subst, arith}
use Rattle.std.proofs.lemmas.List.{append-nil, map-append}
use Rattle.atomic_table.specs.Seated.{TableId}
use Rattle.law_waits.specs.Leaving.{LeavesNone}
use Rattle.law_rounds.proofs.ActionCases.{by_action}
use Rattle.law_rounds.proofs.ActionShows.{happens_as, numbered, record_of, reports_more, reports_stay, shows}
use Rattle.law_rounds.proofs.LeavingOn.{leaves_on, still_none}
use Rattle.sf_play.specs.sf_actor.Desks.{DeskHome, DeskView}
use Rattle.sf_play.specs.sf_actor.Known.{frame_of, plain_arrival}
use Rattle.sf_play.specs.sf_actor.Names.{FrameOf}
use Rattle.sf_play.specs.sf_actor.Scripts.{picture_at}
use Rattle.sf_play.specs.sf_actor.Tries.{Tries}
use Rattle.sf_play.specs.sf_actor.declared.tried.Stepped.TheVariants as stepped
use Rattle.sf_play.specs.sf_actor.declared.tried.Stepped.{Stepped}
use Rattle.sf_play.specs.sf_actor.sf_surface.Tokens.{ReadLeaseOf}
use Rattle.sf_play.specs.sf_actor.sf_turns.Views.{SeatView}
use Rattle.sf_play.specs.sf_actor.Plain.{view_of}
use Rattle.sf_play.specs.sf_record.declared.event.VsyncRecords.{VsyncRecords}
use Rattle.sf_play.specs.sf_script_scene.Scene.{SceneValue}
use Rattle.sf_play.specs.sf_token.Pending.{Arrival}
use Rattle.sf_play.specs.sf_play_report.sf_txn.declared.lease.Lease.{Ghosts}
use Rattle.sf_play.proofs.law_played_lemmas.StepKeepsTold.{got_has}
use Rattle.sf_play.specs.law_played.Actors.{arrivals_of}
use Rattle.sf_play.specs.law_played.Commits.{commit_shown}
use Rattle.sf_play.specs.law_played.Framing.{framed_arrival}
use Rattle.sf_play.specs.law_played.Progress.{SaysVsync}
use Rattle.sf_play.specs.law_played.Stages.{told_of}
use Rattle.sf_play.specs.law_played.Vsyncs.{vsyncs_in}
use Rattle.sf_play.proofs.HandlerLeases.{OfFrames}
use Rattle.sf_play.proofs.SeenTimelines.{saw_is, sees_signals}
use Rattle.sf_play.proofs.VsyncKeepsPlayer.{plain, rises, taken_now}
use Rattle.sf_play.specs.Actions.{TakesAction, TakesVsync, TriesStep}
use Rattle.sf_play.specs.Going.{GoesOn}
use Rattle.sf_play.specs.Players.{PlayOf, PlayerOf, SoFar, Stands, home_in, signals_so, taken_at, told_at, view_in, written_so}
use Rattle.sf_play.specs.Playing.{MakesReport}
use Rattle.sf_play.specs.Standing.{StandsInRun}
use Rattle.sf_play.specs.Vsyncing.{MakesVsync}
use Rattle.sf_play.specs.declared.action.Action.TheVariants as action
use Rattle.sf_play.specs.declared.action.Action.{Action}
use Rattle.sf_play.specs.sf_play_report.Reports.{has_commits}
use Rattle.sf_play.specs.sf_play_report.declared.report.VsyncReport.{VsyncReport}

take_front : {X : Type 0} (xs ys : List X) (n : ℕ) → n ≤ length xs → take n (xs ++ ys) ≡ take n xs
take_front [] ys zero low = refl
take_front [] ys (suc n) low = absurd (omega (arith, low))
take_front (x ∷ xs) ys zero low = refl
take_front (x ∷ xs) ys (suc n) low = ap (λ zs. x ∷ zs) (take_front xs ys n (omega (arith, low)))

module _ {B : Type 0} {R C : Type 0} (lease : Ghosts ReadLeaseOf SeatView R C) (frames : OfFrames lease) (table : TableId) (scene : SceneValue) (so : SoFar B) (old new : PlayerOf B) (came_to : Action)
    (stands : StandsInRun table scene so old) (on : GoesOn table scene so came_to new) (none : LeavesNone (taken_at old.play) (told_at scene so old.play)) where
  abbrev NoneNow : List (Arrival FrameOf) → List VsyncRecords → Type 0
  NoneNow taken reports = LeavesNone taken (told_of scene taken reports)

  -- what arrives is not taken yet
  taken_stays : (later : List (Arrival ReadLeaseOf)) → home_in new.play ≡ home_in old.play → (view_in new.play).arrivals ≡ (view_in old.play).arrivals ++ later → taken_at new.play ≡ taken_at old.play
  taken_stays later home joined =
      ap (λ (h : DeskHome). take h.taken (arrivals_of (view_in new.play))) home
      ∙ ap (λ (xs : List (Arrival ReadLeaseOf)). take (home_in old.play).taken (map plain_arrival xs)) joined
      ∙ ap (take (home_in old.play).taken) (map-append plain_arrival (view_in old.play).arrivals later)
      ∙ take_front (map plain_arrival (view_in old.play).arrivals) (map plain_arrival later) (home_in old.play).taken stands.stands.stands.desk.taken

  tried : (place : ℕ) → TriesStep table place so.actors old.play new.play came_to → NoneNow (taken_at new.play) (vsyncs_in on.later.events)
  tried place tries =
      subst (NoneNow (taken_at new.play)) (sym (reports_stay table scene so old new came_to stands on place tries.stepped tries.is))
      (subst (λ (taken : List (Arrival FrameOf)). NoneNow taken (vsyncs_in so.events)) (sym (by_outcome tries.stepped tries.steps.tries)) none)
    where
      by_outcome : (to : Stepped) → Tries (picture_at old.play.actor_set.pictures) (home_in old.play) tries.steps.old (view_in old.play) tries.steps.new (view_in new.play) to → taken_at new.play ≡ taken_at old.play
      by_outcome stepped.Done did =
          let number = numbered table scene so old new came_to stands on tries.steps.old (got_has so.actors place tries.steps.old tries.steps.here) in
          let alone = did.1.alone refl 0 (λ same. omega (arith, same, number)) in
          taken_stays alone.arrivals.later tries.same.home alone.arrivals.joined
      by_outcome stepped.NotYet left = taken_stays [] tries.same.home (left.arrivals ∙ sym (append-nil (view_in old.play).arrivals))
      by_outcome stepped.Ended left = taken_stays [] tries.same.home (ap (λ (v : DeskView B). v.arrivals) left.1 ∙ sym (append-nil (view_in old.play).arrivals))

  stays : new.play ≡ old.play → on.later ≡ so → NoneNow (taken_at new.play) (vsyncs_in on.later.events)
  stays same nothing =
      subst (λ (later : SoFar B). NoneNow (taken_at new.play) (vsyncs_in later.events)) (sym nothing)
      (subst (λ (play : PlayOf B). NoneNow (taken_at play) (vsyncs_in so.events)) (sym same) none)

  module _ (takes : TakesVsync lease table so.actors old new came_to) where
    abbrev report : VsyncReport
    report = takes.report

    abbrev shown : VsyncRecords
    shown = record_of table scene so old new came_to stands on report

    abbrev makes : MakesReport lease table old new report
    makes = takes.makes

    abbrev v : MakesVsync lease table old.play report.seen makes.told new.play
    v = makes.makes

    abbrev before : Stands table scene so old.play
    before = stands.stands.stands

    abbrev all : List (Arrival FrameOf)
    all = taken_at old.play ++ map (framed_arrival frame_of) v.arrived

    says : SaysVsync shown makes.told report.seen ((old.play.vsyncs + 1) * old.play.period)
    says = record {
      commits = ap (map commit_shown) makes.commits;
      due = makes.expected;
      saw = saw_is scene before.of_scene.limits (signals_so scene so old.play) (view_in old.play).times.signals report.seen
          (sees_signals scene before.of_scene.limits so.actors (home_in old.play) (view_in old.play) before.tell.actors (view_of v.looked.desk) report.seen before.tell.signals refl v.sees) shown refl;
    }

    by_shown : (b : Bool) → NoneNow all (vsyncs_in so.events ++ shows table scene so old new came_to stands on b report)
    by_shown true =
        leaves_on lease frame_of (plain lease frames table scene so old.play new.play report.seen makes.told before v) scene (written_so scene so old.play) (taken_at old.play) (vsyncs_in so.events) old.play.handler new.play.handler
        v.took.desk.turns v.decided.desk.turns v.arrived report.seen ((old.play.vsyncs + 1) * old.play.period) makes.told before.vsyncs.played v.decides (rises lease frames table scene so old.play new.play report.seen makes.told before v) none shown says
    by_shown false = subst (NoneNow all) (sym (append-nil (vsyncs_in so.events)))
        (still_none lease frame_of (plain lease frames table scene so old.play new.play report.seen makes.told before v) scene (written_so scene so old.play) (taken_at old.play) (vsyncs_in so.events) old.play.handler new.play.handler
        v.took.desk.turns v.decided.desk.turns v.arrived report.seen ((old.play.vsyncs + 1) * old.play.period) makes.told before.vsyncs.played v.decides (rises lease frames table scene so old.play new.play report.seen makes.told before v) none)

    vsync : NoneNow (taken_at new.play) (vsyncs_in on.later.events)
    vsync =
        subst (λ (taken : List (Arrival FrameOf)). NoneNow taken (vsyncs_in on.later.events)) (sym (taken_now lease frames table scene so old.play new.play report.seen makes.told before v))
        (subst (NoneNow all) (sym (reports_more table scene so old new came_to stands on report (has_commits report.commits) (happens_as table scene so old new came_to stands on (action.Vsync report) takes.is)))
        (by_shown (has_commits report.commits)))

  -- no vsync passes over an arrival after an action
  pub action_passes_none : TakesAction lease table so.actors old new came_to → LeavesNone (taken_at new.play) (told_at scene on.later new.play)
  action_passes_none = by_action lease table so.actors old new came_to (NoneNow (taken_at new.play) (vsyncs_in on.later.events)) tried vsync
      (λ is same. stays same (happens_as table scene so old new came_to stands on action.Idle is)) (λ is same. stays same (happens_as table scene so old new came_to stands on action.End is))

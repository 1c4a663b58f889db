-- What an action of a player leaves in one order.
use Rattle.std.proofs.Common.{◌≡◌, ℕ, zero, suc, pred, ◌≤◌, Bool, true, false, List, length, map, Contains, ap, sym, ◌∙◌, subst, arith}
use Rattle.std.proofs.lemmas.List.Elements.{All-contains, Contains-append_right}
use Rattle.atomic_table.specs.Seated.{TableId}
use Rattle.law_rounds.specs.OrderSoFar.{IsOrderedSoFar}
use Rattle.law_rounds.specs.Rounds.{come_so, happened_so}
use Rattle.law_rounds.specs.Shown.{come_to, shown_of}
use Rattle.law_rounds.proofs.ActionCases.{by_action}
use Rattle.law_rounds.proofs.ActionShows.{happens_as, numbered, record_of, reports_more, reports_stay, shows}
use Rattle.law_rounds.proofs.ActorsInOrder.{tried_in_order}
use Rattle.law_rounds.proofs.VsyncInOrder.{arrivals_new, vsync_in_order}
use Rattle.sf_play.specs.sf_actor_set.ActorSets.{KeepAs}
use Rattle.sf_play.specs.sf_actor.Known.{plain_arrival}
use Rattle.sf_play.specs.sf_actor.Scripts.{picture_at}
use Rattle.sf_play.specs.sf_actor.sf_surface.Tokens.{ReadLeaseOf}
use Rattle.sf_play.specs.sf_actor.sf_turns.Views.{SeatView}
use Rattle.sf_play.specs.sf_record.declared.event.VsyncRecords.{VsyncRecords}
use Rattle.sf_play.specs.sf_record.declared.record.CommitRecord.{CommitRecord}
use Rattle.sf_play.specs.sf_script_scene.Scene.{SceneValue}
use Rattle.sf_play.specs.sf_script_scene.sf_picture.declared.picture.Picture.{Picture}
use Rattle.sf_play.specs.sf_token.Pending.{Arrival}
use Rattle.sf_play.specs.sf_play_report.sf_txn.declared.lease.Lease.{Ghosts}
use Rattle.sf_play.proofs.law_played_lemmas.Members.{has_joined}
use Rattle.sf_play.proofs.law_played_lemmas.StepKeepsTold.{got_has}
use Rattle.sf_play.specs.law_played.Actors.{arrivals_of, run_of}
use Rattle.sf_play.specs.law_played.Vsyncs.{commits_in, commits_of_vsync, vsyncs_in}
use Rattle.law_waits.proofs.LeavingLemmas.{IsUpTo, commits_low}
use Rattle.sf_play.specs.Actions.{TakesAction, TakesVsync, TriesStep}
use Rattle.sf_play.specs.Going.{GoesOn}
use Rattle.sf_play.specs.Players.{PlayOf, PlayerOf, SoFar, home_in, view_in}
use Rattle.sf_play.specs.Standing.{StandsInRun}
use Rattle.sf_play.specs.declared.action.Action.TheVariants as action
use Rattle.sf_play.specs.declared.action.Action.{Action}
use Rattle.sf_play.specs.sf_play_report.Reports.{has_commits}
use Rattle.sf_play.specs.sf_play_report.declared.report.VsyncReport.{VsyncReport}

module _ {B : Type 0} {R C : Type 0} (lease : Ghosts ReadLeaseOf SeatView R C) (table : TableId) (scene : SceneValue) (so : SoFar B) (old new : PlayerOf B) (came_to : Action)
    (stands : StandsInRun table scene so old) (on : GoesOn table scene so came_to new) (tells : Bool) (ordered : IsOrderedSoFar tells (come_so old.play) (happened_so scene so old.play)) where
  abbrev IsNow : List VsyncRecords → Type 0
  IsNow reports = IsOrderedSoFar tells (come_so new.play) (shown_of scene (run_of on.later.actors (home_in new.play) (view_in new.play)) (arrivals_of (view_in new.play)) reports)

  tried : (place : ℕ) → TriesStep table place so.actors old.play new.play came_to → IsNow (vsyncs_in on.later.events)
  tried place tries =
      let standing = stands.stands.stands in
      let pictures = old.play.actor_set.pictures in
      let keep = subst (λ (ps : List Picture). KeepAs table (picture_at ps) (home_in old.play) (view_in old.play) old.play.actor_set.actors so.actors) (sym standing.of_scene.pictures) standing.keep in
      let is = tried_in_order table scene (picture_at pictures) place old.play.actor_set.actors new.play.actor_set.actors so.actors old.play.actor_set.desk new.play.actor_set.desk tries.stepped keep
      standing.tell.actors.apart tries.steps tries.same.home old.play.vsyncs (vsyncs_in so.events) tells (pred tries.steps.old.script.number) on.later.actors
      (numbered table scene so old new came_to stands on tries.steps.old (got_has so.actors place tries.steps.old tries.steps.here)) ordered in
      subst IsNow (sym (reports_stay table scene so old new came_to stands on place tries.stepped tries.is))
      (subst (λ (n : ℕ). IsOrderedSoFar tells (come_to n new.play.actor_set.actors)
      (shown_of scene (run_of on.later.actors (home_in new.play) (view_in new.play)) (arrivals_of (view_in new.play)) (vsyncs_in so.events))) (sym (ap (λ (p : PlayOf B). p.vsyncs) tries.rest)) is)

  stays : new.play ≡ old.play → on.later ≡ so → IsNow (vsyncs_in on.later.events)
  stays same none =
      subst (λ (later : SoFar B). IsOrderedSoFar tells (come_so new.play) (shown_of scene (run_of later.actors (home_in new.play) (view_in new.play)) (arrivals_of (view_in new.play)) (vsyncs_in later.events))) (sym none)
      (subst (λ (p : PlayOf B). IsOrderedSoFar tells (come_so p) (happened_so scene so p)) (sym same) ordered)

  -- what commits of vsyncs commit has arrived
  arrived : (at : VsyncRecords) (commit : CommitRecord) → Contains (vsyncs_in on.later.events) at → Contains at.commits commit → commit.arrival ≤ length (arrivals_of (view_in new.play))
  unfolding commits_in
  arrived at commit there has =
      let standing = on.stands.stands.stands in
      let played = standing.vsyncs.played in
      let all = commits_low _ new.play.handler.last (commits_in (vsyncs_in on.later.events)) played.order.rising played.order.of_arrivals in
      let low = All-contains (IsUpTo new.play.handler.last) (commits_in (vsyncs_in on.later.events)) commit all (has_joined commits_of_vsync (vsyncs_in on.later.events) at commit there has) in
      let last = standing.vsyncs.last in
      let taken = standing.desk.taken in
      omega (arith, low, last, taken)

  abbrev shows_of : Bool → VsyncReport → List VsyncRecords
  shows_of = shows table scene so old new came_to stands on

  shown_is : (report : VsyncReport) (b : Bool) (at : VsyncRecords) → Contains (shows_of b report) at → record_of table scene so old new came_to stands on report ≡ at
  shown_is report true at (zero, low, same) = same
  shown_is report true at (suc n, low, same) = absurd (omega (arith, low))
  shown_is report false at there = absurd (omega (arith, there.1))

  vsync : TakesVsync lease table so.actors old new came_to → IsNow (vsyncs_in on.later.events)
  vsync takes =
      let report = takes.report in
      let b = has_commits report.commits in
      let more = reports_more table scene so old new came_to stands on report b (happens_as table scene so old new came_to stands on (action.Vsync report) takes.is) in
      let same = arrivals_new lease table old.play new.play report.seen takes.makes.told takes.makes.makes in
      subst IsNow (sym more)
      (vsync_in_order lease table old.play new.play report.seen takes.makes.told takes.makes.makes scene so.actors (vsyncs_in so.events) (shows_of b report)
      (λ at there. ap (λ (v : VsyncRecords). v.number) (sym (shown_is report b at there)) ∙ takes.makes.number)
      (λ at commit there has. let low = arrived at commit (subst (λ (vs : List VsyncRecords). Contains vs at) (sym more) (Contains-append_right (vsyncs_in so.events) (shows_of b report) at there)) has in
      subst (λ (xs : List (Arrival ReadLeaseOf)). commit.arrival ≤ length (map plain_arrival xs)) same low)
      tells on.later.actors ordered)

  -- an action leaves all that happened in one order
  pub action_in_order : TakesAction lease table so.actors old new came_to → IsOrderedSoFar tells (come_so new.play) (happened_so scene on.later new.play)
  action_in_order = by_action lease table so.actors old new came_to (IsNow (vsyncs_in on.later.events)) tried vsync (λ is same. stays same (happens_as table scene so old new came_to stands on action.Idle is)) (λ is same. stays same (happens_as table scene so old new came_to stands on action.End is))

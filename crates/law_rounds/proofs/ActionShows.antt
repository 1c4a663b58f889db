-- What an action of a player shows of its vsyncs.
use Rattle.std.proofs.Common.{◌≡◌, ℕ, zero, suc, pred, ◌≤◌, Bool, true, false, List, [], ◌∷◌, ◌++◌, Contains, refl, ap, sym, ◌∙◌, subst, arith}
use Rattle.std.specs.Prelude.{if◌then◌else◌, map}
use Rattle.std.proofs.lemmas.List.{append-nil}
use Rattle.std.proofs.lemmas.List.Concat.{flat_map-append}
use Rattle.std.proofs.lemmas.List.Elements.{All-contains}
use Rattle.std.proofs.lemmas.List.Sorted.{Contains-permutation, IsPermutation-sym}
use Rattle.atomic_table.specs.Seated.{TableId}
use Rattle.sf_play.specs.sf_actor.Tries.{ActorOf}
use Rattle.sf_play.specs.sf_actor.declared.tried.Stepped.TheVariants as stepped
use Rattle.sf_play.specs.sf_actor.declared.tried.Stepped.{Stepped}
use Rattle.sf_play.specs.sf_record.declared.event.VsyncRecords.{VsyncRecords}
use Rattle.sf_play.specs.sf_script_scene.Limits.{IsActor, most_actors}
use Rattle.sf_play.specs.sf_script_scene.Scene.{SceneValue}
use Rattle.sf_play.proofs.law_played_lemmas.Members.{has_map}
use Rattle.sf_play.specs.law_played.Actors.{script_of}
use Rattle.sf_play.specs.law_played.Vsyncs.{vsync_in, vsyncs_in}
use Rattle.sf_play.specs.Actions.{action_by}
use Rattle.sf_play.specs.Going.{GoesOn}
use Rattle.sf_play.specs.Happening.{Happens, VsyncHappens}
use Rattle.sf_play.specs.Players.{PlayerOf, SoFar}
use Rattle.sf_play.specs.Showing.{vsync_shown}
use Rattle.sf_play.specs.Standing.{StandsInRun}
use Rattle.sf_play.specs.declared.action.Action.TheVariants as action
use Rattle.sf_play.specs.declared.action.Action.{Action}
use Rattle.sf_play.specs.sf_play_report.declared.report.VsyncReport.{VsyncReport}

module _ {B : Type 0} (table : TableId) (scene : SceneValue) (so : SoFar B) (old new : PlayerOf B) (came_to : Action) (stands : StandsInRun table scene so old) (on : GoesOn table scene so came_to new) where
  abbrev pub happens_as : (to : Action) → came_to ≡ to → Happens scene to new.play so on.later
  happens_as to is = subst (λ (a : Action). Happens scene a new.play so on.later) is on.happens

  -- the try of a step shows no vsync
  pub reports_stay : (place : ℕ) (outcome : Stepped) → came_to ≡ action_by place outcome → vsyncs_in on.later.events ≡ vsyncs_in so.events
  unfolding vsyncs_in
  reports_stay place stepped.Done is =
      let did = happens_as (action.Step place) is in
      ap (λ (later : SoFar B). vsyncs_in later.events) did.is ∙ flat_map-append vsync_in so.events _ ∙ append-nil (vsyncs_in so.events)
  reports_stay place stepped.NotYet is = ap (λ (later : SoFar B). vsyncs_in later.events) (happens_as action.Idle is)
  reports_stay place stepped.Ended is = ap (λ (later : SoFar B). vsyncs_in later.events) (happens_as action.Idle is)

  -- no actor has the compositor's number
  pub numbered : (of : ActorOf B) → Contains so.actors of → of.script.number ≡ suc (pred of.script.number)
  numbered of there =
      let standing = stands.stands.stands in
      let declared = Contains-permutation (map script_of so.actors) scene.actors of.script (IsPermutation-sym scene.actors (map script_of so.actors) standing.tell.actors.scripts) (has_map script_of so.actors of there) in
      let is = All-contains (IsActor (most_actors scene.version)) scene.actors of.script standing.of_scene.limits.actors.each declared in
      above of.script.number is.low
    where
      above : (n : ℕ) → 1 ≤ n → n ≡ suc (pred n)
      above zero low = absurd (omega (arith, low))
      above (suc n) low = refl

  -- a vsync shows what it committed
  abbrev pub record_of : VsyncReport → VsyncRecords
  record_of report = vsync_shown scene report.number report.expected report.seen report.commits new.play.handler.tree

  abbrev pub shows : Bool → VsyncReport → List VsyncRecords
  shows b report = if b then record_of report ∷ [] else []

  pub reports_more : (report : VsyncReport) (b : Bool) → VsyncHappens scene b report new.play so on.later → vsyncs_in on.later.events ≡ vsyncs_in so.events ++ shows b report
  unfolding vsyncs_in
  reports_more report true is = ap (λ (later : SoFar B). vsyncs_in later.events) is ∙ flat_map-append vsync_in so.events _
  reports_more report false is = ap (λ (later : SoFar B). vsyncs_in later.events) is ∙ sym (append-nil (vsyncs_in so.events))

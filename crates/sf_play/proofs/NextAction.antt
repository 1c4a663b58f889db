-- What the next action of a player tells, from what its parts ensure.
use Rattle.std.proofs.Common.{◌≡◌, true, false, List, sym, subst, arith}
use Rattle.atomic_table.specs.Seated.{TableId}
use Rattle.sf_picture.specs.declared.picture.Picture.{Picture}
use Rattle.sf_play_report.specs.sf_surface.Tokens.{Issued, ReadLeaseOf}
use Rattle.sf_play_report.specs.sf_turns.Views.{SeatView}
use Rattle.sf_play_report.specs.sf_txn.declared.lease.Lease.{Ghosts}
use Rattle.sf_script_scene.specs.Scene.{SceneValue}
use Rattle.sf_play_report.specs.sf_actor.Plain.{home_of, view_of}
use Rattle.sf_play_report.specs.sf_actor.Scripts.{picture_at}
use Rattle.sf_play_report.specs.sf_actor.Tries.{ActorOf}
use Rattle.law_rights.specs.sf_actor_set.ActorSets.{KeepAs}
use Rattle.law_rights.specs.Vsyncs.{IsOfTurns}
use Rattle.sf_play.proofs.ActionGrowth.{goes_along, goes_on, leaves_less, same_order}
use Rattle.sf_play.proofs.PlacesTold.{tells_on}
use Rattle.sf_play.proofs.HandlerLeases.{OfFrames}
use Rattle.sf_play.proofs.PlayLedger.{TellsAll}
use Rattle.sf_play.proofs.ActionParts.{actions_freed}
use Rattle.sf_play.specs.Going.{GoesAlong, GoesOn, LeavesLess}
use Rattle.sf_play.specs.Places.{settled}
use Rattle.sf_play.specs.Players.{PlayerOf, SoFar, home_in}
use Rattle.sf_play.specs.Playing.{KeepsItself, MayMakeVsync}
use Rattle.sf_play.specs.Standing.{IsPlayer, IsStanding, StandsAlong, StandsInRun}
use Rattle.sf_play.specs.Actions.{KeepsActorSet, TakesAction, TakesActionAt}
use Rattle.sf_play.specs.declared.place.Place.{Place}
use Rattle.sf_play.specs.declared.action.Action.{Action}

module _ {B : Type 0} {R C : Type 0} (lease : Ghosts ReadLeaseOf SeatView R C) (table : TableId) where
  -- what the parts of one player keep, those of the same one do
  pub keeps_as : (one other : PlayerOf B) → one ≡ other → KeepsItself lease table other.play → KeepsItself lease table one.play
  keeps_as one other same keeps = subst (λ (p : PlayerOf B). KeepsItself lease table p.play) (sym same) keeps

module _ {B : Type 0} (table : TableId) (player : PlayerOf B) where
  -- the number of its next vsync fits
  pub may_make : IsStanding table player → MayMakeVsync table player.play
  may_make is = record { scene = is.scene; so = is.so; stands = is.stands.stands.stands; early = (let early = is.stands.stands.early in omega (arith, early)) }

module _ {B : Type 0} (lease : Ghosts ReadLeaseOf SeatView ReadLeaseOf Issued) (table : TableId) (inside later : PlayerOf B) (came_to : Action) (place : Place) (there : place ≡ settled inside.play.order inside.place) (free : inside.is_spent ≡ false)
    (acts : (ofs : List (ActorOf B)) → KeepsActorSet table inside.play ofs → TakesActionAt lease table ofs place (record inside { is_spent = true }) later came_to) where
  abbrev pub freed : PlayerOf B
  freed = record later { is_spent = false }

  -- it was not spent, and is not
  pub turned : (ofs : List (ActorOf B)) → KeepsActorSet table inside.play ofs → TakesAction lease table ofs inside freed came_to
  turned ofs keep =
      actions_freed lease table ofs (settled inside.play.order inside.place) inside later true false came_to free
      (subst (λ (p : Place). TakesActionAt lease table ofs p (record inside { is_spent = true }) later came_to) there (acts ofs keep))

  module _ (frames : OfFrames lease) (of_turns : IsOfTurns lease) (tells : TellsAll lease) (keeps : KeepsItself lease table inside.play) (keeps_now : KeepsItself lease table later.play) where
    action_of : (scene : SceneValue) (so : SoFar B) → StandsInRun table scene so inside → TakesAction lease table so.actors inside freed came_to
    action_of scene so was =
        turned so.actors (subst (λ (pictures : List Picture). KeepAs table (picture_at pictures) (home_of inside.play.actor_set.desk) (view_of inside.play.actor_set.desk) inside.play.actor_set.actors so.actors)
        (sym was.stands.stands.of_scene.pictures) was.stands.stands.keep)

    pub goes : (scene : SceneValue) (so : SoFar B) → StandsInRun table scene so inside → GoesOn table scene so came_to freed
    goes scene so was = goes_on lease frames of_turns tells table scene so inside freed came_to keeps keeps_now (action_of scene so was) was

    pub goes_with : (scene : SceneValue) (so : SoFar B) → StandsAlong table scene so inside → GoesAlong table scene so came_to freed
    goes_with scene so was = goes_along lease frames of_turns tells table scene so inside freed came_to keeps keeps_now (action_of scene so was.in_run) was

    pub less : IsStanding table inside → LeavesLess came_to inside freed
    less is =
        let action = action_of is.scene is.so is.stands in
        leaves_less lease table is.scene is.so inside freed is.stands.stands.stands
        (same_order lease frames of_turns tells table is.scene is.so inside freed came_to keeps keeps_now action is.stands) came_to action

    pub told : IsStanding table inside → (home_in freed.play).tells ≡ (home_in inside.play).tells
    told is = tells_on lease table is.so.actors came_to inside freed (action_of is.scene is.so is.stands)

    pub stays : IsStanding table inside → IsPlayer table freed
    stays is =
        let on = goes is.scene is.so is.stands in
        record { unlent = on.stands.stands.stands.of_scene.unlent; stands = λ unspent. record { scene = is.scene; so = on.later; stands = on.stands } }

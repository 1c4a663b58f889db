-- An action of a player tries a step, makes a vsync, or leaves the play as it is.
use Rattle.std.proofs.Common.{◌≡◌, ℕ, zero, suc, Bool, true, false, List, Option, Some, None, ap}
use Rattle.atomic_table.specs.Seated.{TableId}
use Rattle.sf_play.specs.sf_actor.Tries.{ActorOf}
use Rattle.sf_play.specs.sf_actor.sf_surface.Tokens.{ReadLeaseOf}
use Rattle.sf_play.specs.sf_actor.sf_turns.Views.{SeatView}
use Rattle.sf_play.specs.sf_play_report.sf_txn.declared.lease.Lease.{Ghosts}
use Rattle.sf_play.specs.Actions.{Picks, RoundsIf, TakesAction, TakesActionAt, TakesVsync, TriesIf, TriesStep}
use Rattle.sf_play.specs.Places.{settled}
use Rattle.sf_play.specs.Players.{PlayerOf}
use Rattle.sf_play.specs.declared.action.Action.TheVariants as action
use Rattle.sf_play.specs.declared.action.Action.{Action}
use Rattle.sf_play.specs.declared.place.Place.TheVariants as at
use Rattle.sf_play.specs.declared.place.Place.{Place}

module _ {B : Type 0} {R C : Type 0} (lease : Ghosts ReadLeaseOf SeatView R C) (table : TableId) (ofs : List (ActorOf B)) (old new : PlayerOf B) (came_to : Action) (Then : Type 0)
    (tried : (place : ℕ) → TriesStep table place ofs old.play new.play came_to → Then) (vsync : TakesVsync lease table ofs old new came_to → Then)
    (idle : came_to ≡ action.Idle → new.play ≡ old.play → Then) (ended : came_to ≡ action.End → new.play ≡ old.play → Then) where
  tries_if : (o : Option ℕ) → TriesIf lease table ofs o old.play new.play came_to → Then
  tries_if None tries = idle tries.0 tries.1
  tries_if (Some place) tries = tried place tries

  by_place : (place : Place) → TakesActionAt lease table ofs place old new came_to → Then
  by_place (at.Order place done) takes = by_pick takes.pick.actor takes.picks
    where
      by_pick : (number : ℕ) → Picks lease table ofs number old new came_to → Then
      by_pick zero picks = vsync picks
      by_pick (suc n) picks = tries_if _ picks.0
  by_place (at.Round place stepped) takes = by_round _ takes
    where
      by_round : (b : Bool) → RoundsIf lease table ofs b place stepped old new came_to → Then
      by_round true goes = tried place goes.tries
      by_round false ends = vsync ends.vsync
  by_place at.End takes = ended takes.0 (ap (λ (p : PlayerOf B). p.play) takes.1)

  pub by_action : TakesAction lease table ofs old new came_to → Then
  by_action takes = by_place (settled old.play.order old.place) takes

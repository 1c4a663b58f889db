-- An action of a player leaves all that it has shown in one order, and passes nobody over.
use Rattle.std.proofs.Common.{Bool}
use Rattle.atomic_table.specs.Seated.{TableId}
use Rattle.law_rounds.specs.Rounds.{IsInOrder}
use Rattle.law_rounds.proofs.ActionInOrder.{action_in_order}
use Rattle.law_rounds.proofs.NonePassedOver.{action_passes_none}
use Rattle.sf_play.specs.sf_actor.sf_surface.Tokens.{ReadLeaseOf}
use Rattle.sf_play.specs.sf_actor.sf_turns.Views.{SeatView}
use Rattle.sf_play.specs.sf_play_report.sf_txn.declared.lease.Lease.{Ghosts}
use Rattle.sf_play.specs.sf_script_scene.Scene.{SceneValue}
use Rattle.sf_play.proofs.HandlerLeases.{OfFrames}
use Rattle.sf_play.specs.Actions.{TakesAction}
use Rattle.sf_play.specs.Going.{GoesOn}
use Rattle.sf_play.specs.Players.{PlayerOf, SoFar}
use Rattle.sf_play.specs.Standing.{StandsInRun}
use Rattle.sf_play.specs.declared.action.Action.{Action}

pub keeps_order : {B : Type 0} {R C : Type 0} (lease : Ghosts ReadLeaseOf SeatView R C) (frames : OfFrames lease) (table : TableId) (scene : SceneValue) (so : SoFar B) (old new : PlayerOf B) (came_to : Action) (tells : Bool)
    → StandsInRun table scene so old → TakesAction lease table so.actors old new came_to → (on : GoesOn table scene so came_to new) → IsInOrder tells scene so old.play → IsInOrder tells scene on.later new.play
keeps_order lease frames table scene so old new came_to tells stands takes on was = record {
  order = action_in_order lease table scene so old new came_to stands on tells was.order takes;
  none = action_passes_none lease frames table scene so old new came_to stands on was.none takes;
}

-- What a player has shown, and how far each has come in it.
use Rattle.std.specs.Prelude.{ℕ, Bool}
use Rattle.atomic_table.specs.Seated.{TableId}
use Rattle.law_order.specs.Order.{Happened, InOneOrder}
use Rattle.law_waits.specs.Leaving.{LeavesNone}
use Rattle.law_rounds.specs.OrderSoFar.{IsOrderedSoFar}
use Rattle.law_rounds.specs.Shown.{come_to, shown_of}
use Rattle.sf_play.specs.law_played.Vsyncs.{vsyncs_in}
use Rattle.sf_play.specs.sf_script_scene.Scene.{SceneValue}
use Rattle.sf_play.specs.sf_actor.sf_surface.Tokens.{Issued, ReadLeaseOf}
use Rattle.sf_play.specs.sf_actor.sf_turns.Views.{SeatView}
use Rattle.sf_play.specs.sf_play_report.sf_txn.declared.lease.Lease.{Ghosts}
use Rattle.sf_play.specs.Actions.{TakesAction}
use Rattle.sf_play.specs.Going.{GoesOn}
use Rattle.sf_play.specs.Players.{PlayOf, PlayerOf, SoFar, arrived_at, run_so, taken_at, told_at}
use Rattle.sf_play.specs.Standing.{StandsInRun}
use Rattle.sf_play.specs.declared.action.Action.{Action}

module _ {B : Type 0} where
  -- the calls, the arrivals and the vsyncs that a player has shown
  abbrev pub happened_so : SceneValue → SoFar B → PlayOf B → Happened
  happened_so scene so play = shown_of scene (run_so so play) (arrived_at play) (vsyncs_in so.events)

  -- how far each has come
  abbrev pub come_so : PlayOf B → ℕ → ℕ
  come_so play = come_to play.vsyncs play.actor_set.actors

  -- What a player has shown is in one order, up to how far each has come, and no vsync of it passes over an arrival.
  pub record IsInOrder (tells : Bool) (scene : SceneValue) (so : SoFar B) (play : PlayOf B) : Type 0 where
    pub order : IsOrderedSoFar tells (come_so play) (happened_so scene so play)
    pub none : LeavesNone (taken_at play) (told_at scene so play)

-- where what a player over these buffers has shown is in one order, it is so up to how far each has come
abbrev pub ComesSoFar : Type 0 → Type 0
ComesSoFar B = (table : TableId) (scene : SceneValue) (so : SoFar B) (player : PlayerOf B) (tells : Bool) → StandsInRun table scene so player
    → InOneOrder tells (happened_so scene so player.play) → IsOrderedSoFar tells (come_so player.play) (happened_so scene so player.play)

-- what such a player has shown is still in order after an action
abbrev pub KeepsOrder : (B : Type 0) → Ghosts ReadLeaseOf SeatView ReadLeaseOf Issued → Type 0
KeepsOrder B lease =
    (table : TableId) (scene : SceneValue) (so : SoFar B) (old new : PlayerOf B) (came_to : Action) (tells : Bool)
    → StandsInRun table scene so old → TakesAction lease table so.actors old new came_to
    → (on : GoesOn table scene so came_to new) → IsInOrder tells scene so old.play → IsInOrder tells scene on.later new.play

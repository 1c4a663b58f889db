-- What happened by an action of a play, and what stands then.
use Rattle.std.specs.Prelude.{◌≡◌, ℕ, ◌+◌, ◌<◌, Bool, true, false, List, [], ◌∷◌, ◌++◌, Some, slice_get, slice_set}
use Rattle.atomic_table.specs.Seated.{TableId}
use Rattle.sf_script_scene.specs.Scene.{SceneValue}
use Rattle.sf_play_report.specs.sf_actor.declared.tried.Reply.{Reply}
use Rattle.sf_play_report.specs.sf_actor.Tries.{ActorOf}
use Rattle.law_rights.specs.sf_actor_steps.declared.actor.Actor.{Actor}
use Rattle.sf_play_report.specs.sf_record.declared.event.Event.TheVariants as event
use Rattle.sf_play_report.specs.law_played.Replies.{reply_shown}
use Rattle.sf_play.specs.Ending.{RestsAt}
use Rattle.sf_play.specs.Fuel.{vsyncs_left}
use Rattle.sf_play.specs.Players.{PlayOf, PlayerOf, SoFar, Stands}
use Rattle.sf_play.specs.Showing.{vsync_shown}
use Rattle.sf_play_report.specs.Reports.{has_commits}
use Rattle.sf_play_report.specs.declared.report.VsyncReport.{VsyncReport}
use Rattle.sf_play.specs.declared.action.Action.{Action}
use Rattle.sf_play.specs.declared.action.Action.TheVariants as action

module _ {B : Type 0} where
  -- the actor at a place did a step, and its reply is shown, which is its last one
  pub record DidStep (place : ℕ) (play : PlayOf B) (so later : SoFar B) : Type 0 where
    pub of : ActorOf B
    pub reply : Reply
    pub actor : Actor B
    pub there : slice_get play.actor_set.actors place ≡ Some actor
    pub earlier : List Reply
    pub replies : actor.replies.items ≡ earlier ++ reply ∷ []
    pub is : later ≡ record { actors = slice_set so.actors place of; events = so.events ++ event.Reply (reply_shown reply) ∷ [] }

  -- a vsync is shown if something was committed in it, or rejected as a whole
  abbrev pub VsyncHappens : SceneValue → Bool → VsyncReport → PlayOf B → SoFar B → SoFar B → Type 0
  VsyncHappens scene true report play so later =
      later ≡ record so { events = so.events ++ event.Vsync (vsync_shown scene report.number report.expected report.seen report.commits play.handler.tree) ∷ [] }
  VsyncHappens scene false report play so later = later ≡ so

  abbrev pub Happens : SceneValue → Action → PlayOf B → SoFar B → SoFar B → Type 0
  Happens scene (action.Step place) play so later = DidStep place play so later
  Happens scene (action.Vsync report) play so later = VsyncHappens scene (has_commits report.commits) report play so later
  Happens scene other play so later = later ≡ so

  -- a player stands; those that were tried in a round in which no step was done rest; and the numbers of all vsyncs to come fit
  pub record StandsAt (table : TableId) (scene : SceneValue) (so : SoFar B) (player : PlayerOf B) : Type 0 where
    pub stands : Stands table scene so player.play
    pub rests : RestsAt scene so player player.place
    pub early : player.play.vsyncs + vsyncs_left player.play.order player.play player.place < 4294967295

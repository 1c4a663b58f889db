-- What an action of a player says to who shows it: it goes on with a run of the scene, up to its end, and along with the scene's play.
use Rattle.std.specs.Prelude.{◌≡◌, ℕ, ◌<◌, true, List, All}
use Rattle.atomic_table.specs.Seated.{TableId}
use Rattle.sf_script_scene.specs.Scene.{SceneValue}
use Rattle.sf_play_report.specs.sf_actor.Scripts.{picture_at}
use Rattle.sf_play_report.specs.sf_record.Fitting.{RecordFits}
use Rattle.sf_play_report.specs.sf_record.declared.record.Record.{Record}
use Rattle.sf_play_report.specs.law_played.Ends.{ArePlayRecords}
use Rattle.sf_play_report.specs.law_played.Frames.{plan_of}
use Rattle.sf_play_report.specs.law_played.Played.{FitsWhere, records_of}
use Rattle.law_play_order.specs.Happening.{HappenedInOrder}
use Rattle.sf_play_report.specs.Stages.{AreExpected, IsStage}
use Rattle.sf_play.specs.Ending.{shows_at_end}
use Rattle.sf_play.specs.Fuel.{fuel}
use Rattle.sf_play.specs.Happening.{Happens}
use Rattle.sf_play.specs.Players.{PlayOf, PlayerOf, SoFar, arrived_at, home_in, run_so}
use Rattle.sf_play.specs.Playing.{expected_by}
use Rattle.sf_play.specs.Standing.{StandsAlong, StandsInRun}
use Rattle.sf_play.specs.declared.place.Place.TheVariants as at
use Rattle.sf_play.specs.declared.action.Action.{Action}
use Rattle.sf_play.specs.declared.action.Action.TheVariants as action

module _ {B : Type 0} where
  -- What a vsync leaves to be shown: the stage, whose buffers have the scene's pictures.
  pub record TellsStage (scene : SceneValue) (play : PlayOf B) : Type 0 where
    pub stage : IsStage expected_by (plan_of scene) play.handler
    pub expected : AreExpected expected_by (picture_at scene.pictures) play.handler

  -- the records of a player that has shown this much and is at its end
  abbrev pub records_so : SceneValue → SoFar B → PlayerOf B → List Record
  records_so scene so player = records_of scene (shows_at_end scene so player)

  -- At its end the records of a player are those of the scene's play, and mean what a played run means, in order, where their
  -- numbers fit their fields.
  pub record EndsPlay (scene : SceneValue) (so : SoFar B) (player : PlayerOf B) : Type 0 where
    pub are : ArePlayRecords scene (records_so scene so player)
    pub means : All RecordFits (records_so scene so player) → HappenedInOrder true scene (records_so scene so player)

  -- at its end what a player has shown fits the run of its actors, where its desk reports places or not
  abbrev pub EndsRun : SceneValue → SoFar B → PlayerOf B → Type 0
  EndsRun scene so player = FitsWhere (home_in player.play).tells scene (shows_at_end scene so player) (run_so so player.play) (arrived_at player.play)

  -- what an action says beside what happened: a vsync its stage, and the end what is then
  abbrev pub Tells : (SoFar B → PlayerOf B → Type 0) → SceneValue → Action → SoFar B → PlayerOf B → Type 0
  Tells Ends scene (action.Vsync report) so player = TellsStage scene player.play
  Tells Ends scene action.End so player = Ends so player
  Tells Ends scene other so player = Unit {0}

  -- an action goes on with a run of the scene: this much has happened since, and the player stands in the run with it
  pub record GoesOn (table : TableId) (scene : SceneValue) (so : SoFar B) (came_to : Action) (new : PlayerOf B) : Type 0 where
    pub later : SoFar B
    pub happens : Happens scene came_to new.play so later
    pub tells : Tells (EndsRun scene) scene came_to later new
    pub stands : StandsInRun table scene later new

  -- an action goes along with the play of the scene: this much has happened since, and the player stands along with it
  pub record GoesAlong (table : TableId) (scene : SceneValue) (so : SoFar B) (came_to : Action) (new : PlayerOf B) : Type 0 where
    pub later : SoFar B
    pub happens : Happens scene came_to new.play so later
    pub tells : Tells (EndsPlay scene) scene came_to later new
    pub stands : StandsAlong table scene later new

  -- how much is left of a player's play
  abbrev pub fuel_of : PlayerOf B → ℕ
  fuel_of player = fuel player.play.order player.play player.place

  -- each action leaves less of a play, up to its end, at which an action does nothing
  abbrev pub LeavesLess : Action → PlayerOf B → PlayerOf B → Type 0
  LeavesLess action.End old new = (new ≡ old) × (new.place ≡ at.End)
  LeavesLess other old new = fuel_of new < fuel_of old

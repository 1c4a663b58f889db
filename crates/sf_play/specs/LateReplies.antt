-- A run at its end, and its records with the replies behind the last vsync.
use Rattle.std.specs.Prelude.{◌≡◌, All, List}
use Rattle.atomic_table.specs.Seated.{TableId}
use Rattle.sf_script_scene.specs.Scene.{SceneValue}
use Rattle.sf_play_report.specs.sf_record.Fitting.{RecordFits}
use Rattle.sf_play_report.specs.sf_record.declared.record.Record.{Record}
use Rattle.sf_play_report.specs.law_played.Played.{FitsWhere, PlayedLiveWhere, records_of}
use Rattle.sf_play.specs.Alongs.{DeskKnows}
use Rattle.sf_play.specs.Ending.{shows_late}
use Rattle.sf_play.specs.Going.{EndsRun}
use Rattle.sf_play.specs.Players.{PlayerOf, SoFar, arrived_at, home_in, run_so}
use Rattle.sf_play.specs.Standing.{StandsInRun}
use Rattle.sf_play.specs.declared.place.Place.TheVariants as at

module _ {B : Type 0} where
  -- a player stands in a run at its end, and its desk is the table's and knows all that happened at it
  pub record StandsAtEnd (table : TableId) (scene : SceneValue) (so : SoFar B) (player : PlayerOf B) : Type 0 where
    pub stands : StandsInRun table scene so player
    pub at_end : player.place ≡ at.End
    pub knows : DeskKnows player.play
    pub own : player.play.actor_set.desk.turns.table ≡ table

  -- what was shown, with the replies last, fits the run of the actors
  abbrev pub FitsLate : SceneValue → SoFar B → PlayerOf B → Type 0
  FitsLate scene so player = FitsWhere (home_in player.play).tells scene (shows_late scene so player) (run_so so player.play) (arrived_at player.play)

  -- the records of it
  abbrev pub late_records : SceneValue → SoFar B → PlayerOf B → List Record
  late_records scene so player = records_of scene (shows_late scene so player)

  -- they are those of a live run, where their numbers fit their fields
  abbrev pub IsPlayedLate : SceneValue → SoFar B → PlayerOf B → Type 0
  IsPlayedLate scene so player = All RecordFits (late_records scene so player) → PlayedLiveWhere (home_in player.play).tells scene (late_records scene so player)

-- a run in which a player stands, where what the player has shown at its end fits it
pub record EndedRun (B : Type 0) : Type 0 where
  pub table : TableId
  pub scene : SceneValue
  pub so : SoFar B
  pub player : PlayerOf B
  pub stands : StandsInRun table scene so player
  pub ends : EndsRun scene so player

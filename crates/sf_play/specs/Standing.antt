-- What a player keeps: it stands in a run of its scene, no matter who did the steps before. One that did them all itself stands along
-- with the play of its scene, too, which determines what it shows.
use Rattle.std.specs.Prelude.{◌≡◌, false, true, [], None, map}
use Rattle.atomic_table.specs.Seated.{TableId}
use Rattle.sf_script_scene.specs.Scene.{SceneValue}
use Rattle.sf_play_report.specs.law_played.Actors.{mark_declared}
use Rattle.sf_play_report.specs.law_played.Ends.{held_in}
use Rattle.sf_play_report.specs.law_played.Histories.{rising_queues}
use Rattle.sf_play.specs.Alongs.{PlaysSo, state_so}
use Rattle.sf_play.specs.Happening.{StandsAt}
use Rattle.sf_play.specs.Players.{PlayerOf, SoFar, home_in}
use Rattle.sf_play.specs.Playing.{KeepsRights}
use Rattle.sf_play.specs.declared.place.Place.{Place}
use Rattle.sf_play.specs.declared.place.Place.TheVariants as at

module _ {B : Type 0} where
  -- at its end it holds what the play's last vsync held
  abbrev pub HoldsAt : SceneValue → SoFar B → PlayerOf B → Place → Type 0
  HoldsAt scene so player at.End = player.held ≡ held_in scene (state_so so player.play)
  HoldsAt scene so player other = Unit {0}

  -- A player that has shown this much stands in a run of the scene: at its place, with the ledger of its rights and its queues by
  -- rising number.
  pub record StandsInRun (table : TableId) (scene : SceneValue) (so : SoFar B) (player : PlayerOf B) : Type 0 where
    pub stands : StandsAt table scene so player
    pub rights : KeepsRights table scene so player.play
    pub marks : (home_in player.play).marks ≡ map mark_declared (rising_queues scene)

  -- it has come as far, too, as the play of the scene that showed as much, over a desk that reports places
  pub record StandsAlong (table : TableId) (scene : SceneValue) (so : SoFar B) (player : PlayerOf B) : Type 0 where
    pub in_run : StandsInRun table scene so player
    pub along : PlaysSo scene so player.play player.place
    pub holds : HoldsAt scene so player player.place
    pub told : (home_in player.play).tells ≡ true

  -- it stands in a run of some scene
  pub record IsStanding (table : TableId) (player : PlayerOf B) : Type 0 where
    pub scene : SceneValue
    pub so : SoFar B
    pub stands : StandsInRun table scene so player

  -- what a player keeps of itself
  pub record IsPlayer (table : TableId) (player : PlayerOf B) : Type 0 where
    pub unlent : player.play.handler.lent ≡ None
    pub stands : player.is_spent ≡ false → IsStanding table player

  -- the play of a scene, where nothing happened yet
  pub record Begins (table : TableId) (scene : SceneValue) (player : PlayerOf B) : Type 0 where
    pub so : SoFar B
    pub nothing : so.events ≡ []
    pub stands : StandsAlong table scene so player
    pub first : player.place ≡ at.Order 0 0
    pub none_made : player.play.vsyncs ≡ 0
    pub none_held : player.held ≡ []
    pub unspent : player.is_spent ≡ false

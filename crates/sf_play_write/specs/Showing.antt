-- What the vsyncs of a scene show, and how far a run of it is written.
use Rattle.std.specs.Prelude.{◌≡◌, ℕ, List, Option}
use Rattle.sf_play.specs.sf_script_scene.Scene.{SceneValue}
use Rattle.sf_play.specs.law_played.Frames.{plan_of}
use Rattle.sf_play.specs.law_played.Vsyncs.{rising_timelines}
use Rattle.sf_play.specs.Players.{PlayerOf}
use Rattle.sf_output_screen.specs.declared.screens.OutputScreen.{OutputScreen}
use Rattle.sf_play_write.specs.declared.shows.Shows.{Shows}

-- the vsyncs of this scene show this
pub record IsOfScene (scene : SceneValue) (shows : Shows) : Type 0 where
  pub planned : shows.plan ≡ plan_of scene
  pub rising : shows.timelines.items ≡ rising_timelines scene

-- how far a run is written: what the sink took, what the screens show, and where the player stands
pub record Written (B : Type 0) : Type 0 where
  pub taken : Option (List ℕ)
  pub screens : List OutputScreen
  pub player : PlayerOf B

abbrev pub written_at : {B : Type 0} → Option (List ℕ) → List OutputScreen → PlayerOf B → Written B
written_at taken screens player = record { taken = taken; screens = screens; player = player }

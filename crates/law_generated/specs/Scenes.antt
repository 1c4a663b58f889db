-- Scripts that are scenes.
use Rattle.std.specs.Prelude.{◌≡◌, Ok}
use Rattle.sf_script_words.specs.Text.{Text}
use Rattle.sf_script.specs.sf_script_scene.Scene.{SceneValue}
use Rattle.sf_script.specs.Parse.{parsed_of}

-- a script is a scene of version 1
pub record IsScene (text : Text) : Type 0 where
  pub scene : SceneValue
  pub parsed : parsed_of text ≡ Ok scene
  pub version : scene.version ≡ 1

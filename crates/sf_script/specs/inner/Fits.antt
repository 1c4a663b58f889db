-- Lines that keep the ranges and the limits of a script.
use Rattle.std.specs.Prelude.{◌≡◌, ℕ, ◌<◌, ◌≤◌, Bool, false, List, length, All, Option, IfSome}
use Rattle.sf_script_scene.specs.sf_picture.declared.fill.Fill.{Fill}
use Rattle.sf_script_scene.specs.sf_picture.declared.picture.Picture.{Picture}
use Rattle.sf_script_words.specs.Text.{Text}
use Rattle.sf_script_scene.specs.Limits.{IsHeader, IsPick, IsRgba, StepFits, most_actors}
use Rattle.sf_script_scene.specs.Ranges.{IsCapture, IsDisplay, IsFill, IsHit, IsMirror, IsPicture, IsQueue, IsStack, IsTimeline}
use Rattle.sf_script_scene.specs.declared.step.Step.{Step}
use Rattle.sf_script_scene.specs.Scene.{SceneValue, fills_so_far, last_of, steps_so_far}
use Rattle.sf_script_scene.specs.Scene.{has_actor, has_capture, has_display, has_hit, has_layer, has_picture, has_queue, has_timeline}
use Rattle.sf_script.specs.Draft.{DraftValue}
use Rattle.sf_script.specs.declared.line.Line.{Line}
use Rattle.sf_script.specs.declared.line.Line.TheVariants as line
use Rattle.sf_script.specs.declared.line.NamedStep.{NamedStep}

-- a declaration is in its ranges, and its number was not declared
pub record IsNew {X : Type 0} (Range : X → Type 0) (is_declared : Bool) (x : X) : Type 0 where
  pub range : Range x
  pub first : is_declared ≡ false

-- a declaration of version 2 is in its ranges, its number was not declared, and the version has it
pub record IsNewSecond {X : Type 0} (version : ℕ) (Range : X → Type 0) (is_declared : Bool) (x : X) : Type 0 where
  pub new : IsNew Range is_declared x
  pub is_second : version ≡ 2

-- a picture is in its ranges, its number was not declared, and the version has its format
pub record PictureFits (scene : SceneValue) (picture : Picture) : Type 0 where
  pub new : IsNew IsPicture (has_picture scene.pictures picture.number) picture
  pub format : scene.version ≡ 1 → IsRgba picture

-- a mirror is in its ranges, its layer has none yet, and there is room for it
pub record MirrorFits (scene : SceneValue) (mirror : ℕ × ℕ) : Type 0 where
  pub new : IsNewSecond scene.version IsMirror (has_layer scene.mirrors mirror.0) mirror
  pub room : length scene.mirrors < 8

-- a fill is in its ranges, and the last picture has room for it
pub record FillFits (scene : SceneValue) (fill : Fill) : Type 0 where
  pub range : IsFill fill
  pub room : fills_so_far (last_of scene.pictures) < 1024

-- an actor's number is in its range, and was not declared
pub record ActorFits (scene : SceneValue) (number : ℕ) : Type 0 where
  pub low : 1 ≤ number
  pub high : number ≤ most_actors scene.version
  pub first : has_actor scene.actors number ≡ false

-- a step fits, and the current actor has room for it
pub record StepLineFits (scene : SceneValue) (s : Step) : Type 0 where
  pub step : StepFits scene s
  pub room : steps_so_far (last_of scene.actors) < 4096

-- a line keeps the ranges and the limits of the scene
abbrev pub SceneFits : SceneValue → Line → Type 0
SceneFits scene (line.Scene h) = IsHeader h.version h.width h.height h.period
SceneFits scene (line.Timeline timeline) = IsNew IsTimeline (has_timeline scene.timelines timeline) timeline
SceneFits scene (line.Display display) = IsNewSecond scene.version IsDisplay (has_display scene.displays display.number) display
SceneFits scene (line.Stack layer stack) = IsNewSecond scene.version IsStack (has_layer scene.stacks layer) (layer, stack)
SceneFits scene (line.Capture capture) = IsNewSecond scene.version IsCapture (has_capture scene.captures capture.number) capture
SceneFits scene (line.Hit hit) = IsNewSecond scene.version IsHit (has_hit scene.hits hit.number) hit
SceneFits scene (line.Mirror layer mirrored) = MirrorFits scene (layer, mirrored)
SceneFits scene (line.Queue queue) = IsNew IsQueue (has_queue scene.queues queue.number) queue
SceneFits scene (line.Picture picture) = PictureFits scene picture
SceneFits scene (line.Fill fill) = FillFits scene fill
SceneFits scene (line.Actor number) = ActorFits scene number
SceneFits scene (line.Step s) = StepLineFits scene s.step
SceneFits scene (line.Order picks) = All (IsPick scene.actors) picks
SceneFits scene line.End = Unit {0}

-- a new name is one of at most 32
abbrev pub NameFits : List Text → Option Text → Type 0
NameFits names name = IfSome name (λ n. length names < 32)

-- a name that a line binds is one of at most 32
abbrev pub LineNameFits : List Text → Line → Type 0
LineNameFits names (line.Step s) = NameFits names s.new_name
LineNameFits names _ = Unit {0}

-- a line keeps the ranges and the limits of a script, after those before it
pub record LineFits (d : DraftValue) (l : Line) : Type 0 where
  pub scene : SceneFits d.scene l
  pub name : LineNameFits d.names l

-- a step fits, and so does the name that it binds
pub record NamedFits (d : DraftValue) (s : NamedStep) : Type 0 where
  pub step : StepFits d.scene s.step
  pub name : NameFits d.names s.new_name

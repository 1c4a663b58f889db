-- What a step needs of the desk and of the pictures. A scene's reader and its limits give it.
use Rattle.std.specs.Prelude.{◌≡◌, ◌≤◌, true, List, length, All, IfSome}
use Rattle.sf_actor.specs.sf_layer.Ranges.{IsOperation}
use Rattle.sf_actor.specs.sf_picture.declared.picture.Picture.{Picture}
use Rattle.sf_actor.specs.sf_script_scene.declared.step.ActorScript.{ActorScript}
use Rattle.sf_actor.specs.sf_script_scene.declared.step.Step.{Step}
use Rattle.sf_actor.specs.sf_script_scene.declared.step.Step.TheVariants as step
use Rattle.sf_actor.specs.sf_script_scene.Named.{KnowsPicture, queue_named, timelines_named}
use Rattle.sf_actor.specs.sf_script_scene.Ranges.{IsStep}
use Rattle.sf_actor.specs.Desks.{DeskHome, has_queue}
use Rattle.sf_actor.specs.Scripts.{layer_of, op_of}

-- a change of a layer is one that layers take
abbrev pub IsTaken : Step → Type 0
IsTaken (step.Set number layer change) = IsOperation (layer_of layer, op_of change)
IsTaken other = Unit {0}

-- its numbers are in their ranges, and the desk has the queue and the timelines that it names
pub record IsPlayable (home : DeskHome) (s : Step) : Type 0 where
  pub ranges : IsStep s
  pub taken : IsTaken s
  pub queue : IfSome (queue_named s) (λ number. has_queue home number ≡ true)
  pub timelines : All (λ number. (1 ≤ number) × (number ≤ 64)) (timelines_named s)

-- each step of an actor is one, the pictures that they name are there, and there are not too many
pub record MayPlay (home : DeskHome) (pictures : List Picture) (script : ActorScript) : Type 0 where
  pub served : home.serves script.number ≡ true
  pub playable : All (IsPlayable home) script.steps
  pub pictured : All (KnowsPicture pictures) script.steps
  pub few : length script.steps ≤ 4294967295

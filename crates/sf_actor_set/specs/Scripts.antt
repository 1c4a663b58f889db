-- What an actor set needs of the scripts that it plays.
use Rattle.std.specs.Prelude.{◌≡◌, ℕ, List}
use Rattle.std.specs.List.{sum_by}
use Rattle.sf_commit.specs.sf_picture.declared.picture.Picture.{Picture}
use Rattle.sf_actor_steps.specs.sf_script_scene.Limits.{IsWithinLimits}
use Rattle.sf_actor_steps.specs.sf_script_scene.Scene.{SceneValue}
use Rattle.sf_actor_steps.specs.sf_script_scene.declared.declarations.QueueDecl.{QueueDecl}
use Rattle.sf_actor_steps.specs.sf_script_scene.declared.step.ActorScript.{ActorScript}
use Rattle.sf_actor_steps.specs.sf_actor.Tries.{dequeues_in}

-- how many permits the scripts need: one for each dequeue
abbrev pub permits_of : List ActorScript → ℕ
permits_of scripts = sum_by (λ (script : ActorScript). dequeues_in script.steps) scripts

-- these are the queues, the pictures and the actors of a scene, which is within its limits
pub record AreOfScene (queues : List QueueDecl) (pictures : List Picture) (scripts : List ActorScript) : Type 0 where
  pub scene : SceneValue
  pub limits : IsWithinLimits scene
  pub queues_of : scene.queues ≡ queues
  pub pictures_of : scene.pictures ≡ pictures
  pub scripts_of : scene.actors ≡ scripts

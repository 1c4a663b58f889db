-- Queues and actors as they are opened.
use Rattle.std.specs.Prelude.{◌≡◌, ℕ, List, [], ◌∷◌, map, take, drop}
use Rattle.std.specs.List.{AllZip}
use Rattle.std.specs.List.Sorted.{IsNonDecreasingBy, IsPermutation}
use Rattle.atomic_table.specs.Seated.{TableId}
use Rattle.sf_actor_steps.specs.sf_script_scene.declared.declarations.QueueDecl.{QueueDecl}
use Rattle.sf_actor_steps.specs.sf_script_scene.declared.step.ActorScript.{ActorScript}
use Rattle.sf_actor_steps.specs.sf_slots.Queue.{empty_queue}
use Rattle.sf_actor_steps.specs.sf_surface.Objects.{ObjectOf}
use Rattle.sf_actor_steps.specs.sf_actor.Scripts.{queue_of}
use Rattle.sf_actor_steps.specs.sf_actor.Tries.{ActorOf, dequeues_in}
use Rattle.sf_actor_steps.specs.Actors.{IsActor, new_actor}
use Rattle.sf_actor_steps.specs.declared.actor.Actor.{Actor}

-- the list in another order, by rising number
pub record IsSortedFrom {X : Type 0} (number : X → ℕ) (xs sorted : List X) : Type 0 where
  pub permutation : IsPermutation xs sorted
  pub rising : IsNonDecreasingBy number sorted

module _ {B : Type 0} where
  -- a declared queue, without calls
  abbrev pub new_queue : QueueDecl → ObjectOf B
  new_queue queue = record { queue = empty_queue (queue_of queue.number) queue.width queue.height; calls = [] }

  -- actors that have done nothing, each with a permit for each of its dequeues, off the front of a stock
  abbrev pub new_actors : List ActorScript → List ℕ → List (ActorOf B)
  new_actors [] stock = []
  new_actors (script ∷ scripts) stock = new_actor script (take (dequeues_in script.steps) stock) ∷ new_actors scripts (drop (dequeues_in script.steps) stock)

  -- each declared queue is opened once, by rising number
  pub record OpensQueues (queues : List QueueDecl) (objects : List (ObjectOf B)) : Type 0 where
    pub declared : List QueueDecl
    pub sorted : IsSortedFrom (λ (queue : QueueDecl). queue.number) queues declared
    pub opened : objects ≡ map new_queue declared

  -- each actor is opened once, by rising number
  pub record OpensActors (table : TableId) (scripts : List ActorScript) (stock : List ℕ) (actors : List (Actor B)) : Type 0 where
    pub declared : List ActorScript
    pub sorted : IsSortedFrom (λ (script : ActorScript). script.number) scripts declared
    pub opened : AllZip (IsActor table) actors (new_actors declared stock)

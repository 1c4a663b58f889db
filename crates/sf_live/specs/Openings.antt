-- A scene as it is opened for threads.
use Rattle.std.specs.Prelude.{◌≡◌, ℕ, ◌<◌, ◌≤◌, List, [], ◌∷◌, length, map, Contains}
use Rattle.std.specs.List.{AllByRecursion, AllZip}
use Rattle.std.specs.List.Sorted.{IsStrictlyIncreasing}
use Rattle.atomic_table.specs.Seated.{TableId}
use Rattle.sf_turns.specs.Counts.{stock_at}
use Rattle.sf_script_scene.specs.Limits.{IsWithinLimits}
use Rattle.sf_script_scene.specs.Scene.{SceneValue}
use Rattle.sf_script_scene.specs.declared.step.ActorScript.{ActorScript}
use Rattle.sf_live_compositor.specs.sf_actor_steps.Actors.{IsActor}
use Rattle.sf_live_compositor.specs.sf_actor_set.Opening.{IsSortedFrom, new_actors}
use Rattle.sf_live_compositor.specs.law_played.Actors.{mark_declared}
use Rattle.sf_live_compositor.specs.law_played.Histories.{rising_queues}
use Rattle.sf_live_compositor.specs.sf_live_seats.First.{IsFirst, KnowsNothing, gave_of, took_of}
use Rattle.sf_live_compositor.specs.sf_live_seats.Seats.{marks_of}
use Rattle.sf_live_compositor.specs.sf_live_threads.Seating.{IsNewcomer, number_of}
use Rattle.sf_live.specs.declared.opening.Opened.{Opened}

-- The queues are shared as they are declared, by rising number. The actors have done nothing, each with a permit for each of its dequeues. The
-- first seats gave none yet, called and signalled nothing and left no turn.
pub record IsOpen {B : Type 0} (scene : SceneValue) (table : TableId) (opened : Opened B) : Type 0 where
  pub limits : IsWithinLimits scene
  pub pictures : opened.pictures ≡ scene.pictures
  pub marks : marks_of opened.locks ≡ map mark_declared (rising_queues scene)
  pub declared : List ActorScript
  pub sorted : IsSortedFrom (λ (script : ActorScript). script.number) scene.actors declared
  pub stock : List ℕ
  pub once : (number : ℕ) → stock_at number stock ≤ 1
  pub below : (number : ℕ) → Contains stock number → number < table.slots
  pub actors : AllZip (IsActor table) opened.actors.items (new_actors declared stock)
  pub newcomers : AllByRecursion (IsNewcomer table opened.locks scene.pictures opened.first.seats) opened.actors.items
  pub none_taken : took_of opened.first ≡ []
  pub step : opened.first.seats.last.step ≡ 0
  pub no_signals : opened.first.seats.times.knows.signals ≡ []
  pub no_leaves : opened.first.seats.turns.leaves ≡ []

-- What may go on in threads: the first seats are those at these locks, gave no seats yet and know of nothing; the actors are 64 at most, by rising number
-- above the compositor's, and each can begin with these pictures.
pub record MayStart {B : Type 0} (table : TableId) (opened : Opened B) : Type 0 where
  pub first : IsFirst table opened.locks opened.first
  pub none : gave_of opened.first ≡ []
  pub unused : KnowsNothing opened.first.seats
  pub few : length opened.actors.items ≤ 64
  pub rising : IsStrictlyIncreasing (opened.first.seats.by ∷ map number_of opened.actors.items)
  pub newcomers : AllByRecursion (IsNewcomer table opened.locks opened.pictures opened.first.seats) opened.actors.items

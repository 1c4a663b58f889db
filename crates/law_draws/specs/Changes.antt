-- What happens to the rights of a run, as the laws about draws take it: values, and what is known of them.
use Rattle.std.specs.Prelude.{◌≡◌, ℕ, List, Contains, Some, map}
use Rattle.std.specs.List.Sorted.{IsStrictlyIncreasing}
use Rattle.law_rights.specs.sf_calls.Histories.{IsLegal}
use Rattle.law_rights.specs.sf_picture.declared.picture.Picture.{Picture}
use Rattle.law_rights.specs.sf_script_scene.Scene.{SceneValue}
use Rattle.law_rights.specs.sf_surface.Histories.{Answers}
use Rattle.law_rights.specs.sf_actor.Desks.{DeskHome, DeskView, mark_among}
use Rattle.law_rights.specs.sf_actor.Draws.{entered_at}
use Rattle.law_rights.specs.sf_actor.Known.{Call}
use Rattle.law_rights.specs.sf_actor.Rights.{Turn, WasGivenAt}
use Rattle.law_rights.specs.sf_actor.Traces.{DoneAt, places_of}
use Rattle.law_rights.specs.sf_actor.Tries.{ActorOf, Keeps}
use Rattle.law_rights.specs.law_played.Actors.{number_of}
use Rattle.law_rights.specs.MakerRuns.{AreDeclared}
use Rattle.law_rights.specs.RunNow.{BeginsSo, RunNow, state_now}
use Rattle.law_rights.specs.States.{AreApart, State}
use Rattle.law_draws.specs.Doing.{DoesIn}
use Rattle.law_draws.specs.Placed.{DrawsPlaced, calls_of}
use Rattle.law_draws.specs.Standing.{RightsStand}

module _ {B : Type 0} where
  -- between two calls of a player what draws entered is placed
  abbrev pub PlacesDraws : SceneValue → RunNow B → Type 0
  PlacesDraws scene now = DrawsPlaced scene now.home now.view now.ofs now.handler

  -- the rights of the run stand
  abbrev pub HasRights : SceneValue → RunNow B → Type 0
  HasRights scene now = RightsStand scene (calls_of now.home now.view) (state_now now)

-- Two turns that were given for what a step of an actor entered.
pub record GivenTurns (B : Type 0) : Type 0 where
  -- the pictures of the scene, a desk, and an actor
  pub pictures : ℕ → Picture
  pub home : DeskHome
  pub view : DeskView B
  pub of : ActorOf B
  -- the actor keeps what it keeps
  pub keeps : Keeps pictures home of view
  -- a step that it did
  pub at : DoneAt
  pub there : Contains (places_of of.trace) at
  -- by the call of the step at this place
  pub place : ℕ
  pub enters : entered_at at ≡ Some place
  -- both turns were given by that call
  pub turn : Turn
  pub other : Turn
  pub given : WasGivenAt (calls_of home view of.script.number) place (Some turn)
  pub also : WasGivenAt (calls_of home view of.script.number) place (Some other)

-- A step that an actor did, in a state of all callers; the calls are those of each actor in the whole run.
pub record StepOfRights (B : Type 0) : Type 0 where
  pub scene : SceneValue
  pub calls : ℕ → ℕ → List (Call B)
  -- the state before it and after it
  pub old : State B
  pub new : State B
  -- no two marks are of one queue, and the scene declares each
  pub apart : AreApart old.marks
  pub declared : AreDeclared scene old.marks
  -- each reply is what the calls before it say
  pub legal : (queue : ℕ) → IsLegal (Answers (mark_among old.marks queue)) (old.view.calls queue)
  -- an actor did a step more
  pub does : DoesIn calls old new
  -- the rights stood
  pub stand : RightsStand scene calls old

-- Frames that go back, in a state of all callers.
pub record ReturnOfRights (B : Type 0) : Type 0 where
  pub scene : SceneValue
  pub calls : ℕ → ℕ → List (Call B)
  -- the state before it and after it
  pub old : State B
  pub new : State B
  -- each queue is one that the scene declares
  pub declared : AreDeclared scene old.marks
  -- no actor changed
  pub same_actors : new.actors ≡ old.actors
  -- the rights stood
  pub stand : RightsStand scene calls old

-- A run in which nothing has happened; the calls are those of each actor in the whole run.
pub record BegunRights (B : Type 0) : Type 0 where
  pub scene : SceneValue
  pub calls : ℕ → ℕ → List (Call B)
  pub now : RunNow B
  -- the actors have rising numbers
  pub apart : IsStrictlyIncreasing (map number_of now.ofs)
  -- nothing has happened, of so many buffers
  pub buffers : ℕ
  pub begins : BeginsSo buffers now

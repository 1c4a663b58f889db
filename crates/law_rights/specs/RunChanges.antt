-- What happens to a run between two calls of a player: a try of an actor's step, or a vsync.
use Rattle.std.specs.Prelude.{◌≡◌, ℕ, List, All, slice_set}
use Rattle.atomic_table.specs.Seated.{TableId}
use Rattle.sf_actor_set.specs.sf_commit.Handlers.{HandlerOf}
use Rattle.sf_actor_set.specs.sf_picture.declared.picture.Picture.{Picture}
use Rattle.sf_actor_set.specs.sf_script_scene.Limits.{IsWithinLimits}
use Rattle.sf_actor_set.specs.sf_script_scene.Scene.{SceneValue}
use Rattle.sf_actor_set.specs.sf_surface.Tokens.{Issued, ReadLeaseOf}
use Rattle.sf_actor_set.specs.sf_turns.Views.{SeatView}
use Rattle.sf_actor_set.specs.sf_txn.declared.lease.Lease.{Ghosts}
use Rattle.sf_actor_set.specs.sf_actor.declared.tried.Stepped.{Stepped}
use Rattle.sf_actor_set.specs.sf_actor.Desks.{DeskView}
use Rattle.sf_actor_set.specs.sf_actor.Plain.{PlainOf, home_of, view_of}
use Rattle.sf_actor_set.specs.sf_actor.Scripts.{picture_at}
use Rattle.sf_actor_set.specs.sf_actor.Tries.{ActorOf}
use Rattle.sf_actor_set.specs.sf_actor_steps.declared.actor.Actor.{Actor}
use Rattle.sf_actor_set.specs.sf_actor_steps.Playable.{MayPlay}
use Rattle.sf_actor_set.specs.ActorSets.{KeepAs, StepsAt, scripts_of}
use Rattle.law_rights.specs.Actors.{AreOver}
use Rattle.law_rights.specs.MakerRuns.{AreDeclared}
use Rattle.law_rights.specs.RunNow.{HasActors, HasDraws, HasLedgerOf, HasMakers, IsAlone, KnowsLeft, RunNow}
use Rattle.law_rights.specs.Standing.{LedgerStands, VsyncIn, home_taken}

-- A try of an actor's step.
pub record StepOfRun (B : Type 0) : Type 0 where
  pub table : TableId
  pub pictures : List Picture
  -- the actors, as contracts see them before it, and as they are before it and after it
  pub ofs : List (ActorOf B)
  pub actors : List (Actor B)
  pub nows : List (Actor B)
  -- the desk before it and after it
  pub before : PlainOf B
  pub after : PlainOf B
  pub handler : HandlerOf ReadLeaseOf
  -- the actor at a place tried its step, and it came to this
  pub place : ℕ
  pub stepped : Stepped
  pub steps : StepsAt table (picture_at pictures) place actors ofs before nows after stepped
  -- each actor kept what it keeps, and may play
  pub keep : KeepAs table (picture_at pictures) (home_of before) (view_of before) actors ofs
  pub plays : All (MayPlay (home_of before) pictures) (scripts_of actors)
  -- the desk has what it had
  pub same_home : home_of after ≡ home_of before
  -- each reply is what the calls before it say, and each call is an actor's or a release
  pub over : AreOver (picture_at pictures) (home_of before) (view_of before) ofs
  -- the ledger stood, of so many buffers
  pub buffers : ℕ
  pub stands : LedgerStands buffers (home_of before) (view_of before) ofs handler

module _ {B : Type 0} where
  -- the run before it and behind it
  abbrev pub run_before : StepOfRun B → RunNow B
  run_before step = record { home = home_of step.before; view = view_of step.before; ofs = step.ofs; handler = step.handler }

  abbrev pub run_behind : StepOfRun B → RunNow B
  run_behind step =
      record { home = home_of step.after; view = view_of step.after; ofs = slice_set step.ofs step.place step.steps.new; handler = step.handler }

-- One of a scene, whose makers stood.
pub record StepOfScene (B : Type 0) : Type 0 where
  pub step : StepOfRun B
  pub scene : SceneValue
  -- each queue is one that the scene declares
  pub declared : AreDeclared scene (home_of step.before).marks
  pub makers : HasMakers scene (run_before step)

-- One of a scene whose draws were in turn.
pub record StepOfDraws (B : Type 0) : Type 0 where
  pub one : StepOfScene B
  -- the scene is within its limits, and the actors are its own
  pub limits : IsWithinLimits one.scene
  pub actors : HasActors one.scene (run_before one.step)
  -- all turns were known that had left
  pub knows : KnowsLeft one.step.buffers (run_before one.step)
  -- the seat at the turns was the only one that was out
  pub alone : IsAlone (view_of one.step.before).turns
  pub draws : HasDraws one.scene (run_before one.step)

-- A vsync.
pub record VsyncOfRun (B : Type 0) (lease : Ghosts ReadLeaseOf SeatView ReadLeaseOf Issued) : Type 0 where
  -- the run before it
  pub before : RunNow B
  -- what the desk knows after it, and the handler after it
  pub view : DeskView B
  pub handler : HandlerOf ReadLeaseOf
  -- the handler took what arrived and decided, and what goes was given back
  pub vsync : VsyncIn lease before.home before.view before.handler view handler
  -- the ledger stood, of so many buffers
  pub buffers : ℕ
  pub stands : HasLedgerOf buffers before

module _ {B : Type 0} {lease : Ghosts ReadLeaseOf SeatView ReadLeaseOf Issued} where
  -- the run behind it
  abbrev pub behind_vsync : VsyncOfRun B lease → RunNow B
  behind_vsync one = record { home = home_taken one.before.home one.before.view; view = one.view; ofs = one.before.ofs; handler = one.handler }

-- One of a scene, whose makers stood.
pub record VsyncOfScene (B : Type 0) (lease : Ghosts ReadLeaseOf SeatView ReadLeaseOf Issued) : Type 0 where
  pub one : VsyncOfRun B lease
  pub scene : SceneValue
  -- each queue is one that the scene declares
  pub declared : AreDeclared scene one.before.home.marks
  pub makers : HasMakers scene one.before

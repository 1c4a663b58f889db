-- A transition of a play in which an actor is picked, as the laws about plays take it: values, and what is known of them.
use Rattle.std.specs.Prelude.{◌≡◌, ℕ, ◌==◌, ◌++◌, true, List, find, slice_get, slice_set, Option, Some}
use Rattle.sf_commit.specs.sf_token.Pending.{Arrival}
use Rattle.sf_script_scene.specs.Limits.{IsWithinLimits}
use Rattle.sf_script_scene.specs.Scene.{SceneValue}
use Rattle.sf_script_scene.specs.declared.step.ActorScript.{ActorScript}
use Rattle.sf_script_scene.specs.declared.step.Step.{Step}
use Rattle.sf_actor.specs.declared.done.Done.{Done}
use Rattle.sf_actor.specs.declared.tried.Reply.{Reply}
use Rattle.sf_actor.specs.Desks.{DeskHome, DeskView}
use Rattle.sf_actor.specs.Makers.{Run}
use Rattle.sf_actor.specs.Names.{FrameOf}
use Rattle.sf_actor.specs.Scripts.{picture_at}
use Rattle.sf_actor.specs.Tries.{ActorOf, DoesStep}
use Rattle.sf_actor.specs.Values.{reply_at}
use Rattle.sf_record.specs.declared.event.VsyncRecords.{VsyncRecords}
use Rattle.law_played.specs.Actors.{AreCalls, arrivals_of, run_of}
use Rattle.law_played.specs.RunStates.{RunState, Transition, actor_transition, at_now, idle}
use Rattle.law_played.specs.Stepping.{DoesOneMore, DrawsInTime, KnowsRun, TellsFirst}
use Rattle.law_played.specs.Stuck.{IsNotReady, next_step}
use Rattle.law_played.specs.Telling.{AreNumbered}

-- An actor of a scene, in a state of its run.
pub record PickedActor : Type 0 where
  -- what is played, the state of its run, and the actor's script
  pub scene : SceneValue
  pub state : RunState
  pub script : ActorScript
  -- the scene has the script
  pub declared : find (λ (s : ActorScript). s.number == script.number) scene.actors ≡ Some script

-- its next transition, and that this changes nothing
abbrev pub next_transition : PickedActor → Transition
next_transition actor = actor_transition actor.scene actor.script.number actor.state

abbrev pub StaysIdle : PickedActor → Type 0
StaysIdle actor = next_transition actor ≡ idle actor.state

-- its next step, and that it is not ready at a step
abbrev pub next_step_of : PickedActor → Option Step
next_step_of actor = next_step actor.state.run actor.script

abbrev pub IsNotReadyAt : PickedActor → Step → Type 0
IsNotReadyAt actor s = IsNotReady actor.scene actor.state.run actor.script (Some s)

-- It did one step more.
pub record StepMore : Type 0 where
  -- the actor before the step, and what was done
  pub actor : PickedActor
  pub done : Done
  -- the run after the step, and what it sent
  pub later : Run
  pub arrived : List (Arrival FrameOf)
  -- nobody else called or sent
  pub does : DoesOneMore actor.scene actor.state actor.script done later arrived
  -- where it drew, its turn had come
  pub in_time : DrawsInTime actor.scene actor.state actor.script done.step

-- what the step replied, and the state after it
abbrev pub reply_of_step : StepMore → Reply
reply_of_step more = reply_at more.actor.script.number (at_now more.actor.state more.actor.script more.done)

abbrev pub state_after_step : StepMore → RunState
state_after_step more =
    let state = more.actor.state in
    record state { run = more.later; arrivals = state.arrivals ++ more.arrived }

-- A step that an actor did over an exact desk that reports places.
pub record DoneAtDesk (B : Type 0) : Type 0 where
  -- what is played, and by whom
  pub scene : SceneValue
  pub ofs : List (ActorOf B)
  -- what the desk has, and what it knew before the step and after it
  pub home : DeskHome
  pub before : DeskView B
  pub after : DeskView B
  -- the actor, at its place, before the step and after it, and what the step replied
  pub place : ℕ
  pub old : ActorOf B
  pub new : ActorOf B
  pub reply : Reply
  -- the vsyncs so far
  pub reports : List VsyncRecords
  pub vsyncs : ℕ
  -- the scene is within its limits
  pub limits : IsWithinLimits scene
  -- the desk knows all that happens, and says which place a transaction has
  pub exact : home.is_exact ≡ true
  pub tells : home.tells ≡ true
  pub here : slice_get ofs place ≡ Some old
  -- the step was done
  pub does : DoesStep (picture_at scene.pictures) home old before new after reply
  -- what is known of the actors before it, and after it
  pub was : KnowsRun scene ofs home before
  pub is : KnowsRun scene (slice_set ofs place new) home after
  pub calls : AreCalls scene (slice_set ofs place new) home after
  -- arrivals are numbered
  pub numbered : AreNumbered after.arrivals
  -- where all earlier turns have left, no older draw is owed
  pub first : TellsFirst scene (run_of ofs home before) old before

module _ {B : Type 0} where
  -- the state of the run before the step and after it
  abbrev pub state_before : DoneAtDesk B → RunState
  state_before done =
      record { run = run_of done.ofs done.home done.before; arrivals = arrivals_of done.before; reports = done.reports; vsyncs = done.vsyncs }

  -- the actor's next transition there
  abbrev pub transition_at : DoneAtDesk B → Transition
  transition_at done = actor_transition done.scene done.old.script.number (state_before done)

  abbrev pub state_after : DoneAtDesk B → RunState
  state_after done = record {
    run = run_of (slice_set done.ofs done.place done.new) done.home done.after;
    arrivals = arrivals_of done.after;
    reports = done.reports;
    vsyncs = done.vsyncs;
  }

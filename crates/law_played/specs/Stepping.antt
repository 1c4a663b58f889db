-- A run in which an actor did one step more, while nobody else called or sent.
use Rattle.std.specs.Prelude.{◌≡◌, ℕ, true, false, List, [], ◌∷◌, ◌++◌, length, map, Some, None, Contains}
use Rattle.std.specs.List.{All, range_with_len}
use Rattle.sf_base.specs.Fences.{Fence, IsSignalled}
use Rattle.sf_actor.specs.sf_slots.Tells.{AreReplies}
use Rattle.sf_actor.specs.sf_slots.declared.calls.Entry.{Entry}
use Rattle.sf_actor.specs.sf_surface.Drawing.{MayEnter}
use Rattle.sf_commit.specs.sf_token.Pending.{Arrival}
use Rattle.sf_actor.specs.sf_turns.Views.{SeatView}
use Rattle.sf_script_scene.specs.Scene.{SceneValue, has_queue}
use Rattle.sf_script_scene.specs.declared.declarations.QueueDecl.{QueueDecl}
use Rattle.sf_script_scene.specs.declared.step.ActorScript.{ActorScript}
use Rattle.sf_script_scene.specs.declared.step.Step.{Step}
use Rattle.sf_script_scene.specs.declared.step.Step.TheVariants as step
use Rattle.sf_actor.specs.declared.done.Answered.TheVariants as answered
use Rattle.sf_actor.specs.declared.done.Done.{Done}
use Rattle.sf_actor.specs.declared.holding.Holding.{Holding}
use Rattle.sf_actor.specs.Desks.{DeskHome, DeskView, KnowsAll}
use Rattle.sf_actor.specs.Known.{AreAmong}
use Rattle.sf_actor.specs.Makers.{Run}
use Rattle.sf_actor.specs.Names.{FrameOf, name_in}
use Rattle.sf_actor.specs.Holdings.{token_of, turn_held}
use Rattle.sf_actor.specs.Points.{detached_fence, undrawn_fence}
use Rattle.sf_actor.specs.Scripts.{picture_at}
use Rattle.sf_actor.specs.Tests.{bad_value, refusal_of}
use Rattle.sf_actor.specs.Tries.{ActorOf, held_in}
use Rattle.law_played.specs.Actors.{AreActors, run_of}
use Rattle.law_played.specs.Arrivals.{number_of}
use Rattle.law_played.specs.Runs.{IsTraced, final_values, signals_in}
use Rattle.law_played.specs.Stuck.{draw_waits, has_older, holdings_at_end}
use Rattle.law_played.specs.RunStates.{RunState, with_list}

-- the calls on a queue are more, and the later ones are all of this caller
pub record CallsMore (by : ℕ) (before after : List Entry) : Type 0 where
  pub more : List Entry
  pub joined : after ≡ more ++ before
  pub own : All (λ (entry : Entry). entry.caller.0 ≡ by) more

-- where a step was refused by its fence, the fence is open
abbrev pub RefusesOpen : SceneValue → RunState → ActorScript → Done → Type 0
RefusesOpen scene state script done =
    let holdings = holdings_at_end state.run script in
    (fence : Fence) → detached_fence holdings done.step ≡ Some fence → refusal_of (picture_at scene.pictures) holdings done.step ≡ None
    → done.answered ≡ answered.Own bad_value → IsSignalled fence (final_values scene state.run) → ⊥

-- the turn of a draw has come: no fence is open, and no older draw is owed
abbrev pub DrawsInTime : SceneValue → RunState → ActorScript → Step → Type 0
DrawsInTime scene state script (step.Draw name picture) =
    let holdings = holdings_at_end state.run script in
    refusal_of (picture_at scene.pictures) holdings (step.Draw name picture) ≡ None
    → draw_waits scene state.run (name_in holdings name) (undrawn_fence (name_in holdings name)) ≡ false
DrawsInTime scene state script other = Unit {0}

-- An actor did one step more: its trace is one of its script before and after it, no one else's trace grew, what was called and
-- what arrived since is its own, arrivals are numbered, and each reply is what the calls before it say.
pub record DoesOneMore (scene : SceneValue) (state : RunState) (script : ActorScript) (done : Done) (later : Run) (arrived : List (Arrival FrameOf)) : Type 0 where
  pub before : IsTraced true scene state.run state.arrivals script
  pub after : IsTraced true scene later (state.arrivals ++ arrived) script
  pub traces : (actor : ℕ) → later.trace actor ≡ with_list state.run.trace script.number (state.run.trace script.number ++ done ∷ []) actor
  pub calls : (queue : ℕ) → CallsMore script.number (state.run.calls queue) (later.calls queue)
  pub declared : (queue : ℕ) (entry : Entry) → Contains (later.calls queue) entry → has_queue scene.queues queue ≡ true
  pub replies : All (λ (queue : QueueDecl). AreReplies queue.width queue.height (later.calls queue.number)) scene.queues
  pub sent : All (λ (a : Arrival FrameOf). a.actor.0 ≡ script.number) arrived
  pub numbered : map number_of (state.arrivals ++ arrived) ≡ range_with_len 1 (length (state.arrivals ++ arrived))
  pub refused : RefusesOpen scene state script done

-- what is known of actors over a desk: each keeps what it keeps, and each signal is a step's
pub record KnowsRun {B : Type 0} (scene : SceneValue) (ofs : List (ActorOf B)) (home : DeskHome) (view : DeskView B) : Type 0 where
  pub actors : AreActors scene ofs home view
  pub knows : KnowsAll view
  pub signals : AreAmong view.times.signals (signals_in scene (run_of ofs home view))

-- where a look shows that all earlier turns at the pixels have left, no older draw is owed
pub record TellsFirst {B : Type 0} (scene : SceneValue) (run : Run) (of : ActorOf B) (view : DeskView B) : Type 0 where
  pub none : (name : ℕ) (held : Holding B) (now : SeatView) → held_in of.parts name ≡ Some held
      → MayEnter (turn_held held).0 (turn_held held).1 view.turns now → has_older scene run (token_of held) ≡ false

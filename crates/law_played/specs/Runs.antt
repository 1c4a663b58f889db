-- A run, as far as its records do not show it whole: the traces of its actors, the calls on its queues, and what arrived.
use Rattle.std.specs.Prelude.{ℕ, ◌==◌, Bool, List, filter, map, reverse}
use Rattle.std.specs.List.{All, flat_map, range_with_len}
use Rattle.sf_base.specs.Fences.{no_points}
use Rattle.sf_base.specs.declared.fences.Seen.{Seen}
use Rattle.sf_actor.specs.sf_slots.declared.calls.Entry.{Entry}
use Rattle.sf_commit.specs.sf_token.Pending.{Arrival}
use Rattle.sf_script_scene.specs.Limits.{most_actors}
use Rattle.sf_script_scene.specs.Scene.{SceneValue}
use Rattle.sf_script_scene.specs.declared.step.ActorScript.{ActorScript}
use Rattle.sf_actor.specs.Known.{arrivals_told}
use Rattle.sf_actor.specs.Makers.{Run}
use Rattle.sf_actor.specs.Names.{FrameOf}
use Rattle.sf_actor.specs.Points.{reached_by}
use Rattle.sf_actor.specs.Scripts.{picture_at, with_points}
use Rattle.sf_actor.specs.ScriptTraces.{IsTraceOf, OwnOf}
use Rattle.sf_actor.specs.Traces.{DoneAt, places_of}
use Rattle.sf_actor.specs.Values.{replies_of}
use Rattle.sf_actor.specs.Written as written

-- what is declared, by rising number, where a number is at most so great
abbrev pub rising : {X : Type 0} → (X → ℕ) → ℕ → List X → List X
rising number greatest items = flat_map (λ n. filter (λ item. number item == n) items) (range_with_len 1 greatest)

-- the number of an actor
abbrev pub actor_number : ActorScript → ℕ
actor_number script = script.number

-- the actors by rising number
abbrev pub rising_actors : SceneValue → List ActorScript
rising_actors scene = rising actor_number (most_actors scene.version) scene.actors

-- a done step of an actor
pub record StepBy : Type 0 where
  pub actor : ℕ
  pub at : DoneAt

-- the done steps of one actor, with their places
abbrev pub steps_by : Run → ActorScript → List StepBy
steps_by run script = map (λ at. record { actor = script.number; at = at }) (places_of (run.trace script.number))

-- all done steps
abbrev pub steps_in : SceneValue → Run → List StepBy
steps_in scene run = flat_map (steps_by run) (rising_actors scene)

-- the frames that were written: drawn before they were queued, or what was owed was drawn
abbrev pub written_in : SceneValue → Run → List written.FrameNumber
written_in scene run = flat_map (λ script. written.written_in (run.trace script.number)) (rising_actors scene)

-- the points that were signalled
abbrev pub signals_in : SceneValue → Run → List (ℕ × ℕ)
signals_in scene run = flat_map (λ script. written.signals_of (run.trace script.number)) (rising_actors scene)

-- the final values of timelines: of each the greatest that was signalled, or 0
abbrev pub final_values : SceneValue → Run → Seen
final_values scene run = reached_by (with_points no_points (signals_in scene run))

-- the calls of one caller, in order; of the calls on a queue the newest is the first
abbrev pub calls_of : ℕ → List Entry → List Entry
calls_of caller calls = filter (λ entry. entry.caller.0 == caller) (reverse calls)

-- an arrival is of this actor
abbrev pub is_sent_by : ℕ → Arrival FrameOf → Bool
is_sent_by actor arrived = arrived.actor.0 == actor

-- what is one actor's: its calls on each queue; its arrivals, with their numbers or, where no place is reported, with 0; and the
-- final values
abbrev pub own_in : Bool → Run → List (Arrival FrameOf) → Seen → ℕ → OwnOf
own_in tells run arrivals final actor = record {
  calls = λ queue. calls_of actor (run.calls queue);
  arrivals = arrivals_told tells (filter (is_sent_by actor) arrivals);
  values = final;
}

-- Traces. Each actor's is one of its script: each step is answered as the table of steps says after those before it, where
-- it waited for points they are signalled in the end, and the actor's calls and arrivals are those of these steps, in order.
-- A step that sends is answered by the number of its arrival, or by 0 where no place is reported.
abbrev pub IsTraced : Bool → SceneValue → Run → List (Arrival FrameOf) → ActorScript → Type 0
IsTraced tells scene run arrivals script =
    let trace = run.trace script.number in
    IsTraceOf (picture_at scene.pictures) script (own_in tells run arrivals (final_values scene run) script.number) trace (replies_of script.number trace)

-- each actor's trace is one of its script
abbrev pub AreTraced : Bool → SceneValue → Run → List (Arrival FrameOf) → Type 0
AreTraced tells scene run arrivals = All (IsTraced tells scene run arrivals) scene.actors

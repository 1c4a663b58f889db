-- The actors that are stuck at the end of a run, each at a step that is not ready.
use Rattle.std.specs.Prelude.{◌≡◌, ◌+◌, ◌==◌, nat_lt, Bool, true, false, ◌||◌, if◌then◌else◌}
use Rattle.std.specs.Prelude.{List, [], ◌∷◌, filter, find, length, Option, Some, None, is_some, slice_get, option_to_list}
use Rattle.std.specs.List.{All, flat_map, list_any}
use Rattle.std.specs.Option.{option_map_or}
use Rattle.sf_base.specs.Fences.{Fence, first_open_of}
use Rattle.sf_base.specs.declared.fences.Seen.{Seen}
use Rattle.sf_actor.specs.sf_slots.Replies.{reply_after}
use Rattle.sf_script_scene.specs.Scene.{SceneValue}
use Rattle.sf_script_scene.specs.declared.declarations.QueueDecl.{QueueDecl}
use Rattle.sf_script_scene.specs.declared.step.ActorScript.{ActorScript}
use Rattle.sf_script_scene.specs.declared.step.Step.{Step}
use Rattle.sf_script_scene.specs.declared.step.Step.TheVariants as step
use Rattle.sf_actor.specs.Asking.{Asked, call_of}
use Rattle.sf_actor.specs.Makers.{Run, is_older}
use Rattle.sf_actor.specs.Names.{Holdings, Token, is_owing, name_in}
use Rattle.sf_actor.specs.Points.{undrawn_fence, waited_fence}
use Rattle.sf_actor.specs.Scripts.{picture_at}
use Rattle.sf_actor.specs.Tests.{refusal_of}
use Rattle.sf_actor.specs.Traces.{is_blocked, past_after}
use Rattle.sf_record.specs.declared.record.StuckEntry.{StuckEntry}
use Rattle.law_played.specs.Runs.{final_values, rising_actors}
use Rattle.law_played.specs.Turns.{maker_at}

-- an actor that has not done all its steps is stuck at the next one
abbrev pub stuck_if : Run → ActorScript → List StuckEntry
stuck_if run script =
    let done = length (run.trace script.number) in
    if nat_lt done (length script.steps) then record { actor = script.number; step = done + 1 } ∷ [] else []

-- the actors that have not done all their steps, by rising number
abbrev pub stuck_of : SceneValue → Run → List StuckEntry
stuck_of scene run = flat_map (stuck_if run) (rising_actors scene)

-- what an actor's names and numbers hold at the end
abbrev pub holdings_at_end : Run → ActorScript → Holdings
holdings_at_end run script = (past_after (run.trace script.number)).holdings

-- the draws that are owed at the end
abbrev pub owings_of : Run → ActorScript → List Token
owings_of run script = filter (λ token. is_owing (Some token)) (flat_map option_to_list (holdings_at_end run script).names)

-- the drawings that are owed in the end
abbrev pub owings_left : SceneValue → Run → List Token
owings_left scene run = flat_map (owings_of run) scene.actors

-- a fence has a point that is not signalled in the end
abbrev pub has_open_point : Seen → Fence → Bool
has_open_point final fence = is_some (first_open_of fence final)

-- an older draw is owed; no draw is older than itself
abbrev pub has_older : SceneValue → Run → Token → Bool
has_older scene run token = list_any (λ owing. is_older (maker_at scene run) owing token) (owings_left scene run)

-- a draw in what a name holds waits: for a point of the fence of its dequeue, or for an older draw
abbrev pub draw_waits : SceneValue → Run → Option Token → Option Fence → Bool
draw_waits scene run (Some token) (Some fence) = has_open_point (final_values scene run) fence || has_older scene run token
draw_waits scene run token fence = false

-- a call would be refused for want of a free slot, after all calls
abbrev pub is_blocked_on : Run → ActorScript → Asked → QueueDecl → Bool
is_blocked_on run script asked queue = is_blocked (reply_after queue.width queue.height (run.calls queue.number) (record { 0 = script.number }) asked.1)

-- a call waits for a slot of its queue, after all calls on that
abbrev pub call_blocks : SceneValue → Run → ActorScript → Option Asked → Bool
call_blocks scene run script None = false
call_blocks scene run script (Some asked) =
    option_map_or (is_blocked_on run script asked) (find (λ (queue : QueueDecl). queue.number == asked.0.0) scene.queues) false

-- a step is not ready, by its form
abbrev pub step_waits : SceneValue → Run → ActorScript → Holdings → Step → Bool
step_waits scene run script holdings (step.Wait t v) =
    option_map_or (has_open_point (final_values scene run)) (waited_fence holdings (step.Wait t v)) false
step_waits scene run script holdings (step.Draw s p) = draw_waits scene run (name_in holdings s) (undrawn_fence (name_in holdings s))
step_waits scene run script holdings (step.DequeueWait q s size) =
    call_blocks scene run script (call_of (picture_at scene.pictures) holdings (step.DequeueWait q s size))
step_waits scene run script holdings other = false

-- the step that an actor is stuck at: none of its own tests refuses it, and it is not ready
abbrev pub IsNotReady : SceneValue → Run → ActorScript → Option Step → Type 0
IsNotReady scene run script None = Unit {0}
IsNotReady scene run script (Some s) =
    let holdings = holdings_at_end run script in
    (refusal_of (picture_at scene.pictures) holdings s ≡ None) × (step_waits scene run script holdings s ≡ true)

-- the first step of an actor that is not done
abbrev pub next_step : Run → ActorScript → Option Step
next_step run script = slice_get script.steps (length (run.trace script.number))

-- Stuck actors. They are those that have not done all their steps, by rising number, each with its next step; and that step
-- is not ready.
pub record AreStuck (scene : SceneValue) (run : Run) (stuck : List StuckEntry) : Type 0 where
  pub exactly : stuck ≡ stuck_of scene run
  pub not_ready : All (λ script. IsNotReady scene run script (next_step run script)) scene.actors

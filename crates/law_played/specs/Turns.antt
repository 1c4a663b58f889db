-- Draws come in turn: one that enters its pixels comes after the draws that are owed to the frames queued before.
use Rattle.std.specs.Prelude.{◌≡◌, ℕ, ◌+◌, ◌==◌, nat_lt, nat_le, Bool, true, false, not, ◌&&◌, ◌||◌, if◌then◌else◌}
use Rattle.std.specs.Prelude.{List, [], ◌∷◌, map, filter, length, Option, Some, None, option_to_list}
use Rattle.std.specs.List.{All, flat_map, list_any}
use Rattle.sf_actor.specs.sf_slots.declared.calls.Entry.{Entry}
use Rattle.sf_actor.specs.sf_slots.declared.calls.PlainReply.{PlainReply}
use Rattle.sf_actor.specs.sf_slots.declared.calls.PlainReply.TheVariants as reply
use Rattle.sf_script_scene.specs.Scene.{SceneValue}
use Rattle.sf_script_scene.specs.declared.declarations.QueueDecl.{QueueDecl}
use Rattle.sf_script_scene.specs.declared.step.Step.{Step}
use Rattle.sf_script_scene.specs.declared.step.Step.TheVariants as step
use Rattle.sf_actor.specs.Draws.{entered_name}
use Rattle.sf_actor.specs.Makers.{BufferOf, Maker, Run, buffer_in, followed, is_before, same_maker}
use Rattle.sf_actor.specs.Names.{Holdings, Lent, Owing, Token, name_in}
use Rattle.sf_actor.specs.Steps.{owed_by}
use Rattle.sf_actor.specs.Traces.{DoneAt}
use Rattle.sf_actor.specs.Written as written
use Rattle.law_played.specs.Runs.{StepBy, steps_in}

-- all calls on the queues of a scene are enough to follow a buffer back
abbrev pub calls_in : SceneValue → Run → ℕ
calls_in scene run = length (flat_map (λ (queue : QueueDecl). run.calls queue.number) scene.queues)

-- who made a buffer
abbrev pub maker_at : SceneValue → Run → BufferOf → Maker
maker_at scene run buffer = followed (calls_in scene run) run buffer

-- who made a token's buffer
abbrev pub maker_of : SceneValue → Run → Token → Maker
maker_of scene run token = maker_at scene run (buffer_in token)

-- what a step leaves owed: a frame that it queued undrawn
abbrev pub owed_if : Option Token → List Token
owed_if (Some (Owing queue owed)) = Owing queue owed ∷ []
owed_if other = []

-- the drawing that a done step left owed, if it queued a frame undrawn
abbrev pub owed_by_step : DoneAt → Step → List Token
owed_by_step at (step.Queue name picture time crop points) = owed_if (owed_by picture at.done.answered (name_in at.past.holdings name))
owed_by_step at other = []

-- all draws that were ever owed
abbrev pub owed_in : SceneValue → Run → List Token
owed_in scene run = flat_map (λ s. owed_by_step s.at s.at.done.step) (steps_in scene run)

-- a draw that was owed to a frame and is done
pub record Paid : Type 0 where
  pub actor : ℕ
  pub step : ℕ
  pub frame : written.FrameNumber

-- the owed drawings that a done step did
abbrev pub paid_by : StepBy → List Paid
paid_by s = map (λ frame. record { actor = s.actor; step = s.at.place; frame = frame }) (written.paid_at s.at)

-- the owed drawings that were done
abbrev pub payments_in : SceneValue → Run → List Paid
payments_in scene run = flat_map paid_by (steps_in scene run)

-- the reply lends this slot
abbrev pub lends : ℕ → PlainReply → Bool
lends slot (reply.Dequeued of held requested reallocated fence) = of.0 == slot
lends slot (reply.Attached of held) = of.0 == slot
lends slot other = false

-- a frame was queued
abbrev pub is_queued : PlainReply → Bool
is_queued (reply.Queued frame) = true
is_queued other = false

-- how many frames a queue had got when it lent a slot to an actor, the last time before a step; the newest call is the first
abbrev pub frames_at_lending : ℕ → ℕ → ℕ → List Entry → ℕ
frames_at_lending actor place slot [] = 0
frames_at_lending actor place slot (entry ∷ earlier) =
    if (entry.caller.0 == actor) && (nat_lt entry.step place && lends slot entry.reply)
    then length (filter (λ (e : Entry). is_queued e.reply) (entry ∷ earlier))
    else frames_at_lending actor place slot earlier

-- the frame of what a name holds, where owed draws are put in order: that of an owed draw, and for a lease one that is
-- greater than each that was queued before it was lent
abbrev pub turn_frame : Run → StepBy → Token → ℕ
turn_frame run s (Owing queue owed) = owed.frame
turn_frame run s (Lent queue token drawn) = frames_at_lending s.actor s.at.place token.slot.0 (run.calls queue.0) + 1
turn_frame run s other = 0

-- the number of the frame whose drawing is owed
abbrev pub owed_frame : Token → ℕ
owed_frame (Owing queue owed) = owed.frame
owed_frame other = 0

-- the turn of an owed draw is before that of what a name holds at a step
abbrev pub is_earlier : SceneValue → Run → Token → StepBy → Token → Bool
is_earlier scene run owed s token =
    let mine = maker_of scene run owed in
    let theirs = maker_of scene run token in
    same_maker mine theirs && is_before mine.age (owed_frame owed) theirs.age (turn_frame run s token)

-- the drawing is owed to this frame
abbrev pub is_owed_to : Token → written.FrameNumber → Bool
is_owed_to (Owing queue owed) frame = (frame.0.0 == queue.0) && (frame.1 == owed.frame)
is_owed_to other frame = false

-- a draw paid what was owed, and it is no later step of the same actor
abbrev pub pays_before : Token → StepBy → Paid → Bool
pays_before owed s paid = is_owed_to owed paid.frame && not ((paid.actor == s.actor) && nat_le s.at.place paid.step)

-- what a name holds, if there is a name
abbrev pub token_in : Holdings → Option ℕ → Option Token
token_in holdings None = None
token_in holdings (Some name) = name_in holdings name

-- what a draw enters, if the step is one that enters pixels
abbrev pub entered_by : DoneAt → List Token
entered_by at = option_to_list (token_in at.past.holdings (entered_name at.past.holdings at.done.step at.done.answered))

-- a draw of this token comes after an owed drawing: that one is not earlier, or was done before
abbrev pub ComesAfter : SceneValue → Run → StepBy → Token → Token → Type 0
ComesAfter scene run s token owed = (not (is_earlier scene run owed s token) || list_any (pays_before owed s) (payments_in scene run)) ≡ true

-- what a step draws comes after each earlier drawing that was owed
abbrev pub EntersAfter : SceneValue → Run → StepBy → Type 0
EntersAfter scene run s = All (λ token. All (ComesAfter scene run s token) (owed_in scene run)) (entered_by s.at)

-- Turns. Each draw that enters pixels comes after those that were owed to them before.
abbrev pub DrawAfterOwed : SceneValue → Run → Type 0
DrawAfterOwed scene run = All (EntersAfter scene run) (steps_in scene run)

-- The tests of fences: for which points a step waits, which points a step needs before it takes a buffer out of its queue,
-- and which points the steps before have shown.
use Rattle.std.specs.Prelude.{◌==◌, if◌then◌else◌, Option, Some, None}
use Rattle.sf_base.specs.Fences.{Fence, merged, no_points, with_point}
use Rattle.sf_base.specs.declared.fences.Seen.{Seen}
use Rattle.sf_actor.specs.declared.done.Answered.{Answered}
use Rattle.sf_actor.specs.declared.done.Answered.TheVariants as answered
use Rattle.sf_actor.specs.declared.done.Done.{Done}
use Rattle.sf_script_scene.specs.declared.step.Step.{Step}
use Rattle.sf_script_scene.specs.declared.step.Step.TheVariants as step
use Rattle.sf_actor.specs.Names.{Holdings, Token, Lent, Owing, Frame, name_in}

-- the fence of the dequeue, where a draw has to wait for it: nothing was drawn yet
abbrev pub undrawn_fence : Option Token → Option Fence
undrawn_fence (Some (Lent queue token None)) = Some token.fence
undrawn_fence (Some (Owing queue owed)) = Some owed.fence
undrawn_fence other = None

-- what a step waits for
abbrev pub waited_fence : Holdings → Step → Option Fence
waited_fence holdings (step.Wait t v) = Some (with_point no_points t v)
waited_fence holdings (step.Draw s p) = undrawn_fence (name_in holdings s)
waited_fence holdings other = None

-- a loose buffer carries no fence: a requested lease goes out of its queue with the fence of its dequeue signalled, and a
-- frame with its own
abbrev pub requested_fence : Option Token → Option Fence
requested_fence (Some (Lent queue token drawn)) = if token.requested then Some token.fence else None
requested_fence other = None

-- the fence of a frame that a name holds
abbrev pub frame_fence : Option Token → Option Fence
frame_fence (Some (Frame queue token)) = Some token.fence
frame_fence other = None

-- what a step that takes a buffer out of its queue has to wait for
abbrev pub detached_fence : Holdings → Step → Option Fence
detached_fence holdings (step.PDetach s b) = requested_fence (name_in holdings s)
detached_fence holdings (step.CDetach i b) = frame_fence (name_in holdings i)
detached_fence holdings other = None

-- values that are reached where these points are signalled
abbrev pub reached_by : Fence → Seen
reached_by shown = record { values = shown.values }

-- the fence, or none where there is none
abbrev pub or_none : Option Fence → Fence
or_none None = no_points
or_none (Some fence) = fence

-- the points that a step shows to be signalled; where a picture is drawn over another, the first draw showed them
abbrev pub shown_by : Holdings → Step → Answered → Fence
shown_by holdings (step.Signal t v) _ = with_point no_points t v
shown_by holdings (step.Wait t v) _ = with_point no_points t v
shown_by holdings (step.Draw s p) (answered.Own status) = if status == 0 then or_none (undrawn_fence (name_in holdings s)) else no_points
shown_by holdings (step.PDetach s b) (answered.Called reply) = or_none (requested_fence (name_in holdings s))
shown_by holdings (step.CDetach i b) (answered.Called reply) = or_none (frame_fence (name_in holdings i))
shown_by holdings s a = no_points

-- the points that were shown before, and by this step
abbrev pub shown_next : Holdings → Fence → Done → Fence
shown_next holdings shown done = merged shown (shown_by holdings done.step done.answered)

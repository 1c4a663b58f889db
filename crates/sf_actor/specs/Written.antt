-- Which frames were drawn, and which points were signalled, by the steps of a trace.
use Rattle.std.specs.Prelude.{ℕ, ◌==◌, if◌then◌else◌, List, [], ◌∷◌, Option, Some}
use Rattle.std.specs.List.{flat_map}
use Rattle.sf_base.specs.declared.ids.QueueId.{QueueId}
use Rattle.sf_surface.specs.sf_slots.declared.calls.PlainReply.TheVariants as reply
use Rattle.sf_actor.specs.declared.done.Answered.{Answered}
use Rattle.sf_actor.specs.declared.done.Answered.TheVariants as answered
use Rattle.sf_actor.specs.declared.done.Done.{Done}
use Rattle.sf_script_scene.specs.declared.step.Step.{Step}
use Rattle.sf_script_scene.specs.declared.step.Step.TheVariants as step
use Rattle.sf_actor.specs.Names.{Holdings, Token, Lent, Owing, name_in}
use Rattle.sf_actor.specs.Traces.{DoneAt, places_of}

-- a frame, by its queue and number
abbrev pub FrameNumber : Type 0
FrameNumber = QueueId × ℕ

-- a lease that was drawn before it is queued
abbrev pub drawn_frame : Option Token → ℕ → List FrameNumber
drawn_frame (Some (Lent queue token (Some picture))) frame = (queue, frame) ∷ []
drawn_frame token frame = []

-- what was owed to a frame
abbrev pub paid_frame : Option Token → List FrameNumber
paid_frame (Some (Owing queue owed)) = (queue, owed.frame) ∷ []
paid_frame token = []

-- the frame that is written once the step is done: its lease was drawn before it is queued, or its owing is drawn
abbrev pub written_by : Holdings → Step → Answered → List FrameNumber
written_by holdings (step.Queue s p time crop points) (answered.Called (reply.Queued frame)) = drawn_frame (name_in holdings s) frame
written_by holdings (step.Draw s p) (answered.Own status) = if status == 0 then paid_frame (name_in holdings s) else []
written_by holdings s answer = []

-- the frames that a done step wrote
abbrev pub written_at : DoneAt → List FrameNumber
written_at at = written_by at.past.holdings at.done.step at.done.answered

-- the frames that the steps of a trace write
abbrev pub written_in : List Done → List FrameNumber
written_in trace = flat_map written_at (places_of trace)

-- the frames whose owing was drawn
abbrev pub paid_by : Holdings → Step → Answered → List FrameNumber
paid_by holdings (step.Draw s p) (answered.Own status) = if status == 0 then paid_frame (name_in holdings s) else []
paid_by holdings s answer = []

-- the frames whose owed drawing a done step did
abbrev pub paid_at : DoneAt → List FrameNumber
paid_at at = paid_by at.past.holdings at.done.step at.done.answered

abbrev pub paid_in : List Done → List FrameNumber
paid_in trace = flat_map paid_at (places_of trace)

-- the points that done steps signal
abbrev pub signal_of : Step → List (ℕ × ℕ)
signal_of (step.Signal t v) = (t, v) ∷ []
signal_of s = []

-- the points that a trace signalled
abbrev pub signals_of : List Done → List (ℕ × ℕ)
signals_of trace = flat_map (λ (done : Done). signal_of done.step) trace

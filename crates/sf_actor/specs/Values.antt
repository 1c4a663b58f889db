-- What records show of a step's answer.
use Rattle.std.specs.Prelude.{ℕ, if◌then◌else◌, List, [], ◌∷◌, map, Option, Some}
use Rattle.sf_base.specs.Statuses.{number_of}
use Rattle.sf_surface.specs.sf_slots.declared.calls.PlainReply.{PlainReply}
use Rattle.sf_surface.specs.sf_slots.declared.calls.PlainReply.TheVariants as reply
use Rattle.sf_surface.specs.Hands.{points_of}
use Rattle.sf_actor.specs.declared.done.Answered.{Answered}
use Rattle.sf_actor.specs.declared.done.Answered.TheVariants as answered
use Rattle.sf_actor.specs.declared.done.Done.{Done}
use Rattle.sf_actor.specs.declared.tried.Reply.{Reply}
use Rattle.sf_script_scene.specs.declared.step.Step.{Step}
use Rattle.sf_script_scene.specs.declared.step.Step.TheVariants as step
use Rattle.sf_actor.specs.Names.{Holdings, Token, Lent, name_in}
use Rattle.sf_actor.specs.Traces.{DoneAt, places_of}

-- the status of a call's reply, 0 where it was done
abbrev pub reply_status : PlainReply → ℕ
reply_status (reply.Refused status) = number_of status
reply_status other = 0

-- the status of a step: that of the actor's own, or that of the call that the step made
abbrev pub status_of : Answered → ℕ
status_of (answered.Own status) = status
status_of (answered.Called replied) = reply_status replied
status_of (answered.Sent number) = 0

-- values behind the slot of a lent buffer
abbrev pub with_slot : Option Token → List ℕ → List ℕ
with_slot (Some (Lent queue token drawn)) values = token.slot.0 ∷ values
with_slot other values = values

-- the values of a reply, by the step that made its call
abbrev pub values_told : Holdings → Step → PlainReply → List ℕ
values_told holdings s (reply.Dequeued slot held requested reallocated fence) = slot.0 ∷ held.number ∷ (if reallocated then 1 else 0) ∷ points_of fence
values_told holdings (step.Request s) (reply.Requested held) = with_slot (name_in holdings s) (held.number ∷ held.width ∷ held.height ∷ [])
values_told holdings (step.Queue s p time crop points) (reply.Queued frame) = with_slot (name_in holdings s) (frame ∷ [])
values_told holdings (step.PAttach q b s) (reply.Attached slot held) = slot.0 ∷ held.number ∷ []
values_told holdings (step.CAttach q b i) (reply.Attached slot held) = slot.0 ∷ []
values_told holdings s (reply.Acquired item dropped) = item.slot.0 ∷ item.frame ∷ item.picture ∷ dropped ∷ points_of item.fence
values_told holdings s other = []

-- the values of a step that is done
abbrev pub values_with : Holdings → Step → Answered → List ℕ
values_with holdings s (answered.Called replied) = values_told holdings s replied
values_with holdings s (answered.Sent number) = number ∷ []
values_with holdings s (answered.Own status) = []

-- the reply of an actor's step
abbrev pub reply_at : ℕ → DoneAt → Reply
reply_at actor at = record {
  actor = actor;
  step = at.place;
  status = status_of at.done.answered;
  values = values_with at.past.holdings at.done.step at.done.answered;
}

-- the replies of the steps of an actor's trace
abbrev pub replies_of : ℕ → List Done → List Reply
replies_of actor trace = map (reply_at actor) (places_of trace)

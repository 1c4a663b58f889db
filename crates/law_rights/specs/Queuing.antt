-- A step that queued a frame, and one that drew what was owed to it.
use Rattle.std.specs.Prelude.{◌≡◌, ℕ, List, Contains, Option, Some}
use Rattle.sf_base.specs.declared.ids.QueueId.{QueueId}
use Rattle.sf_actor_set.specs.sf_script_scene.declared.step.Step.TheVariants as step
use Rattle.sf_slots.specs.declared.calls.PlainReply.TheVariants as reply
use Rattle.sf_slots.specs.declared.calls.WriteToken.{WriteToken}
use Rattle.sf_actor_set.specs.sf_actor.declared.done.Answered.TheVariants as answered
use Rattle.sf_actor_set.specs.sf_actor.declared.done.Done.{Done}
use Rattle.sf_actor_set.specs.sf_actor.Names.{Lent, name_in}
use Rattle.sf_actor_set.specs.sf_actor.Traces.{DoneAt, places_of}
use Rattle.sf_actor_set.specs.sf_actor.Tries.{ActorOf}
use Rattle.sf_actor_set.specs.sf_actor.Written.{FrameNumber, paid_at}

-- one of a trace's steps queued a frame of this number in this queue
pub record QueuesFrame (trace : List Done) (queue : QueueId) (frame : ℕ) (at : DoneAt) : Type 0 where
  pub there : Contains (places_of trace) at
  pub name : ℕ
  pub picture : ℕ
  pub time : Option ℕ
  pub part : Option (ℕ × ℕ × ℕ × ℕ)
  pub points : List (ℕ × ℕ)
  pub done : at.done ≡ record { step = step.Queue name picture time part points; answered = answered.Called (reply.Queued frame) }
  pub token : WriteToken
  pub drawn : Option ℕ
  pub lent : name_in at.past.holdings name ≡ Some (Lent queue token drawn)

-- a step of an actor drew what was owed to the frame
pub record WasPaidFor {B : Type 0} (ofs : List (ActorOf B)) (frame : FrameNumber) : Type 0 where
  pub of : ActorOf B
  pub there : Contains ofs of
  pub at : DoneAt
  pub done : Contains (places_of of.trace) at
  pub paid : Contains (paid_at at) frame

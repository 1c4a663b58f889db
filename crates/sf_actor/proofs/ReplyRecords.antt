-- What a queue's reply tells is what records show of the step that made its call.
use Rattle.std.proofs.Common.{◌≡◌, ℕ, ◌==◌, Bool, true, false, List, ap, ◌∙◌, sym, refl, Option, Some}
use Rattle.std.proofs.lemmas.Bool.{eq-eqb}
use Rattle.sf_base.specs.Statuses.{number_of}
use Rattle.sf_base.specs.Fences.{Fence}
use Rattle.sf_base.specs.declared.geometry.Rect.{Rect}
use Rattle.sf_base.specs.declared.ids.QueueId.{QueueId}
use Rattle.sf_base.specs.declared.status.QStatus.{QStatus}
use Rattle.sf_script_scene.specs.sf_picture.declared.picture.Picture.{Picture}
use Rattle.sf_script_scene.specs.declared.step.Step.{Step}
use Rattle.sf_script_scene.specs.declared.step.Step.TheVariants as step
use Rattle.sf_surface.specs.sf_slots.declared.calls.PlainReply.{PlainReply}
use Rattle.sf_surface.specs.sf_slots.declared.calls.PlainReply.TheVariants as plain
use Rattle.sf_surface.specs.declared.call.Gives.{Gives}
use Rattle.sf_surface.specs.declared.call.QCall.{QCall}
use Rattle.sf_surface.specs.declared.call.QCall.TheVariants as call
use Rattle.sf_surface.specs.declared.call.QReply.{QReply}
use Rattle.sf_surface.specs.Calls.{write_token}
use Rattle.sf_surface.specs.Hands.{IsReply, done_reply, refused_reply}
use Rattle.sf_surface.specs.Tokens.{EndingOf, LooseOf, ReadLeaseOf, WriteLeaseOf}
use Rattle.sf_surface.specs.sf_turns.Views.{PermitView}
use Rattle.sf_actor.specs.Names.{Holdings, Lent, name_in}
use Rattle.sf_actor.specs.Values.{reply_status, values_told}

module _ {B : Type 0} where
  -- the reply has the status and the values of the step
  pub record Tells (holdings : Holdings) (s : Step) (told : PlainReply) (reply : QReply B) : Type 0 where
    pub status : number_of reply.status ≡ reply_status told
    pub values : reply.values ≡ values_told holdings s told

  refused_tells : (holdings : Holdings) (s : Step) (cause : QStatus) (asked : QCall B) (reply : QReply B) → reply ≡ refused_reply cause asked → Tells holdings s (plain.Refused cause) reply
  refused_tells holdings s cause asked reply is = record { status = ap (λ (r : QReply B). number_of r.status) is; values = ap (λ (r : QReply B). r.values) is }

  done_tells : (holdings : Holdings) (s : Step) (told : PlainReply) (values : List ℕ) (given : Gives B) (ends : Option EndingOf) (spare : Option PermitView) (reply : QReply B) → reply_status told ≡ 0 → values ≡ values_told holdings s told → reply ≡ done_reply values given ends spare → Tells holdings s told reply
  done_tells holdings s told values given ends spare reply none same is = record { status = ap (λ (r : QReply B). number_of r.status) is ∙ sym none; values = ap (λ (r : QReply B). r.values) is ∙ same }

  pub connect_tells : (queue : QueueId) (q : ℕ) (holdings : Holdings) (told : PlainReply) (reply : QReply B) → IsReply queue (call.Connect) told reply → Tells holdings (step.Connect q) told reply
  connect_tells queue q holdings (plain.Refused cause) reply is = refused_tells holdings (step.Connect q) cause (call.Connect) reply is
  connect_tells queue q holdings plain.Done reply is = done_tells holdings (step.Connect q) plain.Done _ _ _ _ reply refl refl is
  connect_tells queue q holdings (plain.Dequeued slot held requested reallocated points) reply is = absurd is
  connect_tells queue q holdings (plain.Requested held) reply is = absurd is
  connect_tells queue q holdings (plain.Queued frame) reply is = absurd is
  connect_tells queue q holdings (plain.Attached slot held) reply is = absurd is
  connect_tells queue q holdings (plain.Acquired item dropped) reply is = absurd is

  pub disconnect_tells : (queue : QueueId) (q : ℕ) (holdings : Holdings) (told : PlainReply) (reply : QReply B) → IsReply queue (call.Disconnect) told reply → Tells holdings (step.Disconnect q) told reply
  disconnect_tells queue q holdings (plain.Refused cause) reply is = refused_tells holdings (step.Disconnect q) cause (call.Disconnect) reply is
  disconnect_tells queue q holdings plain.Done reply is = done_tells holdings (step.Disconnect q) plain.Done _ _ _ _ reply refl refl is
  disconnect_tells queue q holdings (plain.Dequeued slot held requested reallocated points) reply is = absurd is
  disconnect_tells queue q holdings (plain.Requested held) reply is = absurd is
  disconnect_tells queue q holdings (plain.Queued frame) reply is = absurd is
  disconnect_tells queue q holdings (plain.Attached slot held) reply is = absurd is
  disconnect_tells queue q holdings (plain.Acquired item dropped) reply is = absurd is

  pub most_dequeued_tells : (queue : QueueId) (q n : ℕ) (holdings : Holdings) (told : PlainReply) (reply : QReply B) → IsReply queue (call.MaxDequeued n) told reply → Tells holdings (step.MaxDequeued q n) told reply
  most_dequeued_tells queue q n holdings (plain.Refused cause) reply is = refused_tells holdings (step.MaxDequeued q n) cause (call.MaxDequeued n) reply is
  most_dequeued_tells queue q n holdings plain.Done reply is = done_tells holdings (step.MaxDequeued q n) plain.Done _ _ _ _ reply refl refl is
  most_dequeued_tells queue q n holdings (plain.Dequeued slot held requested reallocated points) reply is = absurd is
  most_dequeued_tells queue q n holdings (plain.Requested held) reply is = absurd is
  most_dequeued_tells queue q n holdings (plain.Queued frame) reply is = absurd is
  most_dequeued_tells queue q n holdings (plain.Attached slot held) reply is = absurd is
  most_dequeued_tells queue q n holdings (plain.Acquired item dropped) reply is = absurd is

  pub async_tells : (queue : QueueId) (q : ℕ) (on : Bool) (holdings : Holdings) (told : PlainReply) (reply : QReply B) → IsReply queue (call.Async on) told reply → Tells holdings (step.Async q on) told reply
  async_tells queue q on holdings (plain.Refused cause) reply is = refused_tells holdings (step.Async q on) cause (call.Async on) reply is
  async_tells queue q on holdings plain.Done reply is = done_tells holdings (step.Async q on) plain.Done _ _ _ _ reply refl refl is
  async_tells queue q on holdings (plain.Dequeued slot held requested reallocated points) reply is = absurd is
  async_tells queue q on holdings (plain.Requested held) reply is = absurd is
  async_tells queue q on holdings (plain.Queued frame) reply is = absurd is
  async_tells queue q on holdings (plain.Attached slot held) reply is = absurd is
  async_tells queue q on holdings (plain.Acquired item dropped) reply is = absurd is

  pub most_acquired_tells : (queue : QueueId) (q n : ℕ) (holdings : Holdings) (told : PlainReply) (reply : QReply B) → IsReply queue (call.MaxAcquired n) told reply → Tells holdings (step.MaxAcquired q n) told reply
  most_acquired_tells queue q n holdings (plain.Refused cause) reply is = refused_tells holdings (step.MaxAcquired q n) cause (call.MaxAcquired n) reply is
  most_acquired_tells queue q n holdings plain.Done reply is = done_tells holdings (step.MaxAcquired q n) plain.Done _ _ _ _ reply refl refl is
  most_acquired_tells queue q n holdings (plain.Dequeued slot held requested reallocated points) reply is = absurd is
  most_acquired_tells queue q n holdings (plain.Requested held) reply is = absurd is
  most_acquired_tells queue q n holdings (plain.Queued frame) reply is = absurd is
  most_acquired_tells queue q n holdings (plain.Attached slot held) reply is = absurd is
  most_acquired_tells queue q n holdings (plain.Acquired item dropped) reply is = absurd is

  pub abandon_tells : (queue : QueueId) (q : ℕ) (holdings : Holdings) (told : PlainReply) (reply : QReply B) → IsReply queue (call.Abandon) told reply → Tells holdings (step.Abandon q) told reply
  abandon_tells queue q holdings (plain.Refused cause) reply is = refused_tells holdings (step.Abandon q) cause (call.Abandon) reply is
  abandon_tells queue q holdings plain.Done reply is = done_tells holdings (step.Abandon q) plain.Done _ _ _ _ reply refl refl is
  abandon_tells queue q holdings (plain.Dequeued slot held requested reallocated points) reply is = absurd is
  abandon_tells queue q holdings (plain.Requested held) reply is = absurd is
  abandon_tells queue q holdings (plain.Queued frame) reply is = absurd is
  abandon_tells queue q holdings (plain.Attached slot held) reply is = absurd is
  abandon_tells queue q holdings (plain.Acquired item dropped) reply is = absurd is

  pub cancel_tells : (queue : QueueId) (name : ℕ) (points : List (ℕ × ℕ)) (lease : WriteLeaseOf) (fence : Fence) (holdings : Holdings) (told : PlainReply) (reply : QReply B) → IsReply queue (call.Cancel lease fence) told reply → Tells holdings (step.Cancel name points) told reply
  cancel_tells queue name points lease fence holdings (plain.Refused cause) reply is = refused_tells holdings (step.Cancel name points) cause (call.Cancel lease fence) reply is
  cancel_tells queue name points lease fence holdings plain.Done reply is = done_tells holdings (step.Cancel name points) plain.Done _ _ _ _ reply refl refl is
  cancel_tells queue name points lease fence holdings (plain.Dequeued slot held requested reallocated other) reply is = absurd is
  cancel_tells queue name points lease fence holdings (plain.Requested held) reply is = absurd is
  cancel_tells queue name points lease fence holdings (plain.Queued frame) reply is = absurd is
  cancel_tells queue name points lease fence holdings (plain.Attached slot held) reply is = absurd is
  cancel_tells queue name points lease fence holdings (plain.Acquired item dropped) reply is = absurd is

  pub release_tells : (queue : QueueId) (name : ℕ) (points : List (ℕ × ℕ)) (lease : ReadLeaseOf) (fence : Fence) (holdings : Holdings) (told : PlainReply) (reply : QReply B) → IsReply queue (call.Release lease fence) told reply → Tells holdings (step.Release name points) told reply
  release_tells queue name points lease fence holdings (plain.Refused cause) reply is = refused_tells holdings (step.Release name points) cause (call.Release lease fence) reply is
  release_tells queue name points lease fence holdings plain.Done reply is = done_tells holdings (step.Release name points) plain.Done _ _ _ _ reply refl refl is
  release_tells queue name points lease fence holdings (plain.Dequeued slot held requested reallocated other) reply is = absurd is
  release_tells queue name points lease fence holdings (plain.Requested held) reply is = absurd is
  release_tells queue name points lease fence holdings (plain.Queued frame) reply is = absurd is
  release_tells queue name points lease fence holdings (plain.Attached slot held) reply is = absurd is
  release_tells queue name points lease fence holdings (plain.Acquired item dropped) reply is = absurd is

  pub detach_tells : (queue : QueueId) (from to : ℕ) (lease : WriteLeaseOf) (holdings : Holdings) (told : PlainReply) (reply : QReply B) → IsReply queue (call.Detach lease) told reply → Tells holdings (step.PDetach from to) told reply
  detach_tells queue from to lease holdings (plain.Refused cause) reply is = refused_tells holdings (step.PDetach from to) cause (call.Detach lease) reply is
  detach_tells queue from to lease holdings plain.Done reply is = done_tells holdings (step.PDetach from to) plain.Done _ _ _ _ reply refl refl is
  detach_tells queue from to lease holdings (plain.Dequeued slot held requested reallocated points) reply is = absurd is
  detach_tells queue from to lease holdings (plain.Requested held) reply is = absurd is
  detach_tells queue from to lease holdings (plain.Queued frame) reply is = absurd is
  detach_tells queue from to lease holdings (plain.Attached slot held) reply is = absurd is
  detach_tells queue from to lease holdings (plain.Acquired item dropped) reply is = absurd is

  pub detach_read_tells : (queue : QueueId) (from to : ℕ) (lease : ReadLeaseOf) (holdings : Holdings) (told : PlainReply) (reply : QReply B) → IsReply queue (call.DetachRead lease) told reply → Tells holdings (step.CDetach from to) told reply
  detach_read_tells queue from to lease holdings (plain.Refused cause) reply is = refused_tells holdings (step.CDetach from to) cause (call.DetachRead lease) reply is
  detach_read_tells queue from to lease holdings plain.Done reply is = done_tells holdings (step.CDetach from to) plain.Done _ _ _ _ reply refl refl is
  detach_read_tells queue from to lease holdings (plain.Dequeued slot held requested reallocated points) reply is = absurd is
  detach_read_tells queue from to lease holdings (plain.Requested held) reply is = absurd is
  detach_read_tells queue from to lease holdings (plain.Queued frame) reply is = absurd is
  detach_read_tells queue from to lease holdings (plain.Attached slot held) reply is = absurd is
  detach_read_tells queue from to lease holdings (plain.Acquired item dropped) reply is = absurd is

  pub acquire_tells : (queue : QueueId) (q name : ℕ) (at : Option ℕ) (expected : ℕ) (holdings : Holdings) (told : PlainReply) (reply : QReply B) → IsReply queue (call.Acquire expected) told reply → Tells holdings (step.Acquire q name at) told reply
  acquire_tells queue q name at expected holdings (plain.Refused cause) reply is = refused_tells holdings (step.Acquire q name at) cause (call.Acquire expected) reply is
  acquire_tells queue q name at expected holdings plain.Done reply is = absurd is
  acquire_tells queue q name at expected holdings (plain.Dequeued slot held requested reallocated points) reply is = absurd is
  acquire_tells queue q name at expected holdings (plain.Requested held) reply is = absurd is
  acquire_tells queue q name at expected holdings (plain.Queued frame) reply is = absurd is
  acquire_tells queue q name at expected holdings (plain.Attached slot held) reply is = absurd is
  acquire_tells queue q name at expected holdings (plain.Acquired item dropped) reply is = done_tells holdings (step.Acquire q name at) (plain.Acquired item dropped) _ _ _ _ reply refl refl is.1

  pub attach_tells : (queue : QueueId) (q from to : ℕ) (loose : LooseOf) (holdings : Holdings) (told : PlainReply) (reply : QReply B) → IsReply queue (call.Attach loose) told reply → Tells holdings (step.PAttach q from to) told reply
  attach_tells queue q from to loose holdings (plain.Refused cause) reply is = refused_tells holdings (step.PAttach q from to) cause (call.Attach loose) reply is
  attach_tells queue q from to loose holdings plain.Done reply is = absurd is
  attach_tells queue q from to loose holdings (plain.Dequeued slot held requested reallocated points) reply is = absurd is
  attach_tells queue q from to loose holdings (plain.Requested held) reply is = absurd is
  attach_tells queue q from to loose holdings (plain.Queued frame) reply is = absurd is
  attach_tells queue q from to loose holdings (plain.Attached slot held) reply is = done_tells holdings (step.PAttach q from to) (plain.Attached slot held) _ _ _ _ reply refl refl is
  attach_tells queue q from to loose holdings (plain.Acquired item dropped) reply is = absurd is

  pub attach_read_tells : (queue : QueueId) (q from to : ℕ) (loose : LooseOf) (holdings : Holdings) (told : PlainReply) (reply : QReply B) → IsReply queue (call.AttachRead loose) told reply → Tells holdings (step.CAttach q from to) told reply
  attach_read_tells queue q from to loose holdings (plain.Refused cause) reply is = refused_tells holdings (step.CAttach q from to) cause (call.AttachRead loose) reply is
  attach_read_tells queue q from to loose holdings plain.Done reply is = absurd is
  attach_read_tells queue q from to loose holdings (plain.Dequeued slot held requested reallocated points) reply is = absurd is
  attach_read_tells queue q from to loose holdings (plain.Requested held) reply is = absurd is
  attach_read_tells queue q from to loose holdings (plain.Queued frame) reply is = absurd is
  attach_read_tells queue q from to loose holdings (plain.Attached slot held) reply is = done_tells holdings (step.CAttach q from to) (plain.Attached slot held) _ _ _ _ reply refl refl is
  attach_read_tells queue q from to loose holdings (plain.Acquired item dropped) reply is = absurd is

  pub request_tells : (queue : QueueId) (name : ℕ) (lease : WriteLeaseOf) (drawn : Option ℕ) (holdings : Holdings) (told : PlainReply) (reply : QReply B) → name_in holdings name ≡ Some (Lent lease.queue (write_token lease.queue lease) drawn) → IsReply queue (call.Request lease) told reply → Tells holdings (step.Request name) told reply
  request_tells queue name lease drawn holdings (plain.Refused cause) reply named is = refused_tells holdings (step.Request name) cause (call.Request lease) reply is
  request_tells queue name lease drawn holdings plain.Done reply named is = absurd is
  request_tells queue name lease drawn holdings (plain.Dequeued slot held requested reallocated other) reply named is = absurd is
  request_tells queue name lease drawn holdings (plain.Requested held) reply named is = let met : (lease.queue.0 == lease.queue.0) ≡ true = eq-eqb lease.queue.0 lease.queue.0 refl in done_tells holdings (step.Request name) (plain.Requested held) _ _ _ _ reply refl (rw (named, met) refl) is
  request_tells queue name lease drawn holdings (plain.Queued frame) reply named is = absurd is
  request_tells queue name lease drawn holdings (plain.Attached slot held) reply named is = absurd is
  request_tells queue name lease drawn holdings (plain.Acquired item dropped) reply named is = absurd is

  pub queue_tells : (queue : QueueId) (name p : ℕ) (time : Option ℕ) (crop : Option (ℕ × ℕ × ℕ × ℕ)) (points : List (ℕ × ℕ)) (lease : WriteLeaseOf) (drawn : Option ℕ) (picture : Picture) (shown : Rect) (fence : Fence) (holdings : Holdings) (told : PlainReply) (reply : QReply B) → name_in holdings name ≡ Some (Lent lease.queue (write_token lease.queue lease) drawn) → IsReply queue (call.Queue lease picture time shown fence) told reply → Tells holdings (step.Queue name p time crop points) told reply
  queue_tells queue name p time crop points lease drawn picture shown fence holdings (plain.Refused cause) reply named is = refused_tells holdings (step.Queue name p time crop points) cause (call.Queue lease picture time shown fence) reply is
  queue_tells queue name p time crop points lease drawn picture shown fence holdings plain.Done reply named is = absurd is
  queue_tells queue name p time crop points lease drawn picture shown fence holdings (plain.Dequeued slot held requested reallocated other) reply named is = absurd is
  queue_tells queue name p time crop points lease drawn picture shown fence holdings (plain.Requested held) reply named is = absurd is
  queue_tells queue name p time crop points lease drawn picture shown fence holdings (plain.Queued frame) reply named is = let met : (lease.queue.0 == lease.queue.0) ≡ true = eq-eqb lease.queue.0 lease.queue.0 refl in done_tells holdings (step.Queue name p time crop points) (plain.Queued frame) _ _ _ _ reply refl (rw (named, met) refl) is
  queue_tells queue name p time crop points lease drawn picture shown fence holdings (plain.Attached slot held) reply named is = absurd is
  queue_tells queue name p time crop points lease drawn picture shown fence holdings (plain.Acquired item dropped) reply named is = absurd is

  pub dequeue_tells : (queue : QueueId) (s : Step) (width height : ℕ) (wait : Bool) (permit : PermitView) (holdings : Holdings) (told : PlainReply) (reply : QReply B) → IsReply queue (call.Dequeue width height wait permit) told reply → Tells holdings s told reply
  dequeue_tells queue s width height wait permit holdings (plain.Refused cause) reply is = refused_tells holdings s cause (call.Dequeue width height wait permit) reply is
  dequeue_tells queue s width height wait permit holdings plain.Done reply is = absurd is
  dequeue_tells queue s width height wait permit holdings (plain.Dequeued slot held requested true points) reply is = done_tells holdings s (plain.Dequeued slot held requested true points) _ _ _ _ reply refl refl is
  dequeue_tells queue s width height wait permit holdings (plain.Dequeued slot held requested false points) reply is = done_tells holdings s (plain.Dequeued slot held requested false points) _ _ _ _ reply refl refl is.1
  dequeue_tells queue s width height wait permit holdings (plain.Requested held) reply is = absurd is
  dequeue_tells queue s width height wait permit holdings (plain.Queued frame) reply is = absurd is
  dequeue_tells queue s width height wait permit holdings (plain.Attached slot held) reply is = absurd is
  dequeue_tells queue s width height wait permit holdings (plain.Acquired item dropped) reply is = absurd is

-- A call that may wait and is answered was not refused for want of a free slot.
use Rattle.std.proofs.Common.{◌≡◌, ℕ, true, false, List, refl, ap}
use Rattle.sf_base.specs.declared.ids.QueueId.{QueueId}
use Rattle.sf_base.specs.declared.status.QStatus.TheVariants as status
use Rattle.sf_surface.specs.sf_slots.declared.calls.PlainReply.{PlainReply}
use Rattle.sf_surface.specs.sf_slots.declared.calls.PlainReply.TheVariants as plain
use Rattle.sf_surface.specs.declared.call.QCall.{QCall}
use Rattle.sf_surface.specs.declared.call.QCall.TheVariants as call
use Rattle.sf_surface.specs.declared.call.QReply.{QReply}
use Rattle.sf_surface.specs.declared.mark.QueueMark.{QueueMark}
use Rattle.sf_surface.specs.Calls.{told_call}
use Rattle.sf_surface.specs.Hands.{IsReply}
use Rattle.sf_surface.specs.Histories.{Made, Replied, told_reply}
use Rattle.sf_actor.specs.Traces.{HasNotWaited, is_blocked}

module _ {B : Type 0} where
  -- a reply of another status is to another answer
  unblocked : (queue : QueueId) (asked : QCall B) (told : PlainReply) (reply : QReply B) → IsReply queue asked told reply → (reply.status ≡ status.WouldBlock → ⊥) → is_blocked told ≡ false
  unblocked queue asked (plain.Refused status.WouldBlock) reply is other = absurd (other (ap (λ (r : QReply B). r.status) is))
  unblocked queue asked (plain.Refused status.Ok) reply is other = refl
  unblocked queue asked (plain.Refused status.Stale) reply is other = refl
  unblocked queue asked (plain.Refused status.NoBuffer) reply is other = refl
  unblocked queue asked (plain.Refused status.PresentLater) reply is other = refl
  unblocked queue asked (plain.Refused status.NoInit) reply is other = refl
  unblocked queue asked (plain.Refused status.BadValue) reply is other = refl
  unblocked queue asked (plain.Refused status.InvalidOperation) reply is other = refl
  unblocked queue asked (plain.Refused status.NoSlot) reply is other = refl
  unblocked queue asked plain.Done reply is other = refl
  unblocked queue asked (plain.Dequeued slot held requested reallocated fence) reply is other = refl
  unblocked queue asked (plain.Requested held) reply is other = refl
  unblocked queue asked (plain.Queued frame) reply is other = refl
  unblocked queue asked (plain.Attached slot held) reply is other = refl
  unblocked queue asked (plain.Acquired item dropped) reply is other = refl

  -- what a queue answers to a call, as it understands the call
  pub unwaited_by : (mark : QueueMark) (log : List (Made B)) (by : ℕ) (asked : QCall B) (reply : QReply B) → Replied mark log by asked reply → HasNotWaited (mark.queue, told_call mark.queue asked) (told_reply mark log by asked)
  unwaited_by mark log by (call.Dequeue width height true permit) reply is =
      unblocked mark.queue (call.Dequeue width height true permit) (told_reply mark log by (call.Dequeue width height true permit)) reply is.answer (λ blocked. is.waited refl blocked)
  unwaited_by mark log by (call.Dequeue width height false permit) reply is = refl
  unwaited_by mark log by call.Connect reply is = refl
  unwaited_by mark log by call.Disconnect reply is = refl
  unwaited_by mark log by (call.MaxDequeued n) reply is = refl
  unwaited_by mark log by (call.Async on) reply is = refl
  unwaited_by mark log by (call.Request lease) reply is = refl
  unwaited_by mark log by (call.Queue lease picture time crop fence) reply is = refl
  unwaited_by mark log by (call.Cancel lease fence) reply is = refl
  unwaited_by mark log by (call.Detach lease) reply is = refl
  unwaited_by mark log by (call.Attach loose) reply is = refl
  unwaited_by mark log by (call.MaxAcquired n) reply is = refl
  unwaited_by mark log by call.Abandon reply is = refl
  unwaited_by mark log by (call.Acquire expected) reply is = refl
  unwaited_by mark log by (call.Release lease fence) reply is = refl
  unwaited_by mark log by (call.DetachRead lease) reply is = refl
  unwaited_by mark log by (call.AttachRead loose) reply is = refl

-- What the records of a run show of a call on a queue.
use Rattle.std.specs.Prelude.{ℕ}
use Rattle.sf_base.specs.Slots.{no_slot}
use Rattle.sf_base.specs.Statuses.{number_of}
use Rattle.sf_slots.specs.declared.calls.PlainCall.{PlainCall}
use Rattle.sf_slots.specs.declared.calls.PlainCall.TheVariants as call
use Rattle.sf_slots.specs.declared.calls.PlainReply.{PlainReply}
use Rattle.sf_slots.specs.declared.calls.PlainReply.TheVariants as reply

-- the number of a call's kind
abbrev pub kind_number : PlainCall → ℕ
kind_number call.Connect = 1
kind_number call.Disconnect = 2
kind_number (call.MaxDequeued n) = 3
kind_number (call.Async on) = 4
kind_number (call.Dequeue width height wait) = 5
kind_number (call.Request lease) = 6
kind_number (call.Queue lease picture width height time crop fence) = 7
kind_number (call.Cancel lease fence) = 8
kind_number (call.Detach lease) = 9
kind_number (call.Attach held) = 10
kind_number (call.MaxAcquired n) = 11
kind_number call.Abandon = 12
kind_number (call.Acquire expected) = 13
kind_number (call.Release lease fence) = 14
kind_number (call.DetachRead lease) = 15
kind_number (call.AttachRead held) = 16

-- the number of a reply's status, 0 where the call was done
abbrev pub status_shown : PlainReply → ℕ
status_shown (reply.Refused status) = number_of status
status_shown answered = 0

-- the slot that a call names, or got
abbrev pub slot_shown : PlainCall → PlainReply → ℕ
slot_shown (call.Request lease) answered = lease.slot.0
slot_shown (call.Queue lease picture width height time crop fence) answered = lease.slot.0
slot_shown (call.Cancel lease fence) answered = lease.slot.0
slot_shown (call.Detach lease) answered = lease.slot.0
slot_shown (call.Release lease fence) answered = lease.slot.0
slot_shown (call.DetachRead lease) answered = lease.slot.0
slot_shown asked (reply.Dequeued slot held requested reallocated fence) = slot.0
slot_shown asked (reply.Attached slot held) = slot.0
slot_shown asked (reply.Acquired item dropped) = item.slot.0
slot_shown asked answered = no_slot.0

-- the frame that a call names, or got
abbrev pub frame_shown : PlainCall → PlainReply → ℕ
frame_shown (call.Release lease fence) answered = lease.frame
frame_shown (call.DetachRead lease) answered = lease.frame
frame_shown asked (reply.Queued frame) = frame
frame_shown asked (reply.Acquired item dropped) = item.frame
frame_shown asked answered = 0

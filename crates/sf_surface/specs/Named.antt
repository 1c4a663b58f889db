-- What a call says to the record of a queue's history before it is made, and what its reply adds.
use Rattle.std.specs.Prelude.{ℕ, Bool, true, false, if◌then◌else◌, List, [], ◌∷◌, Some, None, unwrap_or}
use Rattle.sf_base.specs.Statuses.{number_of}
use Rattle.sf_base.specs.declared.ids.QueueId.{QueueId}
use Rattle.sf_base.specs.declared.ids.SlotId.{SlotId}
use Rattle.sf_surface.specs.declared.call.Gives.{Gives}
use Rattle.sf_surface.specs.declared.call.Gives.TheVariants as gives
use Rattle.sf_surface.specs.declared.call.QCall.{QCall}
use Rattle.sf_surface.specs.declared.call.QCall.TheVariants as call
use Rattle.sf_surface.specs.declared.call.QReply.{QReply}
use Rattle.sf_surface.specs.declared.entry.HistEntry.{HistEntry}
use Rattle.sf_surface.specs.declared.entry.Named.{Named}
use Rattle.sf_surface.specs.Calls.{named_slot, no_slot, queued_slot}

abbrev pub first_or : ℕ → List ℕ → ℕ
first_or none [] = none
first_or none (x ∷ xs) = x

-- the second value of a reply, or what stands for none
abbrev pub second_or : ℕ → List ℕ → ℕ
second_or none [] = none
second_or none (x ∷ xs) = first_or none xs

abbrev pub names : ℕ → SlotId → ℕ → Named
names kind slot frame = record { kind = kind; slot = Some slot; frame = frame; gets_frame = false }

abbrev pub gets : ℕ → Bool → Named
gets kind gets_frame = record { kind = kind; slot = None; frame = 0; gets_frame = gets_frame }

module _ {B : Type 0} where
  -- the number of a call's kind, and the slot and frame that it names
  abbrev pub named_of : QueueId → QCall B → Named
  named_of queue call.Connect = gets 1 false
  named_of queue call.Disconnect = gets 2 false
  named_of queue (call.MaxDequeued n) = gets 3 false
  named_of queue (call.Async on) = gets 4 false
  named_of queue (call.Dequeue width height wait permit) = gets 5 false
  named_of queue (call.Request lease) = names 6 (named_slot queue lease.queue lease.slot) 0
  named_of queue (call.Queue lease picture time crop fence) = record { kind = 7; slot = Some (queued_slot queue lease picture); frame = 0; gets_frame = true }
  named_of queue (call.Cancel lease fence) = names 8 (named_slot queue lease.queue lease.slot) 0
  named_of queue (call.Detach lease) = names 9 (named_slot queue lease.queue lease.slot) 0
  named_of queue (call.Attach loose) = gets 10 false
  named_of queue (call.MaxAcquired n) = gets 11 false
  named_of queue call.Abandon = gets 12 false
  named_of queue (call.Acquire expected) = gets 13 true
  named_of queue (call.Release lease fence) = names 14 (named_slot queue lease.queue lease.slot) lease.frame
  named_of queue (call.DetachRead lease) = names 15 (named_slot queue lease.queue lease.slot) lease.frame
  named_of queue (call.AttachRead loose) = gets 16 false

  -- the slot of a lease that a reply gives
  abbrev pub got_slot : Gives B → SlotId
  got_slot (gives.Write lease) = lease.slot
  got_slot (gives.Read lease) = lease.slot
  got_slot given = no_slot

  -- the entry of a call of a caller's step
  abbrev pub shown_with : ℕ → ℕ → Named → QReply B → HistEntry
  shown_with by step named reply = record {
    caller = by;
    step = step;
    kind = named.kind;
    status = number_of reply.status;
    slot = (unwrap_or named.slot (got_slot reply.gives)).0;
    frame = if named.gets_frame then second_or 0 reply.values else named.frame;
  }

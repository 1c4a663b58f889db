-- The lease that a consumer means by a slot and a frame's number.
use Rattle.std.specs.Prelude.{Some, IsSome, ◌≡◌, ◌<◌, ℕ, unwrap_or, Result, Ok, Err}
use Rattle.sf_base.specs.Fences.{no_points}
use Rattle.sf_base.specs.declared.ids.ActorId.{ActorId}
use Rattle.sf_base.specs.declared.ids.SlotId.{SlotId}
use Rattle.sf_base.specs.declared.status.QStatus.{QStatus}
use Rattle.sf_slots.specs.declared.calls.PlainCall.{PlainCall}
use Rattle.sf_slots.specs.declared.calls.PlainReply.{PlainReply}
use Rattle.sf_slots.specs.declared.calls.PlainReply.TheVariants as reply
use Rattle.sf_slots.specs.declared.calls.ReadToken.{ReadToken}
use Rattle.sf_slots.specs.declared.slot.Held.{Held}
use Rattle.sf_slots.specs.declared.slot.SlotState.TheVariants.{Acquired}
use Rattle.sf_slots.specs.Queue.{Queue, told_of}
use Rattle.sf_slots.specs.Tells.{Continues}
use Rattle.sf_slots.specs.Told.{Told, slot_at}
use Rattle.std.specs.Prelude.{pos}

abbrev pub no_buffer : Held
no_buffer = record { number = 0; width = 0; height = 0 }

-- a buffer of this size
abbrev pub sized : ℕ → ℕ → Held
sized width height = record { number = 0; width = width; height = height }

-- the lease of the slot's own buffer, for a frame
abbrev pub lease_of : Told → SlotId → ℕ → ReadToken
lease_of told slot frame = record {
  slot = slot;
  frame = frame;
  held = unwrap_or (slot_at told slot.0).held no_buffer;
  picture = 0;
  crop = record { x = pos 0; y = pos 0; width = 0; height = 0 };
  fence = no_points;
}

-- a lease says the slot and the frame that are meant: where the slot is with the consumer for this
-- frame, its buffer is the lease's
pub record IsLeaseOf (told : Told) (place : SlotId) (number : ℕ) (lease : ReadToken) : Type 0 where
  pub slot : lease.slot ≡ place
  pub frame : lease.frame ≡ number
  pub whole : (held : Held) → (slot_at told place.0).state ≡ Acquired → (slot_at told place.0).held ≡ Some held
      → (slot_at told place.0).frame ≡ number → lease.held ≡ held

-- of each caller, and for whichever lease says the slot and the frame that are meant, the history of a queue goes on with the call of
-- that lease and this reply
abbrev pub ContinuesFor : {R : Type 0} → Queue R → Queue R → SlotId → ℕ → (ReadToken → PlainCall) → PlainReply → Type 0
ContinuesFor before after slot number asked told =
    (by : ActorId) (lease : ReadToken) → IsLeaseOf (told_of before) slot number lease → Continues before after by (asked lease) told

-- the reply to an attach
abbrev pub attach_reply : Result (SlotId × Held) QStatus → PlainReply
attach_reply (Err refused) = reply.Refused refused
attach_reply (Ok given) = reply.Attached given.0 given.1

-- the slot is with the consumer, with a buffer
pub record IsTakenThere (told : Told) (slot : SlotId) : Type 0 where
  pub below : slot.0 < 64
  pub taken : (slot_at told slot.0).state ≡ Acquired
  pub buffer : IsSome (slot_at told slot.0).held

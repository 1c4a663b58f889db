-- The lease that a producer means by a slot and a buffer's number.
use Rattle.std.specs.Prelude.{◌≡◌, ◌<◌, ℕ, Bool, true, false, ◌==◌, if◌then◌else◌, Option, Some, None}
use Rattle.sf_base.specs.Fences.{no_points}
use Rattle.sf_base.specs.declared.ids.ActorId.{ActorId}
use Rattle.sf_base.specs.declared.ids.SlotId.{SlotId}
use Rattle.sf_slots.specs.declared.calls.PlainCall.{PlainCall}
use Rattle.sf_slots.specs.declared.calls.PlainCall.TheVariants as call
use Rattle.sf_slots.specs.declared.calls.PlainReply.{PlainReply}
use Rattle.sf_slots.specs.declared.calls.WriteToken.{WriteToken}
use Rattle.sf_slots.specs.declared.slot.Held.{Held}
use Rattle.sf_slots.specs.Queue.{Queue, told_of}
use Rattle.sf_slots.specs.Tells.{Continues}
use Rattle.sf_slots.specs.Told.{Told, slot_at}
use Rattle.sf_slots.specs.Replies.{is_lent}
use Rattle.sf_slots.specs.declared.slot.SlotState.TheVariants.{Dequeued}

-- no buffer has this number and size
abbrev pub sizeless : ℕ → Held
sizeless number = record { number = number; width = 0; height = 0 }

abbrev pub numbered : Option Held → ℕ → Held
numbered None number = sizeless number
numbered (Some held) number = if held.number == number then held else sizeless number

-- the buffer that is meant by a number: that of the slot, if it has this number
abbrev pub meant : Told → SlotId → ℕ → Held
meant told slot number = numbered (slot_at told slot.0).held number

-- the lease that is meant
abbrev pub lease_of : Told → SlotId → ℕ → WriteToken
lease_of told slot number = record { slot = slot; held = meant told slot number; requested = false; fence = no_points; drawn = false }

-- a lease says the slot and the buffer that are meant: where the slot's buffer has the number, it is
-- the lease's
pub record IsLeaseOf (told : Told) (place : SlotId) (number : ℕ) (lease : WriteToken) : Type 0 where
  pub slot : lease.slot ≡ place
  pub numbered : lease.held.number ≡ number
  pub whole : (held : Held) → (slot_at told place.0).held ≡ Some held → held.number ≡ number → lease.held ≡ held

-- whichever lease says the slot and the buffer that are meant, the history of a queue goes on with the call and the reply of that lease
abbrev pub ContinuesByLease : {R : Type 0} → Queue R → Queue R → ActorId → SlotId → ℕ → (WriteToken → PlainCall) → (WriteToken → PlainReply) → Type 0
ContinuesByLease before after by slot number asked told =
    (lease : WriteToken) → IsLeaseOf (told_of before) slot number lease → Continues before after by (asked lease) (told lease)

-- the same, where the reply is the same for each of these leases
abbrev pub ContinuesFor : {R : Type 0} → Queue R → Queue R → ActorId → SlotId → ℕ → (WriteToken → PlainCall) → PlainReply → Type 0
ContinuesFor before after by slot number asked told = ContinuesByLease before after by slot number asked (λ lease. told)

-- cancelling, or detaching, which needs a requested buffer
abbrev pub lent_call : Bool → WriteToken → PlainCall
lent_call true lease = call.Detach lease
lent_call false lease = call.Cancel lease no_points

-- the slot is lent with the buffer that is meant, which is this one
pub record IsLentThere (told : Told) (slot : SlotId) (number : ℕ) (held : Held) : Type 0 where
  pub below : slot.0 < 64
  pub lent : (slot_at told slot.0).state ≡ Dequeued
  pub here : (slot_at told slot.0).held ≡ Some held
  pub same : held ≡ meant told slot number
  pub met : is_lent told slot (meant told slot number) ≡ true

-- the buffer is found exactly where the slot is lent with it
abbrev pub FindsLent : Told → SlotId → ℕ → Option Held → Type 0
FindsLent told slot number None = is_lent told slot (meant told slot number) ≡ false
FindsLent told slot number (Some held) = IsLentThere told slot number held

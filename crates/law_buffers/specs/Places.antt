-- Where the buffers of a queue are, after calls on it.
use Rattle.std.specs.Prelude.{◌≡◌, ℕ, List, Some, Contains}
use Rattle.sf_slots.specs.History.{told_by}
use Rattle.sf_slots.specs.Tells.{AreReplies}
use Rattle.sf_slots.specs.declared.calls.Entry.{Entry}
use Rattle.sf_slots.specs.declared.item.PlainItem.{PlainItem}
use Rattle.sf_slots.specs.declared.slot.Held.{Held}
use Rattle.sf_slots.specs.declared.slot.SlotState.{SlotState}
use Rattle.sf_slots.specs.declared.slot.SlotState.TheVariants.{Free, Dequeued, Acquired}
use Rattle.sf_slots.specs.Told.{Told, slot_at}

-- where a buffer is: kept in a free slot, lent to the producer, in a frame that waits, or with the consumer
pub data Place : Type 0 where
  Kept : ℕ → Place
  Lent : ℕ → Place
  Waits : PlainItem → Place
  Taken : ℕ → Place

-- a slot has the buffer of this number, and is in this state
pub record HasBuffer (told : Told) (slot number : ℕ) (state : SlotState) : Type 0 where
  pub stated : (slot_at told slot).state ≡ state
  pub held : Held
  pub here : (slot_at told slot).held ≡ Some held
  pub numbered : held.number ≡ number

-- a frame that waits has the buffer of this number
pub record WaitsWith (told : Told) (item : PlainItem) (number : ℕ) : Type 0 where
  pub waits : Contains told.items item
  pub numbered : item.held.number ≡ number

-- the buffer of this number is there
abbrev pub IsThere : Told → ℕ → Place → Type 0
IsThere told number (Kept slot) = HasBuffer told slot number Free
IsThere told number (Lent slot) = HasBuffer told slot number Dequeued
IsThere told number (Waits item) = WaitsWith told item number
IsThere told number (Taken slot) = HasBuffer told slot number Acquired

-- the buffer of this number is somewhere
abbrev pub IsSomewhere : Told → ℕ → Type 0
IsSomewhere told number = (place : Place) × IsThere told number place

-- Calls on a queue whose replies are those that its calls say.
pub record RepliedCalls : Type 0 where
  -- the size of the queue's buffers
  pub width : ℕ
  pub height : ℕ
  pub calls : List Entry
  pub replies : AreReplies width height calls

-- the queue after them
abbrev pub told_after : RepliedCalls → Told
told_after so = told_by so.width so.height so.calls

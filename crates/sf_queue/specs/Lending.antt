-- What a dequeue and an attach take and give.
use Rattle.std.specs.Prelude.{◌≡◌, ◌<◌, ℕ, Bool, true, false, not, ◌&&◌, if◌then◌else◌, Option, Some, None, is_none, unwrap_or, Result, Ok, Err}
use Rattle.sf_base.specs.declared.ids.SlotId.{SlotId}
use Rattle.sf_base.specs.declared.ids.ActorId.{ActorId}
use Rattle.sf_slots.specs.declared.calls.PlainCall.TheVariants as call
use Rattle.sf_base.specs.declared.status.QStatus.{QStatus}
use Rattle.sf_slots.specs.declared.calls.PlainReply.{PlainReply}
use Rattle.sf_slots.specs.declared.calls.PlainReply.TheVariants as reply
use Rattle.sf_slots.specs.declared.slot.SlotState.TheVariants.{Free}
use Rattle.sf_slots.specs.Queue.{Queue, IsSound, told_of, slot_in, right_in, next_held, lent, seated}
use Rattle.sf_slots.specs.declared.slot.Held.{Held}
use Rattle.sf_base.specs.Fences.{no_points}
use Rattle.sf_queue.specs.declared.lending.Chosen.{Chosen}
use Rattle.sf_queue.specs.declared.lending.Dequeued.{Dequeued}
use Rattle.sf_slots.specs.Told.{Told, slot_at, slot_for, usable}
use Rattle.sf_slots.specs.Replies.{refusal_of, size_asked, has_size}

-- the slot that is taken next
pub record IsSlotFor {R : Type 0} (with_buffer : Bool) (q : Queue R) (slot : SlotId) : Type 0 where
  pub chosen : slot_for with_buffer (told_of q) ≡ Some slot.0
  pub inside : slot.0 < usable q.settings
  pub below : slot.0 < 64
  pub free : (slot_in q slot.0).state ≡ Free

-- a dequeue that is not refused needs a new buffer: the slot has none of the size
abbrev pub wants_buffer : Told → ℕ → ℕ → Bool
wants_buffer told width height = not (has_size (slot_at told (unwrap_or (slot_for true told) 0)).held (size_asked told.settings width height))

-- a dequeue makes a new buffer
abbrev pub takes_fresh : Told → ActorId → ℕ → ℕ → Bool
takes_fresh told by width height = is_none (refusal_of told by (call.Dequeue width height false)) && wants_buffer told width height

-- what a dequeue that is not refused lends: the slot that is taken next, with a buffer of the size that is asked for
pub record IsChosen {R : Type 0} (q : Queue R) (by : ActorId) (width height : ℕ) (chosen : Chosen) : Type 0 where
  pub allowed : refusal_of (told_of q) by (call.Dequeue width height false) ≡ None
  pub slot : IsSlotFor true q chosen.slot
  pub wide : chosen.width ≡ (size_asked q.settings width height).0
  pub high : chosen.height ≡ (size_asked q.settings width height).1
  pub needs : chosen.needs ≡ wants_buffer (told_of q) width height
  pub requested : chosen.requested ≡ (slot_in q chosen.slot.0).requested
  pub sound : IsSound q

-- a buffer of this size, whose number does not matter
abbrev pub sized : ℕ → ℕ → Held
sized width height = record { number = 0; width = width; height = height }

-- the slot's own buffer is lent
pub record IsReused {R : Type 0} (old new : Queue R) (given : Dequeued R) : Type 0 where
  pub slot : slot_for true (told_of old) ≡ Some given.slot.0
  pub held : (slot_in old given.slot.0).held ≡ Some given.held
  pub reallocated : given.reallocated ≡ false
  pub fence : given.fence ≡ (slot_in old given.slot.0).fence
  pub right : right_in old given.slot.0 ≡ Some given.right
  pub old_right : given.old ≡ None
  pub after : new ≡ lent old given.slot.0

-- a new buffer is lent
pub record IsRenewed {R : Type 0} (old new : Queue R) (size : ℕ × ℕ) (fresh : R) (given : Dequeued R) : Type 0 where
  pub slot : slot_for true (told_of old) ≡ Some given.slot.0
  pub held : given.held ≡ next_held old size.0 size.1
  pub reallocated : given.reallocated ≡ true
  pub fence : given.fence ≡ no_points
  pub right : given.right ≡ fresh
  pub old_right : given.old ≡ right_in old given.slot.0
  pub after : new ≡ seated (lent old given.slot.0) given.slot.0 size.0 size.1 false

-- the reply to a dequeue that lends a buffer: a new buffer is not requested yet
abbrev pub dequeued_reply : {R : Type 0} → Queue R → Dequeued R → PlainReply
dequeued_reply old given =
    reply.Dequeued given.slot given.held
    (if given.reallocated then false else (slot_in old given.slot.0).requested) given.reallocated given.fence

-- the reply to a dequeue
abbrev pub dequeue_reply : {R B : Type 0} → Queue R → Result (Dequeued R) (QStatus × B) → PlainReply
dequeue_reply old (Err refused) = reply.Refused refused.0
dequeue_reply old (Ok given) = dequeued_reply old given

-- the reply to an attach
abbrev pub attach_reply : Result (SlotId × Held) QStatus → PlainReply
attach_reply (Err refused) = reply.Refused refused
attach_reply (Ok given) = reply.Attached given.0 given.1

-- what a dequeue gives: the slot that is taken next, with the right that was handed in for a new
-- buffer of the size, or else with the buffer, the right and the fence that lay in the slot
abbrev pub IsGiven : {R : Type 0} → Queue R → Queue R → ℕ → ℕ → Option R → Dequeued R → Type 0
IsGiven old new width height None given = IsReused old new given
IsGiven old new width height (Some fresh) given = IsRenewed old new (size_asked old.settings width height) fresh given

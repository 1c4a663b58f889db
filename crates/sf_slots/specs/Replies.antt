-- The reply to each call: the first refusal whose test is met, in the order of the tests, or else what
-- the call gives.
use Rattle.std.specs.Prelude.{ℕ, ◌+◌, Bool, true, false, not, ◌==◌, ◌||◌, ◌&&◌, nat_lt, nat_le, if◌then◌else◌}
use Rattle.std.specs.Prelude.{pos, ◌+ℤ◌, int_le, List, [], ◌∷◌, Option, Some, None, is_some, is_none, unwrap_or, slice_get}
use Rattle.sf_base.specs.Fences.{no_points}
use Rattle.sf_base.specs.declared.geometry.Rect.{Rect}
use Rattle.sf_base.specs.declared.ids.ActorId.{ActorId}
use Rattle.sf_base.specs.declared.ids.SlotId.{SlotId}
use Rattle.sf_base.specs.declared.status.QStatus.{QStatus}
use Rattle.sf_base.specs.declared.status.QStatus.TheVariants as status
use Rattle.sf_slots.specs.declared.calls.Entry.{Entry}
use Rattle.sf_slots.specs.declared.calls.PlainCall.{PlainCall}
use Rattle.sf_slots.specs.declared.calls.PlainCall.TheVariants as call
use Rattle.sf_slots.specs.declared.calls.PlainReply.{PlainReply}
use Rattle.sf_slots.specs.declared.calls.PlainReply.TheVariants as reply
use Rattle.sf_slots.specs.declared.item.PlainItem.{PlainItem}
use Rattle.sf_slots.specs.declared.settings.Settings.{Settings}
use Rattle.sf_slots.specs.declared.slot.Held.{Held}
use Rattle.sf_slots.specs.declared.slot.SlotState.TheVariants.{Dequeued, Acquired}
use Rattle.sf_slots.specs.Told.{Told, slot_at, is_in, count_in, usable_with, forbids, slot_for}
use Rattle.sf_slots.specs.History.{told_by}

-- a test with the refusal that it means
abbrev pub Refusal : Type 0
Refusal = Bool × QStatus

-- the first test that is met decides
abbrev pub first_met : List Refusal → Option QStatus
first_met [] = None
first_met (refusal ∷ more) = if refusal.0 then Some refusal.1 else first_met more

-- the caller is the connected producer
abbrev pub is_producer : Option ActorId → ActorId → Bool
is_producer None caller = false
is_producer (Some producer) caller = producer.0 == caller.0

-- two buffers of one number and size
abbrev pub same_buffer : Held → Held → Bool
same_buffer a b = (a.number == b.number) && ((a.width == b.width) && (a.height == b.height))

-- the buffer is there and is this one
abbrev pub is_buffer : Option Held → Held → Bool
is_buffer None buffer = false
is_buffer (Some held) buffer = same_buffer held buffer

-- the slot is lent to the producer with this buffer
abbrev pub is_lent : Told → SlotId → Held → Bool
is_lent told slot buffer = is_in Dequeued (slot_at told slot.0) && is_buffer (slot_at told slot.0).held buffer

-- the slot is with the consumer with this buffer
abbrev pub is_taken : Told → SlotId → Held → Bool
is_taken told slot buffer = is_in Acquired (slot_at told slot.0) && is_buffer (slot_at told slot.0).held buffer

-- once something was queued, the producer may hold so many buffers at most
abbrev pub is_producer_full : Told → Bool
is_producer_full told = told.settings.queued && nat_le told.settings.max_dequeued (count_in Dequeued told)

-- the consumer may hold one buffer more than the limit says
abbrev pub is_consumer_full : Told → Bool
is_consumer_full told = nat_le (told.settings.max_acquired + 1) (count_in Acquired told)

-- a number outside a range
abbrev pub is_outside : ℕ → ℕ → ℕ → Bool
is_outside low high n = nat_lt n low || nat_lt high n

-- no size that can be asked for: one side alone is 0, or one is too long
abbrev pub is_wrong_size : ℕ → ℕ → Bool
is_wrong_size width height = ((width == 0) && not (height == 0)) || ((not (width == 0) && (height == 0)) || (nat_lt 512 width || nat_lt 512 height))

-- the crop has a point and lies in the buffer
abbrev pub is_crop_of : Held → Rect → Bool
is_crop_of held crop =
    (nat_le 1 crop.width && nat_le 1 crop.height)
    && ((int_le (pos 0) crop.x && int_le (pos 0) crop.y)
    && (int_le (crop.x +ℤ pos crop.width) (pos held.width) && int_le (crop.y +ℤ pos crop.height) (pos held.height)))

-- an item's present time, 0 if it is automatic
abbrev pub time_of : PlainItem → ℕ
time_of item = unwrap_or item.time 0

-- a present time that is expected has come for the item, and not more than a second ago
abbrev pub has_just_come : ℕ → PlainItem → Bool
has_just_come expected item = not (expected == 0) && (nat_le (time_of item) expected && nat_le expected (time_of item + 1000000000))

-- how many items are dropped from the front, with those behind it: it goes where its time is explicit
-- and the time of the next one has just come
abbrev pub dropped_with : ℕ → PlainItem → List PlainItem → ℕ
dropped_with expected front [] = 0
dropped_with expected front (second ∷ more) = if is_some front.time && has_just_come expected second then dropped_with expected second more + 1 else 0

-- how many items in front are dropped for this present time
abbrev pub dropped_count : ℕ → List PlainItem → ℕ
dropped_count expected [] = 0
dropped_count expected (front ∷ more) = dropped_with expected front more

-- an item is due where no time is expected, where its time has come, or where it lies more than a
-- second ahead and so is no real time
abbrev pub is_due : ℕ → PlainItem → Bool
is_due expected item = (expected == 0) || (nat_le (time_of item) expected || nat_lt (expected + 1000000000) (time_of item))

-- the item that is acquired if it is due
abbrev pub front_after_drops : ℕ → Told → Option PlainItem
front_after_drops expected told = slice_get told.items (dropped_count expected told.items)

-- an item is due, if there is one
abbrev pub is_due_if_there : ℕ → Option PlainItem → Bool
is_due_if_there expected None = true
is_due_if_there expected (Some item) = is_due expected item

-- only the connected producer may make these calls
abbrev pub is_producers_own : PlainCall → Bool
is_producers_own call.Disconnect = true
is_producers_own (call.Dequeue width height wait) = true
is_producers_own (call.Request lease) = true
is_producers_own (call.Queue lease picture width height time crop fence) = true
is_producers_own (call.Cancel lease fence) = true
is_producers_own (call.Detach lease) = true
is_producers_own (call.Attach held) = true
is_producers_own _ = false

-- the tests of each call, in their order
abbrev pub own_refusals : Told → PlainCall → List Refusal
own_refusals told call.Connect = (is_some told.settings.connected, status.BadValue) ∷ []
own_refusals told call.Disconnect = []
own_refusals told (call.MaxDequeued n) =
    (is_outside 1 63 n, status.BadValue)
    ∷ (nat_lt n (count_in Dequeued told), status.BadValue)
    ∷ (forbids told (usable_with told.settings.max_acquired n told.settings.asynchronous), status.BadValue)
    ∷ []
own_refusals told (call.Async on) =
    (forbids told (usable_with told.settings.max_acquired told.settings.max_dequeued on), status.BadValue) ∷ []
own_refusals told (call.Dequeue width height wait) =
    (is_wrong_size width height, status.BadValue)
    ∷ (is_producer_full told, status.InvalidOperation)
    ∷ (is_none (slot_for true told), status.WouldBlock)
    ∷ []
own_refusals told (call.Request lease) = (not (is_lent told lease.slot lease.held), status.BadValue) ∷ []
own_refusals told (call.Queue lease picture width height time crop fence) =
    (not (is_lent told lease.slot lease.held), status.BadValue)
    ∷ (not (slot_at told lease.slot.0).requested, status.BadValue)
    ∷ (not ((width == lease.held.width) && (height == lease.held.height)), status.BadValue)
    ∷ (not (is_crop_of lease.held crop), status.BadValue)
    ∷ []
own_refusals told (call.Cancel lease fence) = (not (is_lent told lease.slot lease.held), status.BadValue) ∷ []
own_refusals told (call.Detach lease) =
    (not (is_lent told lease.slot lease.held), status.BadValue)
    ∷ (not (slot_at told lease.slot.0).requested, status.BadValue)
    ∷ []
own_refusals told (call.Attach held) =
    (is_producer_full told, status.InvalidOperation) ∷ (is_none (slot_for false told), status.WouldBlock) ∷ []
own_refusals told (call.MaxAcquired n) =
    (is_outside 1 62 n, status.BadValue)
    ∷ (is_some told.settings.connected, status.InvalidOperation)
    ∷ (forbids told (usable_with n told.settings.max_dequeued told.settings.asynchronous), status.BadValue)
    ∷ []
own_refusals told call.Abandon = []
own_refusals told (call.Acquire expected) =
    (is_consumer_full told, status.InvalidOperation)
    ∷ (is_none (slice_get told.items 0), status.NoBuffer)
    ∷ (not (is_due_if_there expected (front_after_drops expected told)), status.PresentLater)
    ∷ []
own_refusals told (call.Release lease fence) =
    (nat_le 64 lease.slot.0, status.BadValue)
    ∷ (not ((slot_at told lease.slot.0).frame == lease.frame), status.Stale)
    ∷ (not (is_taken told lease.slot lease.held), status.BadValue)
    ∷ []
own_refusals told (call.DetachRead lease) =
    (nat_le 64 lease.slot.0, status.BadValue)
    ∷ (not ((slot_at told lease.slot.0).frame == lease.frame), status.Stale)
    ∷ (not (is_taken told lease.slot lease.held), status.BadValue)
    ∷ []
own_refusals told (call.AttachRead held) =
    (is_consumer_full told, status.InvalidOperation) ∷ (is_none (slot_for false told), status.NoSlot) ∷ []

-- the refusal of a call: on an abandoned queue NoInit, and to another than the producer too
abbrev pub refusal_of : Told → ActorId → PlainCall → Option QStatus
refusal_of told caller asked =
    first_met
    ((told.settings.abandoned, status.NoInit)
    ∷ (is_producers_own asked && not (is_producer told.settings.connected caller), status.NoInit)
    ∷ own_refusals told asked)

-- the buffer that is made next, with this size
abbrev pub next_buffer : Told → ℕ → ℕ → Held
next_buffer told width height = record { number = told.settings.buffers + 1; width = width; height = height }

-- the size that a dequeue asks for: 0 by 0 means the queue's default size
abbrev pub size_asked : Settings → ℕ → ℕ → ℕ × ℕ
size_asked settings width height = if (width == 0) && (height == 0) then (settings.width, settings.height) else (width, height)

-- a buffer of this size
abbrev pub has_size : Option Held → ℕ × ℕ → Bool
has_size None size = false
has_size (Some held) size = (held.width == size.0) && (held.height == size.1)

-- what a dequeue gives from a slot: its buffer, where the size is right, or else a new one
abbrev pub dequeued_from : Told → ℕ → ℕ × ℕ → PlainReply
dequeued_from told s size =
    if has_size (slot_at told s).held size
    then reply.Dequeued (record { 0 = s }) (unwrap_or (slot_at told s).held (next_buffer told size.0 size.1)) (slot_at told s).requested false (slot_at told s).fence
    else reply.Dequeued (record { 0 = s }) (next_buffer told size.0 size.1) false true no_points

-- what an acquire gives
abbrev pub acquired_item : ℕ → Option PlainItem → PlainReply
acquired_item dropped None = reply.Done
acquired_item dropped (Some item) = reply.Acquired item dropped

-- what a call gives where nothing refuses it
abbrev pub given_by : Told → PlainCall → PlainReply
given_by told (call.Dequeue width height wait) = dequeued_from told (unwrap_or (slot_for true told) 0) (size_asked told.settings width height)
given_by told (call.Request lease) = reply.Requested lease.held
given_by told (call.Queue lease picture width height time crop fence) = reply.Queued (told.settings.frames + 1)
given_by told (call.Attach held) = reply.Attached (record { 0 = unwrap_or (slot_for false told) 0 }) (next_buffer told held.width held.height)
given_by told (call.Acquire expected) = acquired_item (dropped_count expected told.items) (front_after_drops expected told)
given_by told (call.AttachRead held) = reply.Attached (record { 0 = unwrap_or (slot_for false told) 0 }) (next_buffer told held.width held.height)
given_by told _ = reply.Done

-- the refusal, where there is one, else this reply
abbrev pub refused_or : Option QStatus → PlainReply → PlainReply
refused_or None given = given
refused_or (Some cause) given = reply.Refused cause

-- the reply to a call, by what the queue is
abbrev pub reply_told : Told → ActorId → PlainCall → PlainReply
reply_told told caller asked = refused_or (refusal_of told caller asked) (given_by told asked)

-- the reply to a call after a history
abbrev pub reply_after : ℕ → ℕ → List Entry → ActorId → PlainCall → PlainReply
reply_after width height history caller asked = reply_told (told_by width height history) caller asked

-- What the history of a queue's calls makes of it. A history has the newest entry first, so that each
-- question looks back from now.
use Rattle.std.specs.Prelude.{ℕ, ◌-◌, Bool, true, false, if◌then◌else◌, List, [], ◌∷◌, ◌++◌, take, map, filter, Option, Some, None, unwrap_or}
use Rattle.std.specs.List.{range_with_len}
use Rattle.sf_base.specs.declared.ids.ActorId.{ActorId}
use Rattle.sf_slots.specs.declared.calls.Entry.{Entry}
use Rattle.sf_slots.specs.declared.calls.PlainCall.{PlainCall}
use Rattle.sf_slots.specs.declared.calls.PlainCall.TheVariants as call
use Rattle.sf_slots.specs.declared.calls.PlainReply.{PlainReply}
use Rattle.sf_slots.specs.declared.calls.PlainReply.TheVariants as reply
use Rattle.sf_slots.specs.declared.item.PlainItem.{PlainItem}
use Rattle.sf_slots.specs.declared.settings.Settings.{Settings}
use Rattle.sf_slots.specs.declared.slot.Slot.{Slot}
use Rattle.sf_slots.specs.declared.slot.SlotState.{SlotState}
use Rattle.sf_slots.specs.declared.slot.SlotState.TheVariants.{Free, Dequeued}
use Rattle.sf_slots.specs.Events.{Event, Make, Lend, Hand, Take, Back, Gone, Mark, Unmark, Dequeuing, Producer, Consumer, state_after}
use Rattle.sf_slots.specs.Events.{buffer_after, requested_after, frame_after, fence_after, freed_after, items_after, buffers_made, frames_queued}
use Rattle.sf_slots.specs.Told.{Told, same_state, usable_with, replaced_slot}

-- a call that was not refused
abbrev pub was_done : PlainReply → Bool
was_done (reply.Refused status) = false
was_done _ = true

-- what the last call that was done and sets it says, or else what holds at first
abbrev pub last_set : {A : Type 0} → (Entry → Option A) → A → List Entry → A
last_set sets first [] = first
last_set sets first (entry ∷ earlier) = if was_done entry.reply then unwrap_or (sets entry) (last_set sets first earlier) else last_set sets first earlier

-- the consumer's limit that a call sets
abbrev pub sets_max_acquired : PlainCall → Option ℕ
sets_max_acquired (call.MaxAcquired n) = Some n
sets_max_acquired _ = None

-- the producer's limit that a call sets
abbrev pub sets_max_dequeued : PlainCall → Option ℕ
sets_max_dequeued (call.MaxDequeued n) = Some n
sets_max_dequeued _ = None

-- the mode that a call sets
abbrev pub sets_asynchronous : PlainCall → Option Bool
sets_asynchronous (call.Async on) = Some on
sets_asynchronous _ = None

-- the producer that a call sets, or that there is none
abbrev pub sets_connected : ActorId → PlainCall → Option (Option ActorId)
sets_connected caller call.Connect = Some (Some caller)
sets_connected caller call.Disconnect = Some None
sets_connected caller _ = None

-- the call gives the queue up
abbrev pub sets_abandoned : PlainCall → Option Bool
sets_abandoned call.Abandon = Some true
sets_abandoned _ = None

-- something counts as queued from a queue call until the next connect
abbrev pub sets_queued : PlainCall → Option Bool
sets_queued (call.Queue lease picture width height time crop fence) = Some true
sets_queued call.Connect = Some false
sets_queued _ = None

-- how many buffers the consumer may hold, as the last call set it, 1 at first
abbrev pub max_acquired : List Entry → ℕ
max_acquired = last_set (λ entry. sets_max_acquired entry.call) 1

-- how many buffers the producer may hold, as the last call set it, 1 at first
abbrev pub max_dequeued : List Entry → ℕ
max_dequeued = last_set (λ entry. sets_max_dequeued entry.call) 1

-- a new frame takes the place of a waiting one, as the last call set it; at first it does not
abbrev pub asynchronous : List Entry → Bool
asynchronous = last_set (λ entry. sets_asynchronous entry.call) false

-- the producer, as the last call set it; at first there is none
abbrev pub connected : List Entry → Option ActorId
connected = last_set (λ entry. sets_connected entry.caller entry.call) None

-- the queue was given up
abbrev pub abandoned : List Entry → Bool
abandoned = last_set (λ entry. sets_abandoned entry.call) false

-- a frame was queued since the last connect
abbrev pub queued : List Entry → Bool
queued = last_set (λ entry. sets_queued entry.call) false

-- the numbers of all slots, rising
abbrev pub all_slots : List ℕ
all_slots = range_with_len 0 64

-- the slots that are usable before, and no longer where so many are
abbrev pub no_longer_usable : List Entry → ℕ → List ℕ
no_longer_usable earlier count = range_with_len count (usable_with (max_acquired earlier) (max_dequeued earlier) (asynchronous earlier) - count)

-- each free slot that is no longer usable loses its buffer
abbrev pub leaving : List Event → List Entry → ℕ → List Event
leaving before earlier count = map Gone (filter (λ s. same_state (state_after before s) Free) (no_longer_usable earlier count))

-- the slot is free or lent
abbrev pub is_back_or_lent : SlotState → Bool
is_back_or_lent Free = true
is_back_or_lent Dequeued = true
is_back_or_lent _ = false

-- an item that was replaced or dropped keeps its slot's fence
abbrev pub kept_back : PlainItem → Event
kept_back item = Back item.slot.0 None

-- the slot comes back without a fence, if there is one
abbrev pub back_if : Option ℕ → List Event
back_if None = []
back_if (Some s) = Back s None ∷ []

-- the slot events of a call that was done, in order, after the events before it and in the history
-- before it
abbrev pub events_of : List Event → List Entry → PlainCall → PlainReply → List Event
events_of before earlier call.Disconnect reply.Done = map Gone (filter (λ s. is_back_or_lent (state_after before s)) all_slots) ++ Unmark ∷ []
events_of before earlier (call.MaxDequeued n) reply.Done = leaving before earlier (usable_with (max_acquired earlier) n (asynchronous earlier))
events_of before earlier (call.Async on) reply.Done = leaving before earlier (usable_with (max_acquired earlier) (max_dequeued earlier) on)
events_of before earlier (call.MaxAcquired n) reply.Done = leaving before earlier (usable_with n (max_dequeued earlier) (asynchronous earlier))
events_of before earlier (call.Dequeue width height wait) (reply.Dequeued slot held requested true fence) =
    Make slot.0 held.width held.height Dequeuing ∷ Lend slot.0 ∷ []
events_of before earlier (call.Dequeue width height wait) (reply.Dequeued slot held requested false fence) = Lend slot.0 ∷ []
events_of before earlier (call.Request lease) (reply.Requested held) = Mark lease.slot.0 ∷ []
events_of before earlier (call.Queue lease picture width height time crop fence) (reply.Queued frame) =
    Hand (record {
      slot = lease.slot;
      held = lease.held;
      frame = frame;
      picture = picture;
      time = time;
      droppable = asynchronous earlier;
      fence = fence;
      crop = crop;
    }) ∷ back_if (replaced_slot (items_after before))
events_of before earlier (call.Cancel lease fence) reply.Done = Back lease.slot.0 (Some fence) ∷ []
events_of before earlier (call.Detach lease) reply.Done = Gone lease.slot.0 ∷ []
events_of before earlier (call.Attach held) (reply.Attached slot new) = Make slot.0 new.width new.height Producer ∷ Lend slot.0 ∷ []
events_of before earlier call.Abandon reply.Done = map Gone all_slots
events_of before earlier (call.Acquire expected) (reply.Acquired item dropped) = map kept_back (take dropped (items_after before)) ++ Take item.slot.0 ∷ []
events_of before earlier (call.Release lease fence) reply.Done = Back lease.slot.0 (Some fence) ∷ []
events_of before earlier (call.DetachRead lease) reply.Done = Gone lease.slot.0 ∷ []
events_of before earlier (call.AttachRead held) (reply.Attached slot new) = Make slot.0 new.width new.height Consumer ∷ Take slot.0 ∷ []
events_of before earlier _ _ = []

-- events that happen one after another, after those before them
abbrev pub happening : List Event → List Event → List Event
happening [] before = before
happening (event ∷ events) before = happening events (event ∷ before)

-- all slot events of a history
abbrev pub events : List Entry → List Event
events [] = []
events (entry ∷ earlier) = happening (events_of (events earlier) earlier entry.call entry.reply) (events earlier)

-- a slot after a list of events
abbrev pub slot_after : List Event → ℕ → Slot
slot_after happened s = record {
  state = state_after happened s;
  held = buffer_after happened s;
  requested = requested_after happened s;
  frame = frame_after happened s;
  fence = fence_after happened s;
}

-- the settings of a queue of this default size
abbrev pub settings_after : ℕ → ℕ → List Entry → Settings
settings_after width height history = record {
  width = width;
  height = height;
  max_acquired = max_acquired history;
  max_dequeued = max_dequeued history;
  asynchronous = asynchronous history;
  connected = connected history;
  abandoned = abandoned history;
  queued = queued history;
  frames = frames_queued (events history);
  buffers = buffers_made (events history);
}

-- what the history of a queue of this default size makes of it
abbrev pub told_by : ℕ → ℕ → List Entry → Told
told_by width height history = record {
  slots = map (slot_after (events history)) all_slots;
  freed = freed_after (events history);
  items = items_after (events history);
  settings = settings_after width height history;
}

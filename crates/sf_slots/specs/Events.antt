-- What happens to the slots of a queue, and what a list of events says of each slot. The lists have
-- the newest event first, so that each question looks back from now.
use Rattle.std.specs.Prelude.{ℕ, ◌+◌, Bool, true, false, not, ◌==◌, if◌then◌else◌, List, [], ◌∷◌, ◌++◌, Option, Some, None, filter, filter_map}
use Rattle.sf_base.specs.Fences.{Fence, no_points}
use Rattle.sf_slots.specs.declared.item.PlainItem.{PlainItem}
use Rattle.sf_slots.specs.declared.slot.Held.{Held}
use Rattle.sf_slots.specs.declared.slot.SlotState.{SlotState}
use Rattle.sf_slots.specs.declared.slot.SlotState.TheVariants.{Free, Dequeued, Queued, Acquired}

-- who made a buffer: a dequeue, or an attach by the producer or the consumer
pub data Maker : Type 0 where
  Dequeuing : Maker
  Producer : Maker
  Consumer : Maker

-- what may happen to a slot
pub data Event : Type 0 where
  -- a new buffer of this width and height comes into the slot
  Make : ℕ → ℕ → ℕ → Maker → Event
  -- the slot is lent to the producer
  Lend : ℕ → Event
  -- an item is queued from its slot
  Hand : PlainItem → Event
  -- the slot goes to the consumer
  Take : ℕ → Event
  -- the slot comes back, with the fence handed in, or with none and then it keeps its own
  Back : ℕ → Option Fence → Event
  -- the slot loses its buffer
  Gone : ℕ → Event
  -- the producer requested the slot's buffer
  Mark : ℕ → Event
  -- no buffer counts as requested any more
  Unmark : Event

-- the state of a slot is given by its last event of these five kinds
abbrev pub state_after : List Event → ℕ → SlotState
state_after [] s = Free
state_after (Lend t ∷ earlier) s = if t == s then Dequeued else state_after earlier s
state_after (Hand item ∷ earlier) s = if item.slot.0 == s then Queued else state_after earlier s
state_after (Take t ∷ earlier) s = if t == s then Acquired else state_after earlier s
state_after (Back t fence ∷ earlier) s = if t == s then Free else state_after earlier s
state_after (Gone t ∷ earlier) s = if t == s then Free else state_after earlier s
state_after (_ ∷ earlier) s = state_after earlier s

-- how many buffers were made
abbrev pub buffers_made : List Event → ℕ
buffers_made [] = 0
buffers_made (Make t width height maker ∷ earlier) = buffers_made earlier + 1
buffers_made (_ ∷ earlier) = buffers_made earlier

-- how many frames were queued
abbrev pub frames_queued : List Event → ℕ
frames_queued [] = 0
frames_queued (Hand item ∷ earlier) = frames_queued earlier + 1
frames_queued (_ ∷ earlier) = frames_queued earlier

-- the buffer of a slot is the last one made for it, unless it went since; its number is the count of
-- the buffers made up to it
abbrev pub buffer_after : List Event → ℕ → Option Held
buffer_after [] s = None
buffer_after (Make t w h maker ∷ earlier) s = if t == s then Some (record { number = buffers_made earlier + 1; width = w; height = h }) else buffer_after earlier s
buffer_after (Gone t ∷ earlier) s = if t == s then None else buffer_after earlier s
buffer_after (_ ∷ earlier) s = buffer_after earlier s

-- a producer that attaches a buffer knows it
abbrev pub is_known_to : Maker → Bool
is_known_to Producer = true
is_known_to _ = false

-- a slot's buffer is requested if the producer attached it, or requested it since it was made, and
-- did not disconnect since then
abbrev pub requested_after : List Event → ℕ → Bool
requested_after [] s = false
requested_after (Make t width height maker ∷ earlier) s = if t == s then is_known_to maker else requested_after earlier s
requested_after (Gone t ∷ earlier) s = if t == s then false else requested_after earlier s
requested_after (Mark t ∷ earlier) s = if t == s then true else requested_after earlier s
requested_after (Unmark ∷ earlier) s = false
requested_after (_ ∷ earlier) s = requested_after earlier s

-- the number of the last frame queued from the slot, 0 if the consumer attached a buffer since
abbrev pub frame_after : List Event → ℕ → ℕ
frame_after [] s = 0
frame_after (Hand item ∷ earlier) s = if item.slot.0 == s then item.frame else frame_after earlier s
frame_after (Make t width height Consumer ∷ earlier) s = if t == s then 0 else frame_after earlier s
frame_after (_ ∷ earlier) s = frame_after earlier s

-- the fence stored in a slot is the last one handed in, unless the slot was given out or its buffer is
-- new or gone since. A slot that comes back without one keeps its own: the write may still be owed.
abbrev pub fence_after : List Event → ℕ → Fence
fence_after [] s = no_points
fence_after (Make t width height maker ∷ earlier) s = if t == s then no_points else fence_after earlier s
fence_after (Lend t ∷ earlier) s = if t == s then no_points else fence_after earlier s
fence_after (Hand item ∷ earlier) s = if item.slot.0 == s then item.fence else fence_after earlier s
fence_after (Take t ∷ earlier) s = if t == s then no_points else fence_after earlier s
fence_after (Back t (Some fence) ∷ earlier) s = if t == s then fence else fence_after earlier s
fence_after (Gone t ∷ earlier) s = if t == s then no_points else fence_after earlier s
fence_after (_ ∷ earlier) s = fence_after earlier s

-- how a slot left or came back last
pub data Last : Type 0 where
  Returned : ℕ → Last
  Waiting : PlainItem → Last
  Elsewhere : ℕ → Last

-- the slot that left or came back
abbrev pub slot_of : Last → ℕ
slot_of (Returned s) = s
slot_of (Waiting item) = item.slot.0
slot_of (Elsewhere s) = s

-- without what was known of a slot
abbrev pub apart_from : ℕ → List Last → List Last
apart_from s lasts = filter (λ last. not (slot_of last == s)) lasts

-- the last of the five kinds of event of each slot, in the order of these events
abbrev pub last_of_each : List Event → List Last
last_of_each [] = []
last_of_each (Lend t ∷ earlier) = apart_from t (last_of_each earlier) ++ Elsewhere t ∷ []
last_of_each (Hand item ∷ earlier) = apart_from item.slot.0 (last_of_each earlier) ++ Waiting item ∷ []
last_of_each (Take t ∷ earlier) = apart_from t (last_of_each earlier) ++ Elsewhere t ∷ []
last_of_each (Back t fence ∷ earlier) = apart_from t (last_of_each earlier) ++ Returned t ∷ []
last_of_each (Gone t ∷ earlier) = apart_from t (last_of_each earlier) ++ Elsewhere t ∷ []
last_of_each (_ ∷ earlier) = last_of_each earlier

-- the slot, where it came back
abbrev pub returned_slot : Last → Option ℕ
returned_slot (Returned s) = Some s
returned_slot _ = None

-- the item, where one waits
abbrev pub waiting_item : Last → Option PlainItem
waiting_item (Waiting item) = Some item
waiting_item _ = None

-- the freed list: the free slots with a buffer, the one freed longest ago first
abbrev pub freed_after : List Event → List ℕ
freed_after events = filter_map returned_slot (last_of_each events)

-- the items: those queued that were not replaced, dropped, taken or given up since
abbrev pub items_after : List Event → List PlainItem
items_after events = filter_map waiting_item (last_of_each events)

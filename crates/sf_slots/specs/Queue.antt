-- A queue as the moves see it: what its calls made of it, and the rights in its slots and items.
use Rattle.std.specs.Prelude.{◌≡◌, ℕ, ◌+◌, ◌-◌, ◌<◌, ◌≤◌, Bool, true, false, not, ◌==◌, ◌&&◌, nat_lt, is_some, if◌then◌else◌}
use Rattle.std.specs.Prelude.{List, [], ◌∷◌, ◌++◌, length, map, filter, Option, Some, None, replicate, slice_get, slice_index_or, slice_set, take, drop}
use Rattle.std.specs.List.{list_any, range_with_len}
use Rattle.sf_base.specs.Fences.{Fence, no_points}
use Rattle.sf_base.specs.declared.ids.QueueId.{QueueId}
use Rattle.sf_base.specs.declared.ids.SlotId.{SlotId}
use Rattle.sf_slots.specs.declared.item.Item.{Item}
use Rattle.sf_slots.specs.declared.item.PlainItem.{PlainItem}
use Rattle.sf_slots.specs.declared.settings.Settings.{Settings}
use Rattle.sf_slots.specs.declared.slot.Held.{Held}
use Rattle.sf_slots.specs.declared.slot.Slot.{Slot}
use Rattle.sf_slots.specs.declared.slot.SlotState.{SlotState}
use Rattle.sf_slots.specs.declared.slot.SlotState.TheVariants.{Free, Dequeued, Queued, Acquired}
use Rattle.sf_slots.specs.Told.{Told, unused, usable, is_in, is_bare}

pub record Queue (R : Type 0) : Type 0 where
  pub number : QueueId
  pub slots : List Slot
  pub rights : List (Option R)
  pub freed : List ℕ
  pub items : List (Item R)
  pub settings : Settings

-- an item without its right
abbrev pub plain_item : {R : Type 0} → Item R → PlainItem
plain_item item = record {
  slot = item.slot;
  held = item.held;
  frame = item.frame;
  picture = item.picture;
  time = item.time;
  droppable = item.droppable;
  fence = item.fence;
  crop = item.crop;
}

-- what a queue is, apart from the rights
abbrev pub told_of : {R : Type 0} → Queue R → Told
told_of q = record { slots = q.slots; freed = q.freed; items = map plain_item q.items; settings = q.settings }

abbrev pub slot_number : {R : Type 0} → Item R → ℕ
slot_number item = item.slot.0

-- a slot, and the right in it
abbrev pub slot_in : {R : Type 0} → Queue R → ℕ → Slot
slot_in q s = slice_index_or q.slots s unused

abbrev pub right_in : {R : Type 0} → Queue R → ℕ → Option R
right_in q s = slice_index_or q.rights s None

abbrev pub contains : List ℕ → ℕ → Bool
contains xs s = list_any (λ t. s == t) xs

-- no number is in the list twice
abbrev pub IsApart : List ℕ → Type 0
IsApart [] = Unit {0}
IsApart (x ∷ xs) = (contains xs x ≡ false) × IsApart xs

-- the list has slots of this state, each once
pub record ListsSlots (slots : List Slot) (state : SlotState) (xs : List ℕ) : Type 0 where
  pub apart : IsApart xs
  pub below : (s : ℕ) → contains xs s ≡ true → s < length slots
  pub stated : (s : ℕ) → contains xs s ≡ true → (slice_index_or slots s unused).state ≡ state

-- a slot in this state is out, with the producer or the consumer
pub record IsOut (state : SlotState) : Type 0 where
  pub not_free : state ≡ Free → ⊥
  pub not_queued : state ≡ Queued → ⊥

-- a free slot with a buffer
abbrev pub is_stored : Slot → Bool
is_stored slot = is_in Free slot && is_some slot.held

-- what a queue keeps of each slot: the right to its pixels lies in it, and it is in the freed list,
-- exactly where it is free and has a buffer; a queued slot has a buffer; and a slot that may not be
-- used is free and has none
pub record IsKept {R : Type 0} (slot : Slot) (in_it : Option R) (is_listed is_usable : Bool) : Type 0 where
  pub right : is_some in_it ≡ is_stored slot
  pub listed : is_listed ≡ is_stored slot
  pub queued : is_in Queued slot ≡ true → is_some slot.held ≡ true
  pub outside : is_usable ≡ false → is_bare slot ≡ true

-- what every queue keeps: the freed list has each of its slots once, and so have the items
pub record IsSound {R : Type 0} (q : Queue R) : Type 0 where
  pub sized : length q.slots ≡ 64
  pub rights_sized : length q.rights ≡ 64
  pub fits : usable q.settings ≤ 64
  pub each : (s : ℕ) → s < 64 → IsKept (slot_in q s) (right_in q s) (contains q.freed s) (nat_lt s (usable q.settings))
  pub freed : ListsSlots q.slots Free q.freed
  pub items : ListsSlots q.slots Queued (map slot_number q.items)

-- the slot may be used and is free
pub record IsFreeSlot {R : Type 0} (q : Queue R) (s : ℕ) : Type 0 where
  pub inside : s < usable q.settings
  pub below : s < 64
  pub free : (slot_in q s).state ≡ Free

-- the slot is lent to the producer with this buffer
pub record IsLentWith {R : Type 0} (q : Queue R) (s : ℕ) (buffer : Held) : Type 0 where
  pub lent : (slot_in q s).state ≡ Dequeued
  pub here : (slot_in q s).held ≡ Some buffer

-- a slot without a buffer
abbrev pub emptied : Slot → Slot
emptied slot = record slot { state = Free; held = None; requested = false; fence = no_points }

-- a queue with another slot, in a place
abbrev pub with_slot : {R : Type 0} → Queue R → ℕ → Slot → Queue R
with_slot q s slot = record q { slots = slice_set q.slots s slot }

abbrev pub without : ℕ → List ℕ → List ℕ
without s xs = filter (λ t. not (t == s)) xs

-- the first number of a list goes last, or out
abbrev pub rotated : ℕ → List ℕ → List ℕ
rotated s [] = []
rotated s (x ∷ xs) = xs ++ without s (x ∷ [])

-- a free slot goes to the producer, with its right and its stored fence
abbrev pub lent : {R : Type 0} → Queue R → ℕ → Queue R
lent q s = record q {
  slots = slice_set q.slots s (record (slot_in q s) { state = Dequeued; fence = no_points });
  rights = slice_set q.rights s None;
  freed = without s q.freed;
}

-- a free slot goes to the consumer, with its right
abbrev pub taken : {R : Type 0} → Queue R → ℕ → Queue R
taken q s = record q {
  slots = slice_set q.slots s (record (slot_in q s) { state = Acquired; frame = 0; fence = no_points });
  rights = slice_set q.rights s None;
  freed = without s q.freed;
}

-- the next buffer comes into a slot
abbrev pub next_held : {R : Type 0} → Queue R → ℕ → ℕ → Held
next_held q width height = record { number = q.settings.buffers + 1; width = width; height = height }

abbrev pub seated : {R : Type 0} → Queue R → ℕ → ℕ → ℕ → Bool → Queue R
seated q s width height requested = record q {
  slots = slice_set q.slots s (record (slot_in q s) { held = Some (next_held q width height); requested = requested });
  settings = record q.settings { buffers = q.settings.buffers + 1 };
}

-- the producer requested a slot's buffer
abbrev pub marked : {R : Type 0} → Queue R → ℕ → Queue R
marked q s = with_slot q s (record (slot_in q s) { requested = true })

-- a slot that is out comes back with its right, and with a fence
abbrev pub returned : {R : Type 0} → Queue R → ℕ → R → Fence → Queue R
returned q s right fence = record q {
  slots = slice_set q.slots s (record (slot_in q s) { state = Free; fence = fence });
  rights = slice_set q.rights s (Some right);
  freed = q.freed ++ s ∷ [];
}

-- a slot loses its buffer
abbrev pub cleared : {R : Type 0} → Queue R → ℕ → Queue R
cleared q s = record q {
  slots = slice_set q.slots s (emptied (slot_in q s));
  rights = slice_set q.rights s None;
  freed = without s q.freed;
}

-- no buffer counts as requested
abbrev pub unmarked : Slot → Slot
unmarked slot = record slot { requested = false }

-- an item's slot comes back with the item's right, and keeps its fence
abbrev pub kept_back : {R : Type 0} → Queue R → Item R → Queue R
kept_back q item = record q {
  slots = slice_set q.slots item.slot.0 (record (slot_in q item.slot.0) { state = Free });
  rights = slice_set q.rights item.slot.0 (Some item.right);
  freed = q.freed ++ item.slot.0 ∷ [];
}

-- the first item's slot goes to the consumer
abbrev pub handed_over : {R : Type 0} → Queue R → Item R → Queue R
handed_over q item = record q {
  slots = slice_set q.slots item.slot.0 (record (slot_in q item.slot.0) { state = Acquired; fence = no_points });
  items = drop 1 q.items;
}

-- a sound queue whose lists have room for all slots
pub record HasRoom {R : Type 0} (freed items : ℕ) (q : Queue R) : Type 0 where
  pub for_freed : freed ≡ 64
  pub for_items : items ≡ 64
  pub sound : IsSound q

-- the last item
abbrev pub last_in : {R : Type 0} → List (Item R) → Option (Item R)
last_in items = slice_get items (length items - 1)

abbrev pub is_droppable : {R : Type 0} → Option (Item R) → Bool
is_droppable None = false
is_droppable (Some last) = last.droppable

-- the first item is dropped
abbrev pub dropping : {R : Type 0} → Queue R → Item R → Queue R
dropping q item = kept_back (record q { items = drop 1 q.items }) item

-- the last item gives way, if it is droppable
abbrev pub replacing : {R : Type 0} → Queue R → Option (Item R) → Queue R
replacing q None = q
replacing q (Some last) = if last.droppable then kept_back (record q { items = take (length q.items - 1) q.items }) last else q

abbrev pub slot_replaced : {R : Type 0} → Option (Item R) → Option SlotId
slot_replaced None = None
slot_replaced (Some last) = if last.droppable then Some last.slot else None

-- an item is queued from its slot, behind the others
abbrev pub appended : {R : Type 0} → Queue R → Item R → Queue R
appended q item = record q {
  slots = slice_set q.slots item.slot.0 (record (slot_in q item.slot.0) { state = Queued; frame = item.frame; fence = item.fence });
  items = q.items ++ item ∷ [];
  settings = record q.settings { queued = true; frames = q.settings.frames + 1 };
}

-- an item is queued from its slot, behind the others or in the place of a droppable last one
abbrev pub enqueued : {R : Type 0} → Queue R → Item R → Queue R
enqueued q item = appended (replacing q (last_in q.items)) item

-- a free slot loses its buffer
abbrev pub retired : {R : Type 0} → Queue R → ℕ → Queue R
retired q s = if is_in Free (slot_in q s) then cleared q s else q

abbrev pub retired_all : {R : Type 0} → Queue R → List ℕ → Queue R
retired_all q [] = q
retired_all q (s ∷ more) = retired_all (retired q s) more

-- other settings, under which free slots that are no longer usable lose their buffers
abbrev pub configured : {R : Type 0} → Queue R → Settings → Queue R
configured q settings = record (retired_all q (range_with_len (usable settings) (usable q.settings - usable settings))) { settings = settings }

-- no buffer counts as requested
abbrev pub without_marks : {R : Type 0} → Queue R → Queue R
without_marks q = record q { slots = map unmarked q.slots }

-- given up for good, with all slots empty and no items
abbrev pub given_up : {R : Type 0} → Queue R → Queue R
given_up q = record q {
  slots = map emptied q.slots;
  rights = map (λ right. None) q.rights;
  freed = [];
  items = [];
  settings = record q.settings { abandoned = true };
}

-- the queue as it is made
abbrev pub empty_queue : {R : Type 0} → QueueId → ℕ → ℕ → Queue R
empty_queue number width height = record {
  number = number;
  slots = replicate 64 unused;
  rights = replicate 64 None;
  freed = [];
  items = [];
  settings = record {
    width = width;
    height = height;
    max_acquired = 1;
    max_dequeued = 1;
    asynchronous = false;
    connected = None;
    abandoned = false;
    queued = false;
    frames = 0;
    buffers = 0;
  };
}

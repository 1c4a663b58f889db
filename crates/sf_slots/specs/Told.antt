-- What decides a queue's replies, and what is asked of it.
use Rattle.std.specs.Prelude.{ℕ, ◌+◌, ◌-◌, Bool, true, false, not, ◌||◌, ◌&&◌, nat_lt, if◌then◌else◌}
use Rattle.std.specs.Prelude.{List, length, take, drop, Option, Some, None, is_some, slice_get, slice_index_or, count_by}
use Rattle.std.specs.List.{list_any, position}
use Rattle.std.specs.Option.{option_or}
use Rattle.sf_base.specs.Fences.{no_points}
use Rattle.sf_slots.specs.declared.item.PlainItem.{PlainItem}
use Rattle.sf_slots.specs.declared.settings.Settings.{Settings}
use Rattle.sf_slots.specs.declared.slot.Slot.{Slot}
use Rattle.sf_slots.specs.declared.slot.SlotState.{SlotState}
use Rattle.sf_slots.specs.declared.slot.SlotState.TheVariants.{Free, Dequeued, Queued, Acquired}

-- the 64 slots, the freed list, the items and the settings
pub record Told : Type 0 where
  pub slots : List Slot
  pub freed : List ℕ
  pub items : List PlainItem
  pub settings : Settings

-- a slot as it is at first
abbrev pub unused : Slot
unused = record { state = Free; held = None; requested = false; frame = 0; fence = no_points }

-- a slot by its number
abbrev pub slot_at : Told → ℕ → Slot
slot_at told s = slice_index_or told.slots s unused

-- two slots are in one state
abbrev pub same_state : SlotState → SlotState → Bool
same_state Free Free = true
same_state Dequeued Dequeued = true
same_state Queued Queued = true
same_state Acquired Acquired = true
same_state _ _ = false

-- the slot is in this state
abbrev pub is_in : SlotState → Slot → Bool
is_in state slot = same_state slot.state state

-- how many slots are in a state
abbrev pub count_in : SlotState → Told → ℕ
count_in state told = count_by (is_in state) told.slots

-- how many slots may be used under these limits and this mode
abbrev pub usable_with : ℕ → ℕ → Bool → ℕ
usable_with acquired dequeued asynchronous = acquired + dequeued + (if asynchronous then 1 else 0)

-- the slots numbered below this may be used
abbrev pub usable : Settings → ℕ
usable settings = usable_with settings.max_acquired settings.max_dequeued settings.asynchronous

-- so many usable slots are more than there are, or a slot that is not free would lie outside
abbrev pub forbids : Told → ℕ → Bool
forbids told count = nat_lt 64 count || list_any (λ slot. not (is_in Free slot)) (drop count told.slots)

-- some slot may be used and is free
abbrev pub has_free : Told → Bool
has_free told = list_any (is_in Free) (take (usable told.settings) told.slots)

-- a free slot without a buffer
abbrev pub is_bare : Slot → Bool
is_bare slot = is_in Free slot && not (is_some slot.held)

-- the lowest usable free slot without a buffer
abbrev pub lowest_bare : Told → Option ℕ
lowest_bare told = position is_bare (take (usable told.settings) told.slots)

-- the slot whose buffer was freed longest ago
abbrev pub first_freed : Told → Option ℕ
first_freed told = slice_get told.freed 0

-- the slot that a dequeue takes, or else an attach: the first freed one before an empty one, or after
abbrev pub slot_for : Bool → Told → Option ℕ
slot_for true told = option_or (first_freed told) (lowest_bare told)
slot_for false told = option_or (lowest_bare told) (first_freed told)

-- the last item
abbrev pub last_item : List PlainItem → Option PlainItem
last_item items = slice_get items (length items - 1)

-- the slot of an item that gives way to a new one
abbrev pub slot_if_droppable : Option PlainItem → Option ℕ
slot_if_droppable None = None
slot_if_droppable (Some item) = if item.droppable then Some item.slot.0 else None

-- the slot whose item a new item replaces
abbrev pub replaced_slot : List PlainItem → Option ℕ
replaced_slot items = slot_if_droppable (last_item items)

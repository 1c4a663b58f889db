-- The rights that lie in the slots of a queue, as its calls say.
use Rattle.std.specs.Prelude.{ℕ, Bool, ◌&&◌, ◌||◌, is_some, if◌then◌else◌, List, [], ◌∷◌, Option, Some, None}
use Rattle.std.specs.List.{flat_map, range_with_len}
use Rattle.sf_slots.specs.declared.slot.Slot.{Slot}
use Rattle.sf_slots.specs.declared.slot.SlotState.TheVariants.{Free, Queued}
use Rattle.sf_slots.specs.Events.{Event}
use Rattle.sf_slots.specs.History.{events, slot_after}
use Rattle.sf_slots.specs.Told.{is_in}
use Rattle.sf_actor_set.specs.sf_surface.declared.mark.QueueMark.{QueueMark}
use Rattle.sf_actor_set.specs.sf_surface.Histories.{Left, Made, last_left, told}
use Rattle.sf_actor_set.specs.sf_actor.Rights.{Turn, turn_by}

-- the right to a slot's pixels lies in it: the slot is free and has a buffer, or a frame is queued from it
abbrev pub is_home : Slot → Bool
is_home slot = (is_in Free slot && is_some slot.held) || is_in Queued slot

abbrev pub is_home_after : List Event → ℕ → Bool
is_home_after happened s = is_home (slot_after happened s)

-- what was left last in a slot is the right that lies there
abbrev pub turn_left : Option Left → List Turn
turn_left None = []
turn_left (Some left) = turn_by left.turn ∷ []

module _ {B : Type 0} where
  -- the right that lies in a slot
  abbrev pub lying_in : QueueMark → List (Made B) → ℕ → List Turn
  lying_in mark calls s = if is_home_after (events (told mark calls)) s then turn_left (last_left calls s) else []

  -- the rights that lie in the 64 slots of a queue
  unfoldable pub lying : QueueMark → List (Made B) → List Turn
  lying mark calls = flat_map (lying_in mark calls) (range_with_len 0 64)

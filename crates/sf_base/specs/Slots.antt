-- The number that stands for no slot.
use Rattle.sf_base.specs.declared.ids.SlotId.{SlotId}

-- a queue has the slots 0 to 63, and this is none of them
abbrev pub no_slot : SlotId
no_slot = record { 0 = 4294967295 }

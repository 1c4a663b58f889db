use Rattle.sf_slots.proofs.FreeSlots.{slot_for-has_free}
use Rattle.sf_slots.proofs.laws.a_free_slot_is_found_where_there_is_one.Goals as goal

pub returns : goal.returns
returns g c = λ q with_buffer sound. slot_for-has_free q sound with_buffer

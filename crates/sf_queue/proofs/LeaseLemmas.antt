-- The buffer that a number means.
use Rattle.std.proofs.Common.{◌≡◌, ℕ, true, false, ◌==◌, inl, inr, arith, refl, ◌≤◌, length, Some}
use Rattle.std.proofs.lemmas.Bool.{cases_Bool}
use Rattle.std.proofs.lemmas.Bool.Decides.{nat_tests}
use Rattle.sf_slots.specs.declared.slot.Held.{Held}
use Rattle.sf_slots.specs.Replies.{is_buffer, is_lent}
use Rattle.sf_slots.specs.Told.{Told, slot_at, unused}
use Rattle.sf_base.specs.declared.ids.SlotId.{SlotId}
use Rattle.std.proofs.Math.ListN.{get_or-eq_default}
use Rattle.sf_queue.specs.Leases.{numbered}

-- a slot's buffer is the one that is meant exactly where it has the number
pub is_buffer-numbered : (held : Held) (number : ℕ) → is_buffer (Some held) (numbered (Some held) number) ≡ (held.number == number)
is_buffer-numbered held number = elim (cases_Bool (held.number == number)) [
  | inl met ↦ rw met (grind (arith, nat_tests))
  | inr unmet ↦ rw unmet (grind (arith, nat_tests, unmet))
]

pub numbered-met : (held : Held) (number : ℕ) → (held.number == number) ≡ true → held ≡ numbered (Some held) number
numbered-met held number met = rw met refl

-- no slot beyond the last is lent
pub not_lent_beyond : (told : Told) (slot : SlotId) (held : Held) → length told.slots ≤ slot.0 → is_lent told slot held ≡ false
not_lent_beyond told slot held beyond =
    let gone : slot_at told slot.0 ≡ unused = get_or-eq_default told.slots unused beyond in
    rw gone refl

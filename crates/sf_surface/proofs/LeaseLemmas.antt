-- What a lease to write says of its slot, and the refusal where its buffer is not there.
use Rattle.std.proofs.Common.{◌≡◌, ℕ, ◌<◌, ◌≤◌, Bool, true, false, not, ◌==◌, ◌&&◌, ◌||◌, nat_le, List, ◌∷◌, inl, inr, length, arith, ap, ◌∙◌, sym, refl, Option, Some}
use Rattle.std.specs.Prelude.{if◌then◌else◌}
use Rattle.std.proofs.lemmas.Bool.{cases_Bool}
use Rattle.std.proofs.lemmas.Bool.Decides.{nat_tests}
use Rattle.std.proofs.Math.ListN.{get_or-eq_default}
use Rattle.atomic_table.specs.Seated.{TableId}
use Rattle.sf_base.specs.declared.status.QStatus.TheVariants.{NoInit, BadValue}
use Rattle.sf_slots.specs.declared.calls.WriteToken.{WriteToken}
use Rattle.sf_slots.specs.declared.slot.Held.{Held}
use Rattle.sf_slots.specs.declared.slot.Slot.{Slot}
use Rattle.sf_slots.specs.Told.{unused}
use Rattle.sf_slots.specs.Queue.{Queue, IsSound, told_of, slot_in, lent}
use Rattle.sf_slots.specs.Replies.{Refusal, first_met, is_lent, is_buffer}
use Rattle.sf_queue.specs.Leases as write
use Rattle.sf_surface.specs.declared.work.Work.{Work}
use Rattle.sf_surface.specs.declared.work.Work.TheVariants as work
use Rattle.sf_surface.specs.Tokens.{IsRightOf, IsWorkOf, Right, turn_after, turn_of}

-- a slot that is not there has no buffer
not_buffer : (q : Queue Right) (s : ℕ) (buffer : Held) → IsSound q → (s < 64 → is_buffer (slot_in q s).held buffer ≡ false) → is_buffer (slot_in q s).held buffer ≡ false
not_buffer q s buffer sound other = elim (cases_Bool (nat_le 64 s)) [
  | inl met ↦
      let far : 64 ≤ s = grind (arith, nat_tests, met) in
      let beyond : length q.slots ≤ s = omega (arith, sound.sized, far) in
      ap (λ (slot : Slot). is_buffer slot.held buffer) (get_or-eq_default q.slots unused beyond)
  | inr below ↦ other (grind (arith, nat_tests, below))
]

neither : (a b : Bool) → b ≡ false → (a && b) ≡ false
neither true b none = none
neither false b none = refl

pub first_unlent : (abandoned producer lent : Bool) (more : List Refusal) → lent ≡ false → first_met ((abandoned, NoInit) ∷ (not producer, NoInit) ∷ (not lent, BadValue) ∷ more) ≡ Some (if abandoned || not producer then NoInit else BadValue)
first_unlent true producer lent more unlent = refl
first_unlent false false lent more unlent = refl
first_unlent false true false more unlent = refl
first_unlent false true true more unlent = absurd (cc (unlent))

pub unlent : (q : Queue Right) (said : WriteToken) → IsSound q → (said.slot.0 < 64 → is_buffer (slot_in q said.slot.0).held said.held ≡ false) → is_lent (told_of q) said.slot said.held ≡ false
unlent q said sound other = neither _ (is_buffer (slot_in q said.slot.0).held said.held) (not_buffer q said.slot.0 said.held sound other)

-- a lease whose buffer is the slot's says what is meant
pub says : (q : Queue Right) (said : WriteToken) → (slot_in q said.slot.0).held ≡ Some said.held → write.IsLeaseOf (told_of q) said.slot said.held.number said
says q said there = record {
  slot = refl;
  numbered = refl;
  whole = λ held here same. let both : Some said.held ≡ Some held = sym there ∙ here in cc (both);
}

pub meant_is : (q : Queue Right) (said : WriteToken) → (slot_in q said.slot.0).held ≡ Some said.held → write.meant (told_of q) said.slot said.held.number ≡ said.held
meant_is q said there =
    let alike : (said.held.number == said.held.number) ≡ true = grind (arith, nat_tests) in
    ap (λ (found : Option Held). write.numbered found said.held.number) there ∙ rw alike refl

-- the right that a lease leaves is one to its buffer
pub after_right : (table : TableId) (held : Held) (found : Work) → IsRightOf table held (turn_of found) → IsWorkOf held found → IsRightOf table held (turn_after found)
after_right table held (work.Fresh turn) right drawn = right
after_right table held (work.Drawn inside pixels) right drawn = record { of_table = right.of_table; expects = drawn }

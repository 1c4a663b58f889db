use Rattle.std.proofs.Common.{◌≡◌, ◌∙◌, arith, slice_index_or, sym}
use Rattle.std.proofs.lemmas.List.{get_or_default}
use Rattle.sf_slots.proofs.Sound.{first_alone, IsSound-handed_over}
use Rattle.sf_slots.specs.Told.{unused}
use Rattle.sf_slots.proofs.slots.Slots.take_front.Goals as goal

pub index_mut-slot-requires : goal.index_mut-slot-requires
index_mut-slot-requires g c =
    let sound = c.self.invariant.sound in
    let alone = first_alone _ c.in-Some.item sound (sym c.in-Some.ensures.value) in
    omega (arith, alone.low, sound.sized)

pub invariant_of-self : goal.invariant_of-self
invariant_of-self g c =
    let sound = c.self.invariant.sound in
    let alone = first_alone _ c.in-Some.item sound (sym c.in-Some.ensures.value) in
    let known : c.index_mut-slot.result.now ≡ slice_index_or c.self.inside.slots.items c.in-Some.item.slot.0 unused = c.index_mut-slot.ensures.value ∙ get_or_default c.self.inside.slots.items c.in-Some.item.slot.0 c.index_mut-slot.result.now unused (omega (arith, alone.low, sound.sized)) in
    record {
      for_freed = c.self.invariant.for_freed;
      for_items = rw c.in-Some.ensures.items c.self.invariant.for_items;
      sound = rw (c.in-Some.ensures.items, known, c.none.ensures) (IsSound-handed_over _ c.in-Some.item sound alone);
    }

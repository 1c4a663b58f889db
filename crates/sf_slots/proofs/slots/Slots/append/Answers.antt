use Rattle.std.proofs.Common.{◌≡◌, ◌∙◌, arith, slice_index_or}
use Rattle.std.proofs.lemmas.List.{get_or_default}
use Rattle.sf_slots.proofs.Sound.{room_for_slot, IsSound-appended}
use Rattle.sf_slots.specs.Told.{unused}
use Rattle.sf_slots.proofs.slots.Slots.append.Goals as goal

pub push_item-requires : goal.push_item-requires
push_item-requires g c =
    let lent = rw (← c.self.view_is) at c.requires.lent in
    omega (arith, room_for_slot _ c.args.item.slot.0 c.self.invariant.sound c.requires.below lent.lent, c.self.invariant.for_items)

pub invariant_of-self : goal.invariant_of-self
invariant_of-self g c =
    let known : c.index_mut-slot.result.now ≡ slice_index_or c.self.inside.slots.items c.args.item.slot.0 unused = c.index_mut-slot.ensures.value ∙ get_or_default c.self.inside.slots.items c.args.item.slot.0 c.index_mut-slot.result.now unused (omega (arith, c.requires.below, c.self.invariant.sound.sized)) in
    let lent = rw (← c.self.view_is) at c.requires.lent in
    record {
      for_freed = c.self.invariant.for_freed;
      for_items = rw c.push_item.ensures c.self.invariant.for_items;
      sound = rw (c.push_item.ensures, known, c.requires.kept) (IsSound-appended _ c.args.item c.self.invariant.sound c.requires.below lent);
    }

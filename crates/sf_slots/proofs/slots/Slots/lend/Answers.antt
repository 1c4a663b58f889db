use Rattle.std.proofs.Common.{◌≡◌, ◌∙◌, arith, slice_index_or}
use Rattle.std.proofs.lemmas.List.{get_or_default}
use Rattle.sf_slots.proofs.Sound.{IsSound-lent}
use Rattle.sf_slots.specs.Told.{unused}
use Rattle.sf_slots.proofs.slots.Slots.lend.Goals as goal

pub invariant_of-self : goal.invariant_of-self
invariant_of-self g c =
    let free = rw (← c.self.view_is) at c.requires.free in
    let inside = rw (← c.self.view_is) at c.requires.usable in
    let known : c.index_mut-lent.result.now ≡ slice_index_or c.self.inside.slots.items c.args.slot.0 unused = c.index_mut-lent.ensures.value ∙ get_or_default c.self.inside.slots.items c.args.slot.0 c.index_mut-lent.result.now unused (omega (arith, inside, c.self.invariant.sound.fits, c.self.invariant.sound.sized)) in
    record {
      for_freed = rw c.remove.ensures c.self.invariant.for_freed;
      for_items = c.self.invariant.for_items;
      sound = rw (c.take_right-right.ensures.after, c.remove.ensures, known, c.replace-fence.ensures.after, c.none.ensures) (IsSound-lent c.self.invariant.sound c.args.slot.0 inside free);
    }

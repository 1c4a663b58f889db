use Rattle.std.proofs.Common.{◌≡◌, ◌∙◌, arith, slice_index_or}
use Rattle.std.proofs.lemmas.List.{get_or_default}
use Rattle.sf_slots.proofs.Sound.{IsSound-seated}
use Rattle.sf_slots.specs.Told.{unused}
use Rattle.sf_slots.proofs.slots.Slots.seat.Goals as goal

pub invariant_of-self : goal.invariant_of-self
invariant_of-self g c =
    let known : c.index_mut-seated.result.now ≡ slice_index_or c.self.inside.slots.items c.args.slot.0 unused = c.index_mut-seated.ensures.value ∙ get_or_default c.self.inside.slots.items c.args.slot.0 c.index_mut-seated.result.now unused (omega (arith, c.requires.below, c.self.invariant.sound.sized)) in
    let out = rw (← c.self.view_is) at c.requires.out in
    record {
      for_freed = c.self.invariant.for_freed;
      for_items = c.self.invariant.for_items;
      sound = rw (known) (IsSound-seated c.self.invariant.sound c.args.slot.0 c.args.width c.args.height c.args.requested c.requires.below out);
    }

use Rattle.std.proofs.Common.{◌≡◌, ◌∙◌, arith, slice_index_or}
use Rattle.std.proofs.lemmas.List.{get_or_default}
use Rattle.sf_slots.proofs.Sound.{IsSound-returned}
use Rattle.sf_slots.proofs.Lists.{has_room, absent_from}
use Rattle.sf_slots.specs.Told.{unused}
use Rattle.sf_slots.proofs.slots.Slots.free.Goals as goal

pub push-requires : goal.push-requires
push-requires g c =
    let out = rw (← c.self.view_is) at c.requires.out in
    let sound = c.self.invariant.sound in
    let room = has_room sound.freed c.args.slot.0 (rw sound.sized c.requires.below) (absent_from sound.freed c.args.slot.0 out.not_free) in
    omega (arith, room, sound.sized, c.self.invariant.for_freed)

pub invariant_of-self : goal.invariant_of-self
invariant_of-self g c =
    let known : c.index_mut-freed.result.now ≡ slice_index_or c.self.inside.slots.items c.args.slot.0 unused = c.index_mut-freed.ensures.value ∙ get_or_default c.self.inside.slots.items c.args.slot.0 c.index_mut-freed.result.now unused (omega (arith, c.requires.below, c.self.invariant.sound.sized)) in
    let out = rw (← c.self.view_is) at c.requires.out in
    let buffer = rw (← c.self.view_is) at c.requires.buffer in
    record {
      for_freed = rw c.push.ensures c.self.invariant.for_freed;
      for_items = c.self.invariant.for_items;
      sound = rw (c.put_right.ensures, c.push.ensures, known) (IsSound-returned c.self.invariant.sound c.args.slot.0 c.args.right c.args.fence c.requires.below out buffer);
    }

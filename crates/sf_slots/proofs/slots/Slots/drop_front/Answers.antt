use Rattle.std.proofs.Common.{arith, sym}
use Rattle.sf_slots.proofs.Sound.{first_alone, room_for_item, IsSound-kept_back}
use Rattle.sf_slots.proofs.slots.Slots.drop_front.Goals as goal

pub keep_back-requires-clause-slot : goal.keep_back-requires-clause-slot
keep_back-requires-clause-slot g c =
    let sound = c.self.invariant.sound in
    let alone = first_alone _ c.in-Some.item sound (sym c.in-Some.ensures.value) in
    omega (arith, alone.low, sound.sized)

pub keep_back-requires-clause-right : goal.keep_back-requires-clause-right
keep_back-requires-clause-right g c =
    let sound = c.self.invariant.sound in
    let alone = first_alone _ c.in-Some.item sound (sym c.in-Some.ensures.value) in
    omega (arith, alone.low, sound.rights_sized)

pub keep_back-requires-clause-room : goal.keep_back-requires-clause-room
keep_back-requires-clause-room g c =
    let sound = c.self.invariant.sound in
    let alone = first_alone _ c.in-Some.item sound (sym c.in-Some.ensures.value) in
    omega (arith, room_for_item _ c.in-Some.item _ sound alone, c.self.invariant.for_freed)

pub invariant_of-self : goal.invariant_of-self
invariant_of-self g c =
    let sound = c.self.invariant.sound in
    let alone = first_alone _ c.in-Some.item sound (sym c.in-Some.ensures.value) in
    record {
      for_freed = rw c.keep_back.ensures.freed c.self.invariant.for_freed;
      for_items = rw c.in-Some.ensures.items c.self.invariant.for_items;
      sound = rw (c.keep_back.ensures.slots, c.keep_back.ensures.rights, c.keep_back.ensures.freed, c.in-Some.ensures.items) (IsSound-kept_back _ c.in-Some.item _ sound alone);
    }

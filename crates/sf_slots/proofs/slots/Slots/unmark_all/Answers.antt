use Rattle.sf_slots.proofs.Sound.{IsSound-without_marks}
use Rattle.sf_slots.proofs.slots.Slots.unmark_all.Goals as goal

pub invariant_of-self : goal.invariant_of-self
invariant_of-self g c = record {
  for_freed = c.self.invariant.for_freed;
  for_items = c.self.invariant.for_items;
  sound = rw c.unmark_slots.ensures (IsSound-without_marks c.self.invariant.sound);
}

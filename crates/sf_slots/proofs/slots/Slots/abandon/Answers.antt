use Rattle.sf_slots.proofs.Sound.{IsSound-given_up}
use Rattle.sf_slots.proofs.slots.Slots.abandon.Goals as goal

pub invariant_of-self : goal.invariant_of-self
invariant_of-self g c = record {
  for_freed = rw c.clear.ensures c.self.invariant.for_freed;
  for_items = rw c.clear-2.ensures c.self.invariant.for_items;
  sound = rw (c.empty_slots.ensures, c.drop_rights.ensures, c.clear.ensures, c.clear-2.ensures) (IsSound-given_up c.self.invariant.sound);
}

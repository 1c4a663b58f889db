use Rattle.std.proofs.Common.{refl}
use Rattle.sf_slots.proofs.Sound.{IsSound-empty}
use Rattle.sf_slots.proofs.slots.Slots.new.Goals as goal

pub invariant_of-result : goal.invariant_of-result
invariant_of-result g c = rw (c.in_ok-with_capacity.ensures, c.in_ok-with_capacity-2.ensures, c.in_ok-unused_slots.ensures, c.in_ok-no_rights.ensures) (record { for_freed = refl; for_items = refl; sound = IsSound-empty c.args.queue c.args.width c.args.height })

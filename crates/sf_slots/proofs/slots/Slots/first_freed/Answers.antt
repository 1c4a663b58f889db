use Rattle.sf_slots.proofs.Sound.{first_is_free}
use Rattle.sf_slots.proofs.slots.Slots.first_freed.Goals as goal

pub returns-clause-free : goal.returns-clause-free
returns-clause-free g c = rw (← c.self.view_is, c.front_of.ensures) (first_is_free _ c.self.invariant.sound)

use Rattle.std.proofs.Common.{sym}
use Rattle.sf_slots.proofs.Sound.{bare_is_free}
use Rattle.sf_slots.proofs.slots.Slots.lowest_bare.Goals as goal

pub returns-in-Some-clause-free : goal.returns-in-Some-clause-free
returns-in-Some-clause-free g c =
    let found = rw c.deref.ensures.value at c.in-Some.ensures in
    let many = rw (← c.self.view_is) at c.usable.ensures.value in
    rw (← c.self.view_is) (bare_is_free _ _ _ c.self.invariant.sound many (sym found))

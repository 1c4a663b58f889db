use Rattle.std.proofs.Common.{arith}
use Rattle.sf_slots.proofs.Counts.{count_all, count_few, count_usable}
use Rattle.sf_slots.specs.Told.{is_in}
use Rattle.sf_slots.proofs.slots.Slots.count.Goals as goal

pub overflow_cast-result : goal.overflow_cast-result
overflow_cast-result g c =
    let few = count_few (is_in c.args.state) c.deref.result.now 64 in
    record { fits = omega (arith, c.count_below.ensures, few) }

pub returns-in-Free : goal.returns-in-Free
returns-in-Free g c = rw (c.count_below.ensures, c.deref.ensures.value, ← c.self.view_is) (count_all _ c.args.state c.self.invariant.sound)

pub returns : goal.returns
returns g c = rw (c.count_below-2.ensures, c.deref-2.ensures.value, c.usable.ensures.value, ← c.self.view_is) (count_usable _ c.args.state c.self.invariant.sound c.in_default.not-Free)

use Rattle.std.proofs.Common.{◌≡◌, ◌+◌, ◌-◌, suc, arith, sym, ap, ◌∙◌}
use Rattle.std.specs.List.{range_with_len}
use Rattle.sf_slots.specs.Effects.{vacated_all}
use Rattle.sf_queue.proofs.connection.vacate_all.Goals as goal

pub loop-slot-preserved : goal.loop-slot-preserved
loop-slot-preserved g c =
    let next : 64 - c.loop-slot.slot ≡ suc (64 - (c.loop-slot.slot + 1)) = omega arith in
    rw c.vacate.ensures (ap (λ n. vacated_all c.loop-slot.q (range_with_len c.loop-slot.slot n)) (sym next) ∙ c.loop-slot.invariant)

pub returns : goal.returns
returns g c =
    let test = c.loop-slot-test.false in
    let none : 64 - c.loop-slot.slot ≡ 0 = omega arith in
    sym (ap (λ n. vacated_all c.loop-slot.q (range_with_len c.loop-slot.slot n)) none) ∙ c.loop-slot.invariant

use Rattle.std.proofs.Common.{◌≡◌, ◌+◌, ◌-◌, suc, arith, sym, ap, ◌∙◌}
use Rattle.std.specs.List.{range_with_len}
use Rattle.sf_slots.specs.Queue.{retired_all}
use Rattle.sf_slots.proofs.slots.Slots.retire_between.Goals as goal

pub loop-slot-preserved : goal.loop-slot-preserved
loop-slot-preserved g c =
    let next : c.args.end - c.loop-slot.slot ≡ suc (c.args.end - (c.loop-slot.slot + 1)) = omega arith in
    rw c.retire.ensures (ap (λ n. retired_all c.loop-slot.self (range_with_len c.loop-slot.slot n)) (sym next) ∙ c.loop-slot.invariant)

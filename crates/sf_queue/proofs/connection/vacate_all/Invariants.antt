use Rattle.std.proofs.Common.{◌≡◌, ◌-◌}
use Rattle.std.specs.List.{range_with_len}
use Rattle.sf_slots.specs.Effects.{vacated_all}
use Rattle.sf_queue.proofs.connection.vacate_all.Given as goal

abbrev pub invariant-loop-slot : goal.invariant-loop-slot
invariant-loop-slot g l = vacated_all l.q (range_with_len l.slot (64 - l.slot)) ≡ vacated_all l.fn.q (range_with_len 0 64)

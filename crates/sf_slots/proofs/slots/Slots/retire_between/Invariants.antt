use Rattle.std.proofs.Common.{◌≡◌, ◌-◌}
use Rattle.std.specs.List.{range_with_len}
use Rattle.sf_slots.specs.Queue.{retired_all}
use Rattle.sf_slots.proofs.slots.Slots.retire_between.Given as goal

abbrev pub invariant-loop-slot : goal.invariant-loop-slot
invariant-loop-slot g l = retired_all l.self (range_with_len l.slot (l.end - l.slot)) ≡ retired_all l.fn.self (range_with_len l.start (l.end - l.start))

use Rattle.std.proofs.Common.{◌≡◌, ◌++◌, map, take, drop, length}
use Rattle.sf_slots.specs.Queue.{emptied}
use Rattle.sf_slots.proofs.limits.empty_slots.Given as goal

abbrev pub invariant-loop-at : goal.invariant-loop-at
invariant-loop-at l = record {
  changed : l.slots.items ≡ map emptied (take l.at l.initial.slots.items) ++ drop l.at l.initial.slots.items;
  sized : length l.slots.items ≡ 64;
}

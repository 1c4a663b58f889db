use Rattle.std.proofs.Common.{◌≡◌, ◌≤◌, drop, take, ◌++◌, length}
use Rattle.circular_buffer.specs.Buffer.{buffer}
use Rattle.sf_slots.specs.Queue.{without}
use Rattle.sf_slots.proofs.rings.remove.Given as goal

abbrev pub invariant-loop : goal.invariant-loop
invariant-loop l = record {
  rotated : l.list ≡ buffer (drop l.counter l.fn.list.items ++ without l.number (take l.counter l.fn.list.items)) l.fn.list.capacity;
  room : length l.list.items ≤ l.list.capacity;
}

use Rattle.std.proofs.Common.{◌≡◌, ◌+◌, ◌-◌, ◌++◌, ◌≤◌, Bool, List, length, vec_capacity, vec_len}
use Rattle.sf_txn.proofs.BufferLooks.{LookedBelow}
use Rattle.sf_txn.proofs.look.look_all.Given as goal

abbrev pub invariant-loop-index : goal.invariant-loop-index
invariant-loop-index g l = record {
  inside : l.index ≤ length l.fn.buffers;
  below : (shown : List Bool) × (l.drawn.items ≡ l.fn.drawn.items ++ shown) × LookedBelow g.L.Lease l.fn.eye l.eye l.fn.buffers l.buffers shown l.index;
  room : vec_len l.drawn + (length l.fn.buffers - l.index) ≤ vec_capacity l.drawn;
  capacity : vec_capacity l.fn.drawn ≤ vec_capacity l.drawn;
}

abbrev pub decreases-loop-index : goal.decreases-loop-index
decreases-loop-index g l = length l.initial.buffers - l.index

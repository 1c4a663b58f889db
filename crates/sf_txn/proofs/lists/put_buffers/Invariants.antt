use Rattle.std.proofs.Common.{◌≡◌, ◌+◌, ◌++◌, ◌≤◌, vec_capacity, vec_len}
use Rattle.std.specs.Vec.Iter.{into_iter_items, into_iter_len}
use Rattle.sf_txn.specs.Transactions.{all_replaced, with_buffers}
use Rattle.sf_txn.proofs.lists.put_buffers.Given as goal

abbrev pub invariant-loop-buffer : goal.invariant-loop-buffer
invariant-loop-buffer g l = record {
  can : (goal.iterator-loop-buffer g).can_next l.buffer-iterator;
  finite : (goal.iterator-loop-buffer g).is_finite l.buffer-iterator;
  buffers : with_buffers l.buffers.items (into_iter_items l.buffer-iterator) ≡ with_buffers l.fn.buffers.items l.fn.more.items;
  replaced : l.replaced.items ++ all_replaced l.buffers.items (into_iter_items l.buffer-iterator) ≡ l.fn.replaced.items ++ all_replaced l.fn.buffers.items l.fn.more.items;
  room : vec_len l.buffers + into_iter_len l.buffer-iterator ≤ vec_capacity l.buffers;
  room_for_replaced : vec_len l.replaced + into_iter_len l.buffer-iterator ≤ vec_capacity l.replaced;
}

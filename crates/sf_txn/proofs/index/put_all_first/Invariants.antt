use Rattle.std.proofs.Common.{◌≡◌, ◌≤◌, length}
use Rattle.std.specs.List.{AllPairs}
use Rattle.std.specs.Vec.{vec_len}
use Rattle.sf_txn.specs.Places.{IsIndexed, kept}
use Rattle.sf_txn.specs.Transactions.{Stays, with_ops}
use Rattle.sf_txn.proofs.index.put_all_first.Given as goal

abbrev pub invariant-loop-operation : goal.invariant-loop-operation
invariant-loop-operation l = record {
  list : with_ops (kept l.earlier.items) (kept l.items.items) ≡ with_ops (kept l.fn.earlier.items) (kept l.fn.items.items);
  apart : AllPairs Stays l.earlier.items;
  room : length (kept l.earlier.items) ≤ l.index.front;
  indexed : IsIndexed l.items.items l.index;
}

abbrev pub decreases-loop-operation : goal.decreases-loop-operation
decreases-loop-operation l = vec_len l.earlier

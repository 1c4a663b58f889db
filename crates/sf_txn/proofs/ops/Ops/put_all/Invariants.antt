use Rattle.std.proofs.Common.{◌≡◌, ◌≤◌, length}
use Rattle.sf_txn.specs.Places.{kept}
use Rattle.sf_txn.specs.Transactions.{with_ops}
use Rattle.sf_txn.proofs.ops.Ops.put_all.Given as goal

abbrev pub invariant-loop-rest : goal.invariant-loop-rest
invariant-loop-rest l = record { list : with_ops l.self.list (kept l.rest) ≡ with_ops l.fn.self.list l.fn.more.list; room : length (kept l.rest) ≤ l.self.room }

abbrev pub decreases-loop-rest : goal.decreases-loop-rest
decreases-loop-rest l = length l.rest

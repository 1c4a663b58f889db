use Rattle.std.proofs.Common.{◌≡◌, map, take}
use Rattle.sf_commit_next.specs.sf_txn.Transactions.{shown_by}
use Rattle.sf_commit.proofs.commit.shown_of.Given as goal

abbrev pub invariant-loop-buffer : goal.invariant-loop-buffer
invariant-loop-buffer g l = l.shown.items ≡ map shown_by (take l.buffer-index l.fn.buffers)

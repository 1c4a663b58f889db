use Rattle.std.proofs.Common.{length, ◌++◌}
use Rattle.std.specs.List.Sorted.{IsStrictlySortedBy}
use Rattle.std.specs.Ordering.{nat_cmp}
use Rattle.sf_commit_next.proofs.AskingLemmas.{Asked}
use Rattle.sf_commit_next.proofs.next.first_ready.Given as goal

abbrev pub invariant-loop-token : goal.invariant-loop-token
invariant-loop-token g l =
    Asked g.L.Lease.shown l.fn.instant.seen.now l.fn.instant.expected l.fn.facts l.fn.queues.pending l.asking l.stopped.items
    × IsStrictlySortedBy nat_cmp (l.stopped.items ++ l.asking)

abbrev pub decreases-loop-token : goal.decreases-loop-token
decreases-loop-token g l = length l.asking

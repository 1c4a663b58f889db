use Rattle.std.proofs.Common.{◌≡◌, length}
use Rattle.sf_commit_next.specs.Asking.{AsksEnough}
use Rattle.sf_commit.specs.inner.Deciding.{Goes, round_of}
use Rattle.sf_commit.proofs.decide.decide.Given as goal

abbrev pub invariant-loop-asking : goal.invariant-loop-asking
invariant-loop-asking g l =
    Goes g.L.Lease.shown l.fn.instant.seen.now l.fn.instant.expected (round_of l.fn.stage l.fn.queues.pending l.fn.facts) l.fn.looks l.stage l.queues.pending l.facts
    × (l.queues.last ≡ l.fn.queues.last) × AsksEnough g.L.Lease.shown l.fn.instant.seen.now l.fn.instant.expected l.asking l.queues.pending

abbrev pub decreases-loop-asking : goal.decreases-loop-asking
decreases-loop-asking g l = length l.queues.pending

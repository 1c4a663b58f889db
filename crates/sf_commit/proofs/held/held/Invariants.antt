use Rattle.std.proofs.Common.{◌≡◌, take}
use Rattle.std.specs.List.{filter_map}
use Rattle.sf_commit.specs.inner.Holding.{told_by}
use Rattle.sf_commit.proofs.held.held.Given as goal

abbrev pub invariant-loop-look : goal.invariant-loop-look
invariant-loop-look g l =
    l.held.items ≡ filter_map (told_by g.L.Lease.shown l.fn.instant.seen.now l.fn.instant.expected l.fn.facts l.fn.queues.pending) (take l.look-index l.fn.looks)

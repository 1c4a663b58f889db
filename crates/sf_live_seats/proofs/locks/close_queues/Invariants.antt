use Rattle.std.specs.Vec.Iter.{into_iter_items}
use Rattle.sf_live_seats.proofs.OpenedLocks.{CloseSoFar}
use Rattle.sf_live_seats.proofs.locks.close_queues.Given as goal

abbrev pub invariant-loop-lock : goal.invariant-loop-lock
invariant-loop-lock g l = CloseSoFar l.fn.locks.items (into_iter_items l.lock-iterator) l.fn.passes.items (into_iter_items l.passes) l.objects.items

use Rattle.std.specs.Vec.Iter.{into_iter_items}
use Rattle.sf_live_seats.proofs.OpenedLocks.{OpenSoFar}
use Rattle.sf_live_seats.proofs.locks.open_queues.Given as goal

abbrev pub invariant-loop-object : goal.invariant-loop-object
invariant-loop-object g l = OpenSoFar l.fn.objects.items (into_iter_items l.object-iterator) l.locks.items l.passes.items

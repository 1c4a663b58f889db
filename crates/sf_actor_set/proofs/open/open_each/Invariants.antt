use Rattle.std.proofs.Common.{◌≡◌, map, take}
use Rattle.sf_actor_set.specs.Opening.{new_queue}
use Rattle.sf_actor_set.proofs.open.open_each.Given as goal

abbrev pub invariant-loop-queue : goal.invariant-loop-queue
invariant-loop-queue g l = l.objects.items ≡ map new_queue (take l.queue-index l.fn.queues)

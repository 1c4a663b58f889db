use Rattle.std.proofs.Common.{◌∙◌}
use Rattle.sf_actor_set.specs.Opening.{new_queue}
use Rattle.sf_actor_set.proofs.OpeningLemmas.{map_more}
use Rattle.sf_actor_set.proofs.open.open_each.Goals as goal

pub loop-queue-preserved : goal.loop-queue-preserved
loop-queue-preserved g c =
    c.in_ok-push.ensures.items ∙ map_more new_queue c.args.queues.now c.loop-queue.objects.items c.loop-queue.queue-index _ c.in_ok-new.field-0 c.loop-queue-test.true c.loop-queue.invariant c.in_ok-new.ensures

use Rattle.sf_play_write.proofs.ClosingLemmas.{stuck_more}
use Rattle.sf_play_write.proofs.closing.stuck_record.Goals as goal

pub loop-actor-preserved : goal.loop-actor-preserved
loop-actor-preserved g c = stuck_more c.args.actors.now c.loop-actor.actor-index c.actor-item.result _ _ c.loop-actor-test.true c.actor-item.is c.loop-actor.invariant c.in_ok-push_stuck.ensures

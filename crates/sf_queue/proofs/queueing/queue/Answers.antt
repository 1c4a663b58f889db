use Rattle.sf_queue.proofs.HistoryLemmas.{queue_refused, queue_done}
use Rattle.sf_queue.proofs.queueing.queue.Goals as goal

pub returns-in-Ok-clause-history : goal.returns-in-Ok-clause-history
returns-in-Ok-clause-history g c = queue_done c.args.q.now c.put.new.q c.args.by c.args.order c.in-Ok.ensures.sound c.in-Ok.ensures.refusal c.put.ensures.done

pub returns-in-Err-clause-history : goal.returns-in-Err-clause-history
returns-in-Err-clause-history g c = queue_refused c.args.q.now c.args.by c.args.order c.in-Err.refused c.in-Err.ensures.refusal

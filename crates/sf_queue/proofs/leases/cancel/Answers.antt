use Rattle.sf_queue.proofs.HistoryLemmas.{cancel_refused, cancel_done}
use Rattle.sf_queue.proofs.leases.cancel.Goals as goal

pub returns-in-Ok-clause-history : goal.returns-in-Ok-clause-history
returns-in-Ok-clause-history g c = cancel_done c.args.q.now c.free.new.self c.args.by c.args.slot c.args.buffer c.args.right c.args.fence c.in-Ok.ensures.sound c.in-Ok.ensures.refusal c.free.ensures

pub returns-in-Err-clause-history : goal.returns-in-Err-clause-history
returns-in-Err-clause-history g c = cancel_refused c.args.q.now c.args.by c.args.slot c.args.buffer c.args.fence c.in-Err.refused c.in-Err.ensures.refusal

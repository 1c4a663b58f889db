use Rattle.sf_queue.proofs.HistoryLemmas.{request_refused, request_done}
use Rattle.sf_queue.proofs.leases.request.Goals as goal

pub returns-in-Ok-clause-history : goal.returns-in-Ok-clause-history
returns-in-Ok-clause-history g c = request_done c.args.q.now c.mark_requested.new.self c.args.by c.args.slot c.args.buffer c.in-Ok.ensures.refusal c.mark_requested.ensures

pub returns-in-Err-clause-history : goal.returns-in-Err-clause-history
returns-in-Err-clause-history g c = request_refused c.args.q.now c.args.by c.args.slot c.args.buffer c.in-Err.refused c.in-Err.ensures.refusal

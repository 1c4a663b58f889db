use Rattle.sf_queue.proofs.HistoryLemmas.{detach_refused, detach_done}
use Rattle.sf_queue.proofs.leases.detach.Goals as goal

pub returns-in-Ok-clause-history : goal.returns-in-Ok-clause-history
returns-in-Ok-clause-history g c = detach_done c.args.q.now c.clear.new.self c.args.by c.args.slot c.args.buffer c.in-Ok.ensures.sound c.in-Ok.ensures.refusal c.clear.ensures.after

pub returns-in-Err-clause-history : goal.returns-in-Err-clause-history
returns-in-Err-clause-history g c = detach_refused c.args.q.now c.args.by c.args.slot c.args.buffer c.in-Err.refused c.in-Err.ensures.refusal

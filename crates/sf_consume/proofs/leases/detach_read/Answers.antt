use Rattle.sf_consume.proofs.HistoryLemmas.{detach_refused, detach_done}
use Rattle.sf_consume.proofs.leases.detach_read.Goals as goal

pub returns-in-Some-clause-history : goal.returns-in-Some-clause-history
returns-in-Some-clause-history g c = detach_refused c.args.q.now c.args.slot c.args.frame c.in-Some.refused c.in-Some.ensures.refusal

pub returns-in-None-clause-history : goal.returns-in-None-clause-history
returns-in-None-clause-history g c = detach_done c.args.q.now c.clear.new.self c.args.slot c.args.frame c.in-None.ensures.sound c.in-None.ensures.refusal c.clear.ensures.after

use Rattle.sf_consume.proofs.HistoryLemmas.{release_refused, release_done}
use Rattle.sf_consume.proofs.leases.release.Goals as goal

pub returns-in-Some-clause-history : goal.returns-in-Some-clause-history
returns-in-Some-clause-history g c = release_refused c.args.q.now c.args.slot c.args.frame c.args.fence c.in-Some.refused c.in-Some.ensures.refusal

pub returns-in-None-clause-history : goal.returns-in-None-clause-history
returns-in-None-clause-history g c = release_done c.args.q.now c.free.new.self c.args.slot c.args.frame c.args.right c.args.fence c.in-None.ensures.sound c.in-None.ensures.refusal c.free.ensures

use Rattle.sf_live_threads.proofs.TaskLemmas.{stays_here}
use Rattle.sf_live_threads.proofs.here.try_one.Goals as goal

pub returns-in-Here : goal.returns-in-Here
returns-in-Here g c = stays_here _ _ _ c.args.task c.in-Here.back c.try_back.result c.in-Here.is c.try_back.ensures.fit c.try_back.ensures.same

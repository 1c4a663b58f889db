use Rattle.std.proofs.Common.{rules, tests}
use Rattle.std.proofs.lemmas.Iterator.{YieldsList-from_slice}
use Rattle.std.proofs.lemmas.Iterator.Consumers.{YieldsList-from_filter, count_from_yields_List}
use Rattle.sf_actor_steps.specs.sf_actor.Tries.{is_dequeue}
use Rattle.sf_actor_set.proofs.permits.dequeues.Goals as goal

pub returns : goal.returns
returns c = count_from_yields_List c.filter.result _ c.count.ensures.ran
    (YieldsList-from_filter _ is_dequeue (YieldsList-from_slice c.args.steps.now cc) c.filter.ensures.closure (λ x r q k. search (rules, tests)))

use Rattle.std.proofs.Common.{◌∙◌, None, get_or, sym, subst}
use Rattle.std.specs.List.{All}
use Rattle.sf_actor_steps.specs.Editing.{IsThere}
use Rattle.sf_actor_steps.proofs.EditingLemmas.{All-replaced}
use Rattle.sf_actor_steps.proofs.ShowingLemmas.{other_left, queues_of}
use Rattle.sf_actor_steps.proofs.bindings.Bindings.merge.Goals as goal

pub release_all-requires-clause-there : goal.release_all-requires-clause-there
release_all-requires-clause-there g c =
    let home = g.D.Desk.home c.args.desk.now in
    let bindings = c.args.self.now in
    let into = c.take_transaction-transaction.result in
    let from = c.take_transaction-merged.result in
    let other_there = sym (other_left bindings c.take_transaction-transaction.new.self c.args.number c.args.other into c.take_transaction-transaction.ensures c.requires.apart) ∙ c.take_transaction-merged.ensures.txn_there in
    subst (All (IsThere home)) (sym c.in-Ok.ensures.replaced)
    (All-replaced (IsThere home) into.buffers from.buffers
    (queues_of home (get_or bindings.transactions c.args.number None) into c.take_transaction-transaction.ensures.txn_there c.requires.queues)
    (queues_of home (get_or bindings.transactions c.args.other None) from other_there c.requires.other_queues))

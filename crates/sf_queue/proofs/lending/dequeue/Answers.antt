use Rattle.std.proofs.Common.{◌∙◌, sym}
use Rattle.sf_slots.specs.Queue.{told_of}
use Rattle.sf_queue.proofs.HistoryLemmas.{fresh_where_wanted}
use Rattle.sf_queue.proofs.lending.dequeue.Goals as goal

pub dequeue_chosen-requires-clause-fresh : goal.dequeue_chosen-requires-clause-fresh
dequeue_chosen-requires-clause-fresh g c =
    let chosen = c.in-Ok.ensures.chosen in
    c.requires.fresh ∙ (fresh_where_wanted (told_of c.args.q.now) c.args.by c.args.width c.args.height chosen.allowed ∙ sym chosen.needs)

use Rattle.std.proofs.Common.{◌∙◌, sym}
use Rattle.sf_slots.specs.Queue.{told_of}
use Rattle.sf_queue.proofs.HistoryLemmas.{allowed_lent, queue_done}
use Rattle.sf_queue.proofs.queueing.queue_allowed.Goals as goal

pub returns-clause-history : goal.returns-clause-history
returns-clause-history g c = queue_done c.args.q.now c.put.new.q c.args.by c.args.order c.in-Ok.ensures.sound (sym c.requires.allowed) c.put.ensures.done

pub unreachable-requires : goal.unreachable-requires
unreachable-requires g c =
    let same = c.in-Err.ensures.refusal ∙ allowed_lent (told_of c.args.q.now) c.args.by c.args.order c.requires.allowed in
    absurd (cc (same))

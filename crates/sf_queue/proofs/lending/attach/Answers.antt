use Rattle.std.proofs.Common.{ap, ◌∙◌, true}
use Rattle.sf_slots.specs.Queue.{next_held, seated}
use Rattle.sf_queue.proofs.HistoryLemmas.{attach_done}
use Rattle.sf_queue.proofs.lending.attach.Goals as goal

pub returns-in-Ok-clause-history : goal.returns-in-Ok-clause-history
returns-in-Ok-clause-history g c =
    attach_done c.args.q.now c.seat-held.new.self c.args.by c.args.width c.args.height c.in-Ok.slot c.seat-held.result c.in-Ok.ensures.sound c.in-Ok.ensures.refusal c.in-Ok.ensures.chosen.chosen c.in-Ok.ensures.chosen.free
    (c.seat-held.ensures.held ∙ ap (λ p. next_held p c.args.width c.args.height) c.lend.ensures.after)
    (c.seat-held.ensures.after ∙ ap (λ p. seated p c.in-Ok.slot.0 c.args.width c.args.height true) c.lend.ensures.after)

use Rattle.std.proofs.Common.{ap, ◌∙◌, sym, false}
use Rattle.std.specs.Prelude.{is_some}
use Rattle.sf_slots.specs.Queue.{next_held, seated, told_of}
use Rattle.sf_queue.proofs.HistoryLemmas.{dequeue_reused, dequeue_renewed, fresh_where_wanted, wants_new, wants_none}
use Rattle.sf_queue.proofs.lending.dequeue_chosen.Goals as goal

pub returns-in-Some-default-default-clause-history : goal.returns-in-Some-default-default-clause-history
returns-in-Some-default-default-clause-history g c =
    let is = c.requires.chosen in
    let slot = c.args.chosen.slot in
    let taken = c.requires.fresh ∙ (is.needs ∙ sym (fresh_where_wanted (told_of c.args.q.now) c.args.by c.args.width c.args.height is.allowed)) in
    let other = wants_new c.args.q.now c.args.by c.args.width c.args.height slot is.slot.chosen (sym (ap is_some c.in-Some-default-default.is-0) ∙ taken) in
    dequeue_renewed c.args.q.now c.seat.new.self c.args.by c.args.width c.args.height slot c.seat.result c.none.result is.sound (sym is.allowed) is.slot.chosen is.slot.free other c.none.ensures
    (c.seat.ensures.held ∙ (λ i. next_held (c.lend-right.ensures.after i) (is.wide i) (is.high i)))
    (c.seat.ensures.after ∙ (λ i. seated (c.lend-right.ensures.after i) slot.0 (is.wide i) (is.high i) false))

pub returns-in-None-Some-Some-clause-history : goal.returns-in-None-Some-Some-clause-history
returns-in-None-Some-Some-clause-history g c =
    let is = c.requires.chosen in
    let slot = c.args.chosen.slot in
    let taken = c.requires.fresh ∙ (is.needs ∙ sym (fresh_where_wanted (told_of c.args.q.now) c.args.by c.args.width c.args.height is.allowed)) in
    let here = sym c.held-known.ensures ∙ c.in-None-Some-Some.is-2 in
    let size = wants_none c.args.q.now c.args.by c.args.width c.args.height slot c.in-None-Some-Some.held (sym is.allowed) is.slot.chosen here (sym (ap is_some c.in-None-Some-Some.is-0) ∙ taken) in
    dequeue_reused c.args.q.now c.lend-right.new.self c.args.by c.args.width c.args.height slot c.in-None-Some-Some.held c.lend-right.result.1 is.sound (sym is.allowed) is.slot.chosen is.slot.free here size c.lend-right.ensures.fence c.lend-right.ensures.after

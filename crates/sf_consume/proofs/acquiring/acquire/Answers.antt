use Rattle.std.proofs.Common.{rules, ◌≡◌, None, slice_get, ap, ◌∙◌, sym}
use Rattle.sf_slots.specs.declared.calls.PlainCall.TheVariants as call
use Rattle.sf_slots.specs.Effects.{nobody}
use Rattle.sf_slots.specs.Queue.{told_of, handed_over}
use Rattle.sf_slots.specs.Replies.{refusal_of}
use Rattle.sf_consume.proofs.HistoryLemmas.{acquire_done}
use Rattle.sf_consume.proofs.acquiring.acquire.Goals as goal

pub returns-clause-history : goal.returns-clause-history
returns-clause-history g c =
    let none : None ≡ refusal_of (told_of c.args.q.now) nobody (call.Acquire c.args.expected) = search rules in
    acquire_done c.args.q.now c.take_front-item.new.self c.args.expected c.take_front-item.result c.drop_late-dropped.result c.acquire_refusal.ensures.sound none c.drop_late-dropped.ensures.all
    (ap (λ p. slice_get p.items 0) (sym c.drop_late-dropped.ensures.after) ∙ c.take_front-item.ensures.item)
    (c.take_front-item.ensures.after ∙ ap (λ p. handed_over p c.take_front-item.result) c.drop_late-dropped.ensures.after)

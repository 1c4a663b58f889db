use Rattle.std.proofs.Common.{rules, ◌≡◌, None, false, ap, ◌∙◌, sym}
use Rattle.sf_slots.specs.declared.calls.PlainCall.TheVariants as call
use Rattle.sf_slots.specs.Effects.{nobody}
use Rattle.sf_slots.specs.Queue.{told_of, next_held, seated}
use Rattle.sf_slots.specs.Replies.{refusal_of}
use Rattle.sf_consume.proofs.HistoryLemmas.{attach_done}
use Rattle.sf_consume.proofs.leases.attach_read.Goals as goal

pub returns-in-Some-clause-history : goal.returns-in-Some-clause-history
returns-in-Some-clause-history g c =
    let none : None ≡ refusal_of (told_of c.args.q.now) nobody (call.AttachRead (record { number = 0; width = c.args.width; height = c.args.height })) = search rules in
    attach_done c.args.q.now c.seat-held.new.self c.args.width c.args.height c.in-Some.slot c.seat-held.result c.settings.ensures.sound none (sym c.in-Some.ensures.slot) c.in-Some.ensures.free.free
    (c.seat-held.ensures.held ∙ ap (λ p. next_held p c.args.width c.args.height) c.hold.ensures.after)
    (c.seat-held.ensures.after ∙ ap (λ p. seated p c.in-Some.slot.0 c.args.width c.args.height false) c.hold.ensures.after)

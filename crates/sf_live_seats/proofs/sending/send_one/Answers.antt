use Rattle.std.proofs.Common.{◌≡◌, ◌∙◌, Some, ap, inl, subst}
use Rattle.sf_calls.specs.Histories.{calls_by}
use Rattle.sf_live_seats.specs.Arriving.{ArrivalsPass}
use Rattle.sf_live_seats.specs.Calls.{IsMade, SentOne}
use Rattle.sf_live_seats.specs.Seats.{sent_in, takes_in}
use Rattle.sf_live_seats.proofs.PassSend.{made_sent, none_taken, sent_one}
use Rattle.sf_live_seats.proofs.sending.send_one.Goals as goal

pub returns-in-Ok-default-Number-clause-ticks : goal.returns-in-Ok-default-Number-clause-ticks
returns-in-Ok-default-Number-clause-ticks g c =
    let marked : c.seat.inside.pass.mark ≡ Some tt = ap (λ (p : ArrivalsPass). p.mark) c.seat.view_is ∙ c.requires.marked in
    inl (subst (λ (p : ArrivalsPass). IsMade c.args.last.now (record { step = c.args.step; stamp = c.in-Ok-default-Number.stamp }) (sent_in (calls_by p.by p.seen)) (sent_in (calls_by p.by c.call.new.self.seen))) c.seat.view_is
    (made_sent c.seat.inside.pass c.call.new.self c.args.last.now c.in-Ok-default-Number.stamp c.args.step c.args.txn c.in-Ok-default-Number.field-0-1 marked c.if-step-last.false c.in-Ok-default-Number.ensures.done))

pub returns-in-Ok-default-Number-clause-made : goal.returns-in-Ok-default-Number-clause-made
returns-in-Ok-default-Number-clause-made g c =
    let marked : c.seat.inside.pass.mark ≡ Some tt = ap (λ (p : ArrivalsPass). p.mark) c.seat.view_is ∙ c.requires.marked in
    subst (λ (p : ArrivalsPass). IsMade c.args.last.now (record { step = c.args.step; stamp = c.in-Ok-default-Number.stamp }) (sent_in (calls_by p.by p.seen)) (sent_in (calls_by p.by c.call.new.self.seen))) c.seat.view_is
    (made_sent c.seat.inside.pass c.call.new.self c.args.last.now c.in-Ok-default-Number.stamp c.args.step c.args.txn c.in-Ok-default-Number.field-0-1 marked c.if-step-last.false c.in-Ok-default-Number.ensures.done)

pub returns-in-Ok-default-Number-clause-takes : goal.returns-in-Ok-default-Number-clause-takes
returns-in-Ok-default-Number-clause-takes g c =
    let marked : c.seat.inside.pass.mark ≡ Some tt = ap (λ (p : ArrivalsPass). p.mark) c.seat.view_is ∙ c.requires.marked in
    subst (λ (p : ArrivalsPass). takes_in (calls_by p.by c.call.new.self.seen) ≡ takes_in (calls_by p.by p.seen)) c.seat.view_is
    (none_taken c.seat.inside.pass c.call.new.self c.args.last.now.stamp c.in-Ok-default-Number.stamp c.args.step c.args.txn c.in-Ok-default-Number.field-0-1 marked c.in-Ok-default-Number.ensures.done)

pub returns-in-Ok-default-Number-clause-sent : goal.returns-in-Ok-default-Number-clause-sent
returns-in-Ok-default-Number-clause-sent g c =
    let marked : c.seat.inside.pass.mark ≡ Some tt = ap (λ (p : ArrivalsPass). p.mark) c.seat.view_is ∙ c.requires.marked in
    subst (λ (p : ArrivalsPass). SentOne p c.call.new.self c.args.step c.args.txn c.in-Ok-default-Number.number) c.seat.view_is
    (sent_one c.seat.inside.pass c.call.new.self c.args.last.now.stamp c.in-Ok-default-Number.stamp c.args.step c.args.txn c.in-Ok-default-Number.field-0-1 c.in-Ok-default-Number.number marked c.in-Ok-default-Number.field-0-1-is c.in-Ok-default-Number.ensures.done)

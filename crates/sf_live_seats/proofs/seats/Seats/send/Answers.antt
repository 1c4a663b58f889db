use Rattle.std.proofs.Common.{◌≡◌, ◌≤◌, ◌∙◌, subst, sym}
use Rattle.std.specs.Prelude.{IfErr, IfOk}
use Rattle.sf_live_seats.specs.Arriving.{ArrivalsPass}
use Rattle.sf_live_seats.specs.Calls.{SentOne}
use Rattle.sf_live_seats.proofs.IntakeHands.{none_there}
use Rattle.sf_live_seats.proofs.SentThroughIntake.{sends_change, sends_made, sends_own, tries}
use Rattle.sf_live_seats.proofs.ReunitedPass.{some_same}
use Rattle.sf_live_seats.proofs.PassSend.{PassSends, locked_changes, locked_own, made_send, not_sent, there_locked}
use Rattle.sf_live_seats.proofs.seats.Seats.send.Goals as goal

pub returns-in-Sends-clause-own : goal.returns-in-Sends-clause-own
returns-in-Sends-clause-own g c =
    sends_own g.B.TableName.table c.args.locks.now c.args.self.now c.in-Sends.outbox c.send.new.self c.send.new.last c.in-Sends.is c.requires.may.own c.send.ensures.ready c.send.ensures.still
    (tries c.in-Sends.outbox c.send.new.self c.args.self.now.last c.send.new.last c.args.step c.args.txn c.send.result c.send.ensures.sent c.send.ensures.back)

pub returns-in-Sends-clause-changes : goal.returns-in-Sends-clause-changes
returns-in-Sends-clause-changes g c =
    sends_change g.B.TableName.table c.args.locks.now c.args.self.now c.in-Sends.outbox c.send.new.self c.send.new.last c.in-Sends.is c.requires.may.own c.send.ensures.ready c.send.ensures.still
    (tries c.in-Sends.outbox c.send.new.self c.args.self.now.last c.send.new.last c.args.step c.args.txn c.send.result c.send.ensures.sent c.send.ensures.back)

pub returns-in-Sends-clause-sent : goal.returns-in-Sends-clause-sent
returns-in-Sends-clause-sent g c =
    sends_made g.B.TableName.table c.args.locks.now c.args.self.now c.in-Sends.outbox c.send.new.self c.send.new.last c.in-Sends.is c.requires.may.own c.send.ensures.ready c.send.ensures.still c.args.step c.args.txn
    c.send.result c.send.ensures.sent

pub returns-in-Some-pass-clause-own : goal.returns-in-Some-pass-clause-own
returns-in-Some-pass-clause-own g c =
    let seats = c.args.self.now in
    let is : c.in-Some-pass.pass ≡ seats.arrivals = some_same (sym c.in-Some-pass.is ∙ there_locked g.B.TableName.table c.args.locks.now seats c.requires.may.own c.in-None.is) in
    let made = c.send_one-sent.ensures in
    let sends : PassSends c.in-Some-pass.pass c.send_one-sent.new.seat seats.last c.send_one-sent.new.last =
    record { same = made.same; turns = made.turns; begins = made.begins; ticks = made.ticks; takes = made.takes } in
    let here = subst (λ (p : ArrivalsPass). PassSends p c.send_one-sent.new.seat seats.last c.send_one-sent.new.last) is sends in
    locked_own g.B.TableName.table c.args.locks.now seats c.send_one-sent.new.seat c.of.result c.send_one-sent.new.last c.requires.may.own c.in-None.is here c.of.ensures

pub returns-in-Some-pass-clause-changes : goal.returns-in-Some-pass-clause-changes
returns-in-Some-pass-clause-changes g c =
    let seats = c.args.self.now in
    let is : c.in-Some-pass.pass ≡ seats.arrivals = some_same (sym c.in-Some-pass.is ∙ there_locked g.B.TableName.table c.args.locks.now seats c.requires.may.own c.in-None.is) in
    let made = c.send_one-sent.ensures in
    let sends : PassSends c.in-Some-pass.pass c.send_one-sent.new.seat seats.last c.send_one-sent.new.last =
    record { same = made.same; turns = made.turns; begins = made.begins; ticks = made.ticks; takes = made.takes } in
    let here = subst (λ (p : ArrivalsPass). PassSends p c.send_one-sent.new.seat seats.last c.send_one-sent.new.last) is sends in
    locked_changes g.B.TableName.table c.args.locks.now seats c.send_one-sent.new.seat c.of.result c.send_one-sent.new.last c.requires.may.own c.in-None.is here c.of.ensures

pub returns-in-Some-pass-clause-sent : goal.returns-in-Some-pass-clause-sent
returns-in-Some-pass-clause-sent g c =
    let seats = c.args.self.now in
    let own = c.requires.may.own in
    let is : c.in-Some-pass.pass ≡ seats.arrivals = some_same (sym c.in-Some-pass.is ∙ there_locked g.B.TableName.table c.args.locks.now seats own c.in-None.is) in
    let new = c.send_one-sent.new.seat in
    made_send seats new c.of.result c.send_one-sent.new.last c.args.locks.now c.args.step c.args.txn c.send_one-sent.result c.of.ensures own.number c.in-None.is
    (none_there c.args.locks.now seats.by seats.arrivals.gave seats.last seats.intake c.in-None.is own.way)
    (subst (λ (p : ArrivalsPass). p.turns ≤ new.turns) is c.send_one-sent.ensures.turns)
    (subst (λ (p : ArrivalsPass). IfOk c.send_one-sent.result (SentOne p new c.args.step c.args.txn)) is c.send_one-sent.ensures.sent)

pub returns-in-Some-pass-clause-back : goal.returns-in-Some-pass-clause-back
returns-in-Some-pass-clause-back g c =
    let seats = c.args.self.now in
    let is : c.in-Some-pass.pass ≡ seats.arrivals = some_same (sym c.in-Some-pass.is ∙ there_locked g.B.TableName.table c.args.locks.now seats c.requires.may.own c.in-None.is) in
    let new = c.send_one-sent.new.seat in
    not_sent seats new c.of.result c.send_one-sent.new.last c.args.step c.args.txn c.send_one-sent.result c.of.ensures
    (subst (λ (p : ArrivalsPass). IfErr c.send_one-sent.result (λ back. (back.1 ≡ c.args.txn) × (new ≡ p))) is c.send_one-sent.ensures.back)

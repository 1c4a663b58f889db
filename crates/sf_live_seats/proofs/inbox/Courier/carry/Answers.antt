use Rattle.sf_live_seats.proofs.IntakeArrivals.{carried}
use Rattle.sf_live_seats.proofs.inbox.Courier.carry.Goals as goal

pub returns-in-Ok-clause-carried : goal.returns-in-Ok-clause-carried
returns-in-Ok-clause-carried g c =
    carried c.args.self.now c.send_one.new.seat c.args.stamp c.args.step c.in-Ok.field-0 c.args.txn c.send_one.new.last c.requires.able.number c.send_one.ensures.same c.in-Ok.ensures.sent
    c.in-Ok.ensures.step c.in-Ok.ensures.made c.send_one.ensures.takes

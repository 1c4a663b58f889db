use Rattle.std.proofs.Common.{Some, ◌∙◌, ap, subst, sym}
use Rattle.sf_actor.specs.Plain.{PlainOf}
use Rattle.sf_live_seats.specs.declared.locks.Locks.{Locks}
use Rattle.sf_live_seats.specs.declared.seats.Seats.{Seats}
use Rattle.sf_live_seats.specs.Arriving.{ArrivalsPass}
use Rattle.sf_live_seats.specs.Closing.{AreOpened, Opens, OpensIntake}
use Rattle.sf_live_seats.proofs.OpenedLocks.{IsMade, first_made, opens_made}
use Rattle.sf_live_seats.proofs.locks.Locks.open.Goals as goal

pub returns : goal.returns
returns g c =
    let desk = c.desk.inside in
    let plain = c.desk.invariant in
    let locks : Locks g.row.B.Denot = record { queues = c.in_ok-queues.queues; arrivals = c.in_ok-lock.lock; times = desk.table; intake = c.in_ok-intake.intake } in
    let seats = c.of-2.ensures.seats in
    let shown = ap (λ (s : Seats g.row.B.Denot). s.arrivals) seats ∙ c.of.ensures in
    let m : IsMade c.args.tells desk.queues.items desk.times desk.turns locks c.of-2.result = record {
      queues = subst (λ (s : Seats g.row.B.Denot). AreOpened desk.queues.items locks.queues.items s.queues.items) (sym seats) c.in_ok-queues.ensures;
      number = ap (λ (s : Seats g.row.B.Denot). s.by) seats;
      step = ap (λ (s : Seats g.row.B.Denot). s.last.step) seats;
      arrivals = shown ∙ c.in_ok-lock.ensures;
      times_is = ap (λ (s : Seats g.row.B.Denot). s.times) seats;
      own_times = plain.own_times;
      turns_is = ap (λ (s : Seats g.row.B.Denot). s.turns) seats;
      took = c.of-2.ensures.took;
      pass = ap (λ (s : Seats g.row.B.Denot). s.pass) seats ∙ ap (λ (p : ArrivalsPass). Some p) (sym shown);
      intake = subst (λ (s : Seats g.row.B.Denot). OpensIntake c.args.tells locks.intake s.intake) (sym seats) c.in_ok-intake.ensures;
    } in
    record {
      first = first_made g.B.TableName.table c.args.tells desk.queues.items desk.times desk.turns locks c.of-2.result plain.alone plain.own_turns plain.first plain.none_out m;
      opened = subst (λ (d : PlainOf g.row.B.Denot). Opens c.args.tells d.queues d.times d.turns locks c.of-2.result) c.desk.view_is
          (opens_made g.B.TableName.table c.args.tells desk.queues.items desk.times desk.turns locks c.of-2.result plain.alone plain.own_turns plain.first plain.none_out m);
    }

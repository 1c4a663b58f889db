use Rattle.std.proofs.Common.{List, ◌+◌, ap, ◌∙◌, sym, subst}
use Rattle.std.specs.List.{AllByRecursion}
use Rattle.sf_live_seats.specs.declared.seats.Seats.{Seats}
use Rattle.sf_live_seats.specs.Seats.{IsHeard}
use Rattle.sf_live_seats.proofs.IntakeArrivals.{hears_inbox, same_passes}
use Rattle.sf_live_seats.proofs.ReunitedPass.{all_heard, all_send_to}
use Rattle.sf_live_seats.proofs.inbox.Inbox.finish.Goals as goal

pub hear_each-requires-clause-theirs : goal.hear_each-requires-clause-theirs
hear_each-requires-clause-theirs g c = all_send_to g.B.TableName.table c.args.locks.now c.args.intake.now c.args.ends.now c.requires.intake c.requires.theirs

pub drain-requires : goal.drain-requires
drain-requires g c = record {
  own = hears_inbox c.args.locks.now.arrivals c.args.self.now c.hear_each.new.self c.requires.own c.hear_each.ensures.hears;
  couriers =
      same_passes (c.args.last.now.stamp + 1) c.args.self.now.taker.made c.hear_each.new.self.taker.made c.args.self.now.couriers.items c.hear_each.new.self.couriers.items c.requires.couriers
      (ap (λ t. t.made) c.hear_each.ensures.hears.taker) (ap (λ cs. cs.items) c.hear_each.ensures.hears.couriers);
  intake = ap (λ t. t.intake) c.hear_each.ensures.hears.taker ∙ c.requires.same;
}

pub reunite_each-requires-clause-may : goal.reunite_each-requires-clause-may
reunite_each-requires-clause-may g c = record {
  own = c.drain.ensures.own;
  same = c.drain.ensures.same.intake ∙ ap (λ t. t.intake) c.hear_each.ensures.hears.taker ∙ c.requires.same;
  shared = c.requires.intake;
  none = c.in_ok-drain.ensures.none;
  all = c.in_ok-drain.ensures.dry;
}

pub reunite_each-requires-clause-heard : goal.reunite_each-requires-clause-heard
reunite_each-requires-clause-heard g c =
    all_heard c.hear_each.new.self.taker c.drain.new.self.taker c.hear_each.new.ends c.drain.ensures.same.heard
    (subst (λ (ends : List (Seats g.row.B.Denot)). AllByRecursion (λ (s : Seats g.row.B.Denot). IsHeard c.hear_each.new.self.taker s.intake) ends) (sym c.hear_each.ensures.same)
    c.hear_each.ensures.heard)

pub returns-clause-own : goal.returns-clause-own
returns-clause-own g c = c.reunite_each.ensures.may.own

use Rattle.std.proofs.Common.{rules, ◌∙◌, refl}
use Rattle.sf_live_seats.proofs.IntakeArrivals.{later_none, later_on, same_inbox, same_on}
use Rattle.sf_live_seats.proofs.inbox.Inbox.drain.Goals as goal

pub loop-init : goal.loop-init
loop-init g c = record { steps = (tt, tt); own = c.requires.own; couriers = c.requires.couriers; same = same_inbox c.args.self.now c.args.self.now refl; last = later_none c.args.last.now }

pub bring-requires : goal.bring-requires
bring-requires g c = record { own = c.loop.invariant.own; couriers = c.loop.invariant.couriers; intake = c.loop.invariant.same.intake ∙ c.requires.intake }

pub returns-in_err-bring-clause-same : goal.returns-in_err-bring-clause-same
returns-in_err-bring-clause-same g c = same_on c.args.self.now c.loop.self c.bring.new.self c.loop.invariant.same c.bring.ensures.same

pub returns-in_err-bring-clause-last : goal.returns-in_err-bring-clause-last
returns-in_err-bring-clause-last g c = later_on c.args.last.now c.loop.last c.bring.new.last c.loop.invariant.last c.bring.ensures.last

pub returns-then-not-branch-clause-same : goal.returns-then-not-branch-clause-same
returns-then-not-branch-clause-same g c = same_on c.args.self.now c.loop.self c.bring.new.self c.loop.invariant.same c.bring.ensures.same

pub returns-then-not-branch-clause-last : goal.returns-then-not-branch-clause-last
returns-then-not-branch-clause-last g c = later_on c.args.last.now c.loop.last c.bring.new.last c.loop.invariant.last c.bring.ensures.last

pub returns-then-not-branch-clause-none : goal.returns-then-not-branch-clause-none
returns-then-not-branch-clause-none g c = c.in_ok-bring.ensures.none

pub returns-then-not-branch-clause-dry : goal.returns-then-not-branch-clause-dry
returns-then-not-branch-clause-dry g c = c.in_ok-bring.ensures.dry (search rules)

pub loop-preserved : goal.loop-preserved
loop-preserved g c = record {
  steps = (tt, tt);
  own = c.bring.ensures.own;
  couriers = c.bring.ensures.couriers;
  same = same_on c.args.self.now c.loop.self c.bring.new.self c.loop.invariant.same c.bring.ensures.same;
  last = later_on c.args.last.now c.loop.last c.bring.new.last c.loop.invariant.last c.bring.ensures.last;
}

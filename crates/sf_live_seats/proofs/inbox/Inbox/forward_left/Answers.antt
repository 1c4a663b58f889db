use Rattle.std.proofs.Common.{rules, ◌∙◌, refl}
use Rattle.sf_live_seats.proofs.IntakeArrivals.{later_none, later_on}
use Rattle.sf_live_seats.proofs.inbox.Inbox.forward_left.Goals as goal

pub loop-init : goal.loop-init
loop-init g c = record { own = c.requires.own; couriers = c.requires.couriers; taker = refl; last = later_none c.args.last.now }

pub forward-requires : goal.forward-requires
forward-requires g c = record { own = c.loop.invariant.own; couriers = c.loop.invariant.couriers }

pub returns-in_err-forward-clause-taker : goal.returns-in_err-forward-clause-taker
returns-in_err-forward-clause-taker g c = c.forward.ensures.taker ∙ c.loop.invariant.taker

pub returns-in_err-forward-clause-last : goal.returns-in_err-forward-clause-last
returns-in_err-forward-clause-last g c = later_on c.args.last.now c.loop.last c.forward.new.last c.loop.invariant.last c.forward.ensures.last

pub loop-smaller : goal.loop-smaller
loop-smaller g c = c.in_ok-forward.ensures.fewer (search rules)

pub loop-preserved : goal.loop-preserved
loop-preserved g c = record {
  own = c.forward.ensures.own;
  couriers = c.forward.ensures.couriers;
  taker = c.forward.ensures.taker ∙ c.loop.invariant.taker;
  last = later_on c.args.last.now c.loop.last c.forward.new.last c.loop.invariant.last c.forward.ensures.last;
}

pub returns-clause-taker : goal.returns-clause-taker
returns-clause-taker g c = c.forward.ensures.taker ∙ c.loop.invariant.taker

pub returns-clause-last : goal.returns-clause-last
returns-clause-last g c = later_on c.args.last.now c.loop.last c.forward.new.last c.loop.invariant.last c.forward.ensures.last

pub returns-clause-none : goal.returns-clause-none
returns-clause-none g c = c.in_ok-forward.ensures.none (search rules)

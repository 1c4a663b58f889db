use Rattle.std.proofs.Common.{arith}
use Rattle.sf_commit.proofs.FollowLemmas.{received_above, received_all, received_more, received_none}
use Rattle.sf_commit.proofs.ListLemmas.{empty_of}
use Rattle.sf_commit.proofs.receive.receive.Goals as goal

pub loop-one-init : goal.loop-one-init
loop-one-init g c = received_none c.args.queues.now c.args.arrived.items c.into_iter-one-iterator.result.rest.items c.into_iter-one-iterator.ensures.into_iter_gives.0 c.requires

pub push-requires : goal.push-requires
push-requires g c =
    received_above c.args.queues.now c.args.arrived.items c.loop-one.queues c.loop-one.one-iterator.rest.items c.in-Some.one c.next.new.self.rest.items c.in-Some.ensures.steps.0 c.loop-one.invariant

pub loop-one-preserved : goal.loop-one-preserved
loop-one-preserved g c =
    received_more c.args.queues.now c.args.arrived.items c.loop-one.queues c.push.new.self c.loop-one.one-iterator.rest.items c.in-Some.one c.next.new.self.rest.items
    c.in-Some.ensures.steps.0 c.in_default.ensures.ok c.loop-one.invariant

pub returns : goal.returns
returns g c =
    let left = c.loop-one.one-iterator.rest in
    let none = empty_of left.items (omega (arith, left.ok.0, c.in-None.ensures.steps.0)) in
    received_all c.args.queues.now c.args.arrived.items c.loop-one.queues left.items none c.loop-one.invariant

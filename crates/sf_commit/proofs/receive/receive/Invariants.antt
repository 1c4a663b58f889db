use Rattle.sf_commit.proofs.FollowLemmas.{Received}
use Rattle.sf_commit.proofs.receive.receive.Given as goal

abbrev pub invariant-loop-one : goal.invariant-loop-one
invariant-loop-one g l = Received l.fn.queues l.fn.arrived.items l.queues l.one-iterator.rest.items

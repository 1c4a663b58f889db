use Rattle.std.proofs.Common.{◌≡◌, map}
use Rattle.sf_live.specs.inner.Threads.{returned_actor, returned_gates}
use Rattle.sf_live.proofs.threads.returned_parts.Given as goal

abbrev pub invariant-loop-one : goal.invariant-loop-one
invariant-loop-one g l = record {
  can_next : (goal.iterator-loop-one g).can_next l.one-iterator;
  is_finite : (goal.iterator-loop-one g).is_finite l.one-iterator;
  actors : l.actors.items ≡ map (returned_actor {B = g.row.B.Denot}) l.yielded;
  gates : l.gates.items ≡ map (returned_gates {B = g.row.B.Denot}) l.yielded;
}

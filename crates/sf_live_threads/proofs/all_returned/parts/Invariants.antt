use Rattle.std.proofs.Common.{◌≡◌, map}
use Rattle.sf_live_threads.specs.Meeting.{as_returned, seats_of}
use Rattle.sf_live_threads.proofs.all_returned.parts.Given as goal

abbrev pub invariant-loop-seated_actor : goal.invariant-loop-seated_actor
invariant-loop-seated_actor g l = record {
  can_next : (goal.iterator-loop-seated_actor g).can_next l.seated_actor-iterator;
  is_finite : (goal.iterator-loop-seated_actor g).is_finite l.seated_actor-iterator;
  returned : l.returned.items ≡ map (as_returned {B = g.row.B.Denot}) l.yielded;
  ends : l.ends.items ≡ map (seats_of {B = g.row.B.Denot}) l.yielded;
}

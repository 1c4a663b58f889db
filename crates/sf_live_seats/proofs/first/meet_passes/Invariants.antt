use Rattle.std.specs.Vec.Iter.{into_iter_items}
use Rattle.sf_live_seats.proofs.SeatsTakenIn.{MeetSoFar}
use Rattle.sf_live_seats.proofs.first.meet_passes.Given as goal

abbrev pub invariant-loop-place : goal.invariant-loop-place
invariant-loop-place g l = MeetSoFar l.fn.firsts l.firsts l.fn.passes.items (into_iter_items l.passes) l.place

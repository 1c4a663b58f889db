use Rattle.sf_live_seats.specs.Seats.{is_lock}
use Rattle.sf_live_seats.proofs.PlaceSearch.{NoneBefore}
use Rattle.sf_live_seats.proofs.locks.place_in.Given as goal

abbrev pub invariant-loop-place : goal.invariant-loop-place
invariant-loop-place g l = NoneBefore (is_lock l.fn.queue.0) l.fn.locks l.place

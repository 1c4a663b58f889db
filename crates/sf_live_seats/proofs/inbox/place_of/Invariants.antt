use Rattle.sf_live_seats.specs.Inboxes.{is_courier}
use Rattle.sf_live_seats.proofs.PlaceSearch.{NoneBefore}
use Rattle.sf_live_seats.proofs.inbox.place_of.Given as goal

abbrev pub invariant-loop-place : goal.invariant-loop-place
invariant-loop-place g l = NoneBefore (is_courier l.fn.by) l.fn.couriers l.place

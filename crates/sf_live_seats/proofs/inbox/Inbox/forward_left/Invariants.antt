use Rattle.std.proofs.Common.{◌≡◌, length}
use Rattle.sf_live_seats.specs.Inboxes.{HasCouriers, IsInbox, IsLater, left_of}
use Rattle.sf_live_seats.proofs.inbox.Inbox.forward_left.Given as goal

abbrev pub invariant-loop : goal.invariant-loop
invariant-loop g l = record {
  own : IsInbox l.fn.lock l.self;
  couriers : HasCouriers l.last l.self;
  taker : l.self.taker ≡ l.fn.self.taker;
  last : IsLater l.fn.last l.last;
}

abbrev pub decreases-loop : goal.decreases-loop
decreases-loop g l = length (left_of l.self)

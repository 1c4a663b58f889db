use Rattle.sf_live_seats.specs.Inboxes.{HasCouriers, IsInbox, IsLater, IsSameInbox}
use Rattle.sf_live_seats.proofs.inbox.Inbox.drain.Given as goal

abbrev pub invariant-loop : goal.invariant-loop
invariant-loop g l = record {
  steps : (goal.iterator-loop g).can_next l.iterator' × (goal.iterator-loop g).is_finite l.iterator';
  own : IsInbox l.fn.lock l.self;
  couriers : HasCouriers l.last l.self;
  same : IsSameInbox l.fn.self l.self;
  last : IsLater l.fn.last l.last;
}

use Rattle.std.proofs.Common.{◌<◌, ℕ, refl, subst}
use Rattle.sf_live_seats.proofs.inbox.Inbox.admit.Goals as goal

pub sender-requires-clause-few : goal.sender-requires-clause-few
sender-requires-clause-few g c = subst (λ (n : ℕ). n < 64) c.requires.count c.if-self-ge-MOST_SENDERS.false

pub returns-clause-admits : goal.returns-clause-admits
returns-clause-admits g c = record {
  taker = c.in_ok-sender.ensures.kept;
  senders = refl;
  couriers = c.in_ok-push.ensures.items;
  held = refl;
  rest = refl;
}

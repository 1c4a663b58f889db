use Rattle.std.proofs.Common.{◌≡◌}
use Rattle.sf_live_seats.specs.Inboxes.{Hears}
use Rattle.sf_live_seats.proofs.ReunitedPass.{AreHeard}
use Rattle.sf_live_seats.proofs.inbox.Inbox.hear_each.Given as goal

abbrev pub invariant-loop-place : goal.invariant-loop-place
invariant-loop-place g l = record {
  hears : Hears l.fn.self l.self;
  same : l.ends ≡ l.fn.ends;
  heard : AreHeard l.self.taker l.fn.ends l.place;
}

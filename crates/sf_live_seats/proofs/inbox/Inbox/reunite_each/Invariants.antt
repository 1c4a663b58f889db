use Rattle.std.proofs.Common.{◌≡◌}
use Rattle.sf_live_seats.specs.Reuniting.{MayReunite}
use Rattle.sf_live_seats.proofs.ReunitedPass.{AreReunited}
use Rattle.sf_live_seats.proofs.inbox.Inbox.reunite_each.Given as goal

abbrev pub invariant-loop-place : goal.invariant-loop-place
invariant-loop-place g l = record {
  may : MayReunite l.fn.locks l.fn.intake l.self;
  taker : l.self.taker ≡ l.fn.self.taker;
  so : AreReunited g.B.TableName.table l.fn.locks l.fn.ends l.ends l.place;
}

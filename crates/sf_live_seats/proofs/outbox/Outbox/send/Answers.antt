use Rattle.std.proofs.Common.{length, ap, arith}
use Rattle.sf_intake.specs.Views.{SenderView}
use Rattle.sf_actor.specs.sf_surface.Tokens.{ReadLeaseOf}
use Rattle.sf_live_seats.proofs.outbox.Outbox.send.Goals as goal

pub send-requires-clause-few : goal.send-requires-clause-few
send-requires-clause-few g c =
    let same = ap (λ (s : SenderView ReadLeaseOf). length s.sent) c.stamp_from.ensures in
    let count = c.requires.ready.count in
    let few = c.if-self-ge-MOST_SENT.false in
    omega (arith, same, count, few)

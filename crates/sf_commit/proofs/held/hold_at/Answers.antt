use Rattle.std.proofs.Common.{◌∙◌, Bool, List, ap, length, sym}
use Rattle.std.proofs.lemmas.List.{length-map}
use Rattle.sf_commit_next.specs.sf_token.Pending.{Arrival}
use Rattle.sf_commit_next.specs.sf_txn.Buffers.{Buffer}
use Rattle.sf_commit.proofs.held.hold_at.Goals as goal

pub hold_of-requires : goal.hold_of-requires
hold_of-requires g c =
    ap (λ (xs : List Bool). length xs) c.requires
    ∙ (length-map c.args.arrived.now.txn.buffers (λ (b : Buffer g.row.L.Denot). g.L.Lease.shown b.lease)
    ∙ sym (ap (λ (a : Arrival g.row.L.Denot). length a.txn.buffers) c.arrived.view_is))

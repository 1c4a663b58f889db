use Rattle.std.proofs.Common.{◌∙◌, Bool, List, ap, length, subst, sym, vec_len}
use Rattle.sf_commit_next.specs.sf_txn.Leases.{IsEyeAfter}
use Rattle.sf_commit.specs.Inside.{HasRoomIn}
use Rattle.sf_commit.specs.Lending.{KeptRead, ends_of}
use Rattle.sf_commit.proofs.SettleLemmas.{eye_same}
use Rattle.sf_commit.proofs.lending.put_back.Goals as goal

pub take_back-requires-clause-lends : goal.take_back-requires-clause-lends
take_back-requires-clause-lends g c = c.requires.lends

pub take_back-requires-clause-room : goal.take_back-requires-clause-room
take_back-requires-clause-room g c =
    subst (λ (has_changed : Bool). HasRoomIn c.args.room.now (vec_len c.args.returned.list) (length c.args.on.now) has_changed) c.if-has_changed.true c.requires.room

pub destroy_empty-requires : goal.destroy_empty-requires
destroy_empty-requires g c =
    c.args.returned.kept.ok.0 ∙ ap (λ (kept : List (KeptRead g.row.L.Denot)). length kept) (c.requires.unchanged c.if-has_changed.false).1

pub returns-clause-reads : goal.returns-clause-reads
returns-clause-reads g c =
    subst (λ (kept : List (KeptRead g.row.L.Denot)). IsEyeAfter g.L.Lease c.args.eye.now c.args.eye.now (ends_of g.L.Lease kept))
    (sym (c.requires.unchanged c.if-has_changed.false).1) (eye_same g.L.Lease c.args.eye.now)

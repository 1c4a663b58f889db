use Rattle.law_rights.proofs.PermitStock.{permits_unmade, stands_look}
use Rattle.law_rights.proofs.laws.a_standing_ledger_tells.Goals as goal

pub returns-clause-unmade : goal.returns-clause-unmade
returns-clause-unmade g c = λ run number left there.
    permits_unmade run.pictures run.now.home run.now.view run.now.ofs run.keep left.place number left.of left.here run.stands.once left.left there

pub returns-clause-looks : goal.returns-clause-looks
returns-clause-looks g c = λ run lease was.
    let standing = run.standing in
    stands_look standing.pictures standing.buffers standing.now.home standing.now.view standing.now.ofs standing.now.handler standing.stands standing.keep run.knows lease was

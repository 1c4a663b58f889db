use Rattle.law_rights.proofs.ReturnedFrames.{returns_keep}
use Rattle.law_rights.proofs.laws.a_release_keeps_the_ledger.Goals as goal

pub returns : goal.returns
returns g c = returns_keep

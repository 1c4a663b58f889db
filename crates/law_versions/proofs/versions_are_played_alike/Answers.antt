use Rattle.law_versions.proofs.AlikeLemmas.{played_alike}
use Rattle.law_versions.proofs.versions_are_played_alike.Goals as goal

pub returns : goal.returns
returns c = played_alike

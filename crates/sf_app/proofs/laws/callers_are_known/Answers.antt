use Rattle.sf_app.proofs.CallerLemmas.{callers_known}
use Rattle.sf_app.proofs.laws.callers_are_known.Goals as goal

pub returns : goal.returns
returns c = callers_known

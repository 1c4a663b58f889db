use Rattle.sf_live.proofs.law_played_lemmas.PlayEnds.{one_records}
use Rattle.sf_app.proofs.laws.one_play.Goals as goal

pub returns : goal.returns
returns c = one_records

use Rattle.sf_damage.proofs.VisibleLemmas.{shows_everywhere}
use Rattle.sf_damage.proofs.laws.what_shows_everywhere.Goals as goal

pub returns : goal.returns
returns c = λ view part regions is whole visible within. shows_everywhere view part regions is whole visible within

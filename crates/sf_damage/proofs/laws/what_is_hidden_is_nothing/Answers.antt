use Rattle.sf_damage.proofs.VisibleLemmas.{hidden_is_nothing}
use Rattle.sf_damage.proofs.laws.what_is_hidden_is_nothing.Goals as goal

pub returns : goal.returns
returns c = λ picture view x y. hidden_is_nothing picture view x y

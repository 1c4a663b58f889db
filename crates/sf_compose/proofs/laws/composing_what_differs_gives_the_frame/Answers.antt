use Rattle.sf_compose.proofs.AgainLemmas.{composed_again}
use Rattle.sf_compose.proofs.laws.composing_what_differs_gives_the_frame.Goals as goal

pub returns : goal.returns
returns c = λ picture old new part before after a. composed_again picture old new part before after a

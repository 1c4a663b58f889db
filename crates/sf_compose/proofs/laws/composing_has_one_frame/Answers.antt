use Rattle.sf_compose.proofs.AgainLemmas.{one_frame}
use Rattle.sf_compose.proofs.laws.composing_has_one_frame.Goals as goal

pub returns : goal.returns
returns c = λ view part image before one other size a b. one_frame view part image before one other size a b

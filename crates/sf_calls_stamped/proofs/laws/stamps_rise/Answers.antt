use Rattle.sf_calls_stamped.proofs.StampLemmas.{legal_without, rises}
use Rattle.sf_calls_stamped.proofs.laws.stamps_rise.Goals as goal

pub returns : goal.returns
returns g c = λ mark calls legal. rises calls (legal_without (g.O.Object.answers mark) calls legal).1

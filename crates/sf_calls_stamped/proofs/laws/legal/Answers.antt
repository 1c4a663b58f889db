use Rattle.sf_calls_stamped.proofs.StampLemmas.{legal_with, legal_without}
use Rattle.sf_calls_stamped.proofs.laws.legal.Goals as goal

pub returns-clause-without : goal.returns-clause-without
returns-clause-without g c = λ mark calls legal. legal_without (g.O.Object.answers mark) calls legal

pub returns-clause-back : goal.returns-clause-back
returns-clause-back g c = λ mark calls legal. legal_with (g.O.Object.answers mark) calls legal.0 legal.1

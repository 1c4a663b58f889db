use Rattle.law_played.proofs.OrderLemmas.{numbered_behind}
use Rattle.law_played.proofs.handlers.numbered_arrivals_rise.Goals as goal

pub returns-clause-rise : goal.returns-clause-rise
returns-clause-rise g c = λ earlier arrived e. (numbered_behind earlier arrived e).0

pub returns-clause-last : goal.returns-clause-last
returns-clause-last g c = λ earlier arrived e. (numbered_behind earlier arrived e).1

use Rattle.law_played.proofs.KeepingLemmas.{giving_back, lending}
use Rattle.law_played.proofs.handlers.lending_plays_nothing.Goals as goal

pub returns-clause-lends : goal.returns-clause-lends
returns-clause-lends g c = λ so lent. lending so.run.frame so.run.scene so.run.written so.run.arrivals so.run.vsyncs so.handler so.come lent

pub returns-clause-gives_back : goal.returns-clause-gives_back
returns-clause-gives_back g c = λ so lent kept. giving_back so.run.frame so.run.scene so.run.written so.run.arrivals so.run.vsyncs so.handler so.come lent kept

use Rattle.law_played.proofs.ProgressLemmas.{still_told}
use Rattle.law_played.proofs.handlers.more_may_arrive.Goals as goal

pub returns : goal.returns
returns g c = λ so more. still_told so.run.frame so.run.scene so.run.written so.run.arrivals so.run.vsyncs so.handler so.come more

use Rattle.law_played.proofs.KeepingLemmas.{played_too}
use Rattle.law_played.proofs.handlers.more_may_be_written.Goals as goal

pub returns : goal.returns
returns g c = λ so others too. played_too so.run.frame so.run.scene so.run.written others so.run.arrivals so.run.vsyncs so.handler too so.come

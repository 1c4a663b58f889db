use Rattle.law_played.proofs.KeepingLemmas.{in_order}
use Rattle.law_played.proofs.handlers.what_was_played_is_in_order.Goals as goal

pub returns : goal.returns
returns g c = λ so. in_order so.run.frame so.run.scene so.run.written so.run.arrivals so.run.vsyncs so.handler so.come

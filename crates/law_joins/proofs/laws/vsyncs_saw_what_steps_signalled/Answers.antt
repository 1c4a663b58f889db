use Rattle.law_joins.proofs.Sights.{log_sees}
use Rattle.law_joins.proofs.laws.vsyncs_saw_what_steps_signalled.Goals as goal

pub returns : goal.returns
returns g c = λ log.
    let vsyncs = log.vsyncs in
    log_sees _ vsyncs.table vsyncs.locks vsyncs.period log.scene log.same_period log.joined log.made log.steps vsyncs.start vsyncs.last vsyncs.log log.shown

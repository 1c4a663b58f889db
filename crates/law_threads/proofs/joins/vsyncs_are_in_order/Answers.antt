use Rattle.law_threads.proofs.StampBounds.{vsyncs_timed}
use Rattle.law_threads.proofs.joins.vsyncs_are_in_order.Goals as goal

pub returns : goal.returns
returns b c = λ log.
    let timed = vsyncs_timed _ log.table log.locks log.period log.first log.start log.end log.log log.by_first log.stamped in
    record { bound = timed.0; rises = timed.1; timed = timed.2 }

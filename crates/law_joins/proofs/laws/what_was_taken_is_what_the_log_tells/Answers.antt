use Rattle.law_joins.proofs.Takes.{joins_taken, log_takes}
use Rattle.law_joins.proofs.laws.what_was_taken_is_what_the_log_tells.Goals as goal

pub returns-clause-log : goal.returns-clause-log
returns-clause-log g c = λ log.
    let vsyncs = log.vsyncs in
    log_takes _ vsyncs.table vsyncs.locks vsyncs.period log.arriving log.only vsyncs.start vsyncs.last vsyncs.log log.begun.last log.begun.arrivals log.by_first log.begins

pub returns-clause-joined : goal.returns-clause-joined
returns-clause-joined g c = λ so arriving only on. joins_taken arriving only so.handler so.calls so.taken so.has on

use Rattle.std.proofs.Common.{ℕ, ap}
use Rattle.law_joins.proofs.Plays.{log_plays}
use Rattle.law_joins.proofs.laws.vsyncs_among_threads_are_played.Goals as goal

pub returns : goal.returns
returns g c = λ log.
    let vsyncs = log.vsyncs in
    log_plays _ (record { plain = λ a b e. e; picture = λ a b e. e; number = λ a b e. ap (λ (p : ℕ × ℕ). p.1) e }) vsyncs.table vsyncs.locks vsyncs.period log.scene log.same_period log.joined log.arriving log.only log.made log.steps log.written log.wrote
    vsyncs.start vsyncs.last vsyncs.log log.played log.begun.pending log.begun.on log.begun.last log.begun.arrivals log.by_first log.known log.lent

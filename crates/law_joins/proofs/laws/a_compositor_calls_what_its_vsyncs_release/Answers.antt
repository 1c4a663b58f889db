use Rattle.std.proofs.Common.{ℕ, ap}
use Rattle.law_joins.proofs.Plays.{log_gives, log_releases}
use Rattle.law_joins.proofs.laws.a_compositor_calls_what_its_vsyncs_release.Goals as goal

pub returns-clause-given : goal.returns-clause-given
returns-clause-given g c = λ log queue.
    let vsyncs = log.vsyncs in
    log_gives _ (record { plain = λ a b e. e; picture = λ a b e. e; number = λ a b e. ap (λ (p : ℕ × ℕ). p.1) e }) vsyncs.table vsyncs.locks vsyncs.period log.scene log.same_period log.joined log.arriving log.only log.made log.steps log.written log.wrote
    queue.marks queue.declared queue.marked vsyncs.start vsyncs.last vsyncs.log log.played log.begun.pending log.begun.on log.begun.last log.begun.arrivals (log.begun.calls queue.declared.number) log.by_first log.known log.lent

pub returns-clause-no_others : goal.returns-clause-no_others
returns-clause-no_others g c = λ vsyncs begun queue. log_releases _ vsyncs.table vsyncs.locks vsyncs.period vsyncs.start vsyncs.last vsyncs.log queue (begun.calls queue)

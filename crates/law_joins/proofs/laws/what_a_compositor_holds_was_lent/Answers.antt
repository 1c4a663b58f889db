use Rattle.std.proofs.Common.{ℕ, ap}
use Rattle.law_joins.proofs.Lends.{log_lent}
use Rattle.law_joins.proofs.laws.what_a_compositor_holds_was_lent.Goals as goal

pub returns : goal.returns
returns g c = λ log.
    let vsyncs = log.vsyncs in
    log_lent _ (record { plain = λ a b e. e; picture = λ a b e. e; number = λ a b e. ap (λ (p : ℕ × ℕ). p.1) e }) vsyncs.table vsyncs.locks vsyncs.period log.joined vsyncs.start vsyncs.last vsyncs.log log.begun.pending log.begun.on log.lent

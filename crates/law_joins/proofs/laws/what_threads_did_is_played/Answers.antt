use Rattle.std.proofs.Common.{ℕ, ap}
use Rattle.law_joins.proofs.PlayerAtJoin.{reports_are, stands}
use Rattle.law_joins.proofs.laws.what_threads_did_is_played.Goals as goal

pub returns-clause-stands : goal.returns-clause-stands
returns-clause-stands g c = λ join ledger.
    stands _ join.scene g.B.TableName.table join.period join.most join.locks join.last join.ends join.desk join.is (record { plain = λ a b e. e; picture = λ a b e. e; number = λ a b e. ap (λ (p : ℕ × ℕ). p.1) e })
    (λ eye l knows. knows) ledger

pub returns-clause-vsyncs : goal.returns-clause-vsyncs
returns-clause-vsyncs g c = λ join. reports_are _ join.scene g.B.TableName.table join.period join.most join.locks join.last join.ends join.desk join.is

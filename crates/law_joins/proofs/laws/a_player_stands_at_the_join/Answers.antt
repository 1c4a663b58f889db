use Rattle.std.proofs.Common.{ℕ, ap}
use Rattle.law_joins.proofs.PlayerAtJoin.{is_standing, stands_in_run}
use Rattle.law_joins.proofs.laws.a_player_stands_at_the_join.Goals as goal

pub returns-clause-in_run : goal.returns-clause-in_run
returns-clause-in_run g c = λ join rights.
    stands_in_run _ join.scene g.B.TableName.table join.period join.most join.locks join.last join.ends join.desk join.is (record { plain = λ a b e. e; picture = λ a b e. e; number = λ a b e. ap (λ (p : ℕ × ℕ). p.1) e })
    (λ eye l knows. knows) rights.ledger rights.few rights.makers rights.draws

pub returns-clause-standing : goal.returns-clause-standing
returns-clause-standing g c = λ join rights.
    is_standing _ join.scene g.B.TableName.table join.period join.most join.locks join.last join.ends join.desk join.is (record { plain = λ a b e. e; picture = λ a b e. e; number = λ a b e. ap (λ (p : ℕ × ℕ). p.1) e })
    (λ eye l knows. knows) rights.ledger rights.few rights.makers rights.draws

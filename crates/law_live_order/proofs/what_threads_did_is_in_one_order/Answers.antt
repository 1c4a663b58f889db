use Rattle.std.proofs.Common.{ℕ, ap}
use Rattle.law_live_order.proofs.LiveOrder.{in_one_order}
use Rattle.law_live_order.proofs.NoneUpToJoin.{none_up_to_join}
use Rattle.law_live_order.proofs.what_threads_did_is_in_one_order.Goals as goal

pub returns-clause-order : goal.returns-clause-order
returns-clause-order g c = λ join. in_one_order _ join.scene _ join.period join.most join.locks join.last join.ends join.desk join.is

pub returns-clause-none : goal.returns-clause-none
returns-clause-none g c = λ join stands.
    none_up_to_join _ join.scene _ join.period join.most join.locks join.last join.ends join.desk join.is (record { plain = λ a b e. e; picture = λ a b e. e; number = λ a b e. ap (λ (p : ℕ × ℕ). p.1) e }) (λ eye l knows. knows) stands.rights.ledger

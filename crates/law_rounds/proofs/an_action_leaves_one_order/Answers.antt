use Rattle.std.proofs.Common.{ℕ, ap}
use Rattle.law_rounds.proofs.InOrder.{keeps_order}
use Rattle.law_rounds.proofs.an_action_leaves_one_order.Goals as goal

pub returns : goal.returns
returns g c = keeps_order _ (record { plain = λ a b e. e; picture = λ a b e. e; number = λ a b e. ap (λ (p : ℕ × ℕ). p.1) e })

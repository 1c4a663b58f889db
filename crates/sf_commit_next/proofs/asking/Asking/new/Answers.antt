use Rattle.std.proofs.Common.{List, ℕ, ap, reverse}
use Rattle.sf_commit_next.proofs.AskingLemmas.{rises_none}
use Rattle.sf_commit_next.proofs.asking.Asking.new.Goals as goal

pub invariant_of-result : goal.invariant_of-result
invariant_of-result c = rises_none _ (ap (λ (ks : List ℕ). reverse ks) c.new.ensures.items)

use Rattle.std.proofs.Common.{◌∙◌}
use Rattle.sf_record_sums.proofs.TallyLemmas.{summed_up}
use Rattle.sf_record_sums.proofs.tally.Tally.summary.Goals as goal

pub returns : goal.returns
returns c = λ records fit is. summed_up _ _ records c.self.invariant fit (c.self.view_is ∙ is)

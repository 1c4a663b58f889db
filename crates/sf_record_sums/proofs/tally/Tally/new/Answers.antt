use Rattle.std.proofs.Common.{sym, ◌∙◌, ap}
use Rattle.sf_record_sums.specs.Steps.{after, start}
use Rattle.sf_record_sums.specs.Summaries.{nothing}
use Rattle.sf_record_sums.proofs.tally.Tally.new.Goals as goal

pub invariant_of-result : goal.invariant_of-result
unfolding after
invariant_of-result c = c.at_start.ensures ∙ sym (ap (after (start nothing)) c.new.ensures)

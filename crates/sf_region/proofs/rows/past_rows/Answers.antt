use Rattle.sf_region.proofs.RowLemmas.{ahead_by}
use Rattle.sf_region.proofs.rows.past_rows.Goals as goal

pub returns-then-bottom_of-y-clause-ahead : goal.returns-then-bottom_of-y-clause-ahead
returns-then-bottom_of-y-clause-ahead c = ahead_by _ c.args.y _ c.in-len1-up.len_at_least c.loop-rest.invariant.banded (rw c.bottom_of.ensures at c.if-bottom_of-y.true)

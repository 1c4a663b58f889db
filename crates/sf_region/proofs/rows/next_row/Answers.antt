use Rattle.sf_region.proofs.RowLemmas.{to_top, to_bottom, top_within, bottom_within}
use Rattle.sf_region.proofs.rows.next_row.Goals as goal

pub returns-then-y-top-clause-within : goal.returns-then-y-top-clause-within
returns-then-y-top-clause-within c = rw c.top_of-top.ensures (top_within _ _ c.in-len1-up.len_at_least c.requires.ahead.banded)

pub returns-then-y-top-clause-same : goal.returns-then-y-top-clause-same
returns-then-y-top-clause-same c = λ p from to.
    to_top _ c.args.y p _ c.in-len1-up.len_at_least c.requires.ahead.banded from (rw c.top_of-top.ensures at to)

pub returns-else-y-top-clause-within : goal.returns-else-y-top-clause-within
returns-else-y-top-clause-within c = rw c.bottom_of.ensures (bottom_within _ _ c.in-len1-up.len_at_least c.requires.ahead.banded)

pub returns-else-y-top-clause-same : goal.returns-else-y-top-clause-same
returns-else-y-top-clause-same c = λ p from to.
    to_bottom _ c.args.y p _ c.in-len1-up.len_at_least c.requires.ahead.banded (rw c.top_of-top.ensures at c.if-y-top.false) from (rw c.bottom_of.ensures at to)

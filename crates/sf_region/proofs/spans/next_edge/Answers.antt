use Rattle.sf_region.proofs.SpanLemmas.{before_first}
use Rattle.sf_region.proofs.spans.next_edge.Goals as goal

pub returns-then-x-first-clause-same : goal.returns-then-x-first-clause-same
returns-then-x-first-clause-same c = before_first c.args.spans.now c.args.x _ c.in-len1-up.len_at_least c.requires.ahead c.if-x-first.true

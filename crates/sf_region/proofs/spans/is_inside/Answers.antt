use Rattle.sf_region.proofs.SpanLemmas.{inside_first}
use Rattle.sf_region.proofs.spans.is_inside.Goals as goal

pub returns-in-len1-up : goal.returns-in-len1-up
returns-in-len1-up c = inside_first c.args.spans.now c.args.x _ c.in-len1-up.len_at_least c.requires

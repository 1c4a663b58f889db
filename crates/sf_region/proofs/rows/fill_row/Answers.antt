use Rattle.std.proofs.Common.{◌≡◌, ◌++◌, [], sym, ◌∙◌, ap}
use Rattle.sf_region.specs.Spans.{row}
use Rattle.sf_region.proofs.RowLemmas.{above_first}
use Rattle.sf_region.proofs.BandLemmas.{append_nil}
use Rattle.sf_region.proofs.rows.fill_row.Goals as goal

pub returns-then-top_of-y : goal.returns-then-top_of-y
returns-then-top_of-y c =
    let none : row c.loop-rest.rest.now c.args.y ≡ [] = above_first _ c.args.y _ c.in-len1-up.len_at_least c.loop-rest.invariant.ahead.banded (rw c.top_of.ensures at c.if-top_of-y.true) in
    sym (append_nil c.loop-rest.spans.items) ∙ (ap (λ z. c.loop-rest.spans.items ++ z) (sym none) ∙ c.loop-rest.invariant.whole)

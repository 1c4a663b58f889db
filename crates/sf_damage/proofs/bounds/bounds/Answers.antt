use Rattle.sf_damage.proofs.BoundsLemmas.{banded_at}
use Rattle.sf_damage.proofs.bounds.bounds.Goals as goal

pub rect_of_both-all-requires-clause-other : goal.rect_of_both-all-requires-clause-other
rect_of_both-all-requires-clause-other c = banded_at c.rects-rect-items.result.now c.loop-rect.rect-index _ c.loop-rect-test.true c.rects-rect-items.ensures.canonical.banded

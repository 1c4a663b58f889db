use Rattle.sf_region.proofs.PointLemmas.{disjoint}
use Rattle.sf_region.proofs.region.Region.rects.Goals as goal

pub returns-clause-disjoint : goal.returns-clause-disjoint
returns-clause-disjoint c = rw c.deref.ensures.value (disjoint c.self.inside.rects.items c.self.invariant.banded)

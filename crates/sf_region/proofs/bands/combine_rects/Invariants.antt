use Rattle.std.proofs.Common.{◌-◌}
use Rattle.sf_region.specs.Edges.{past_all}
use Rattle.sf_region.specs.inner.Bands.{IsCombined}
use Rattle.sf_region.proofs.bands.combine_rects.Given as goal

abbrev pub invariant-loop-y : goal.invariant-loop-y
invariant-loop-y l = IsCombined l.how l.fn.first l.fn.second l.first l.second l.bands.rects.items l.bands.row.items l.bands.top l.y

abbrev pub decreases-loop-y : goal.decreases-loop-y
decreases-loop-y l = past_all - l.y

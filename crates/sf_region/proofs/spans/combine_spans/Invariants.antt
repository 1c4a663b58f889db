use Rattle.std.proofs.Common.{◌-◌}
use Rattle.sf_region.specs.Edges.{past_all}
use Rattle.sf_region.specs.Spans.{IsSwept}
use Rattle.sf_region.proofs.spans.combine_spans.Given as goal

abbrev pub invariant-loop-x : goal.invariant-loop-x
invariant-loop-x l = IsSwept l.how l.fn.first l.fn.second l.first l.second l.out.items l.began l.x

abbrev pub decreases-loop-x : goal.decreases-loop-x
decreases-loop-x l = past_all - l.x

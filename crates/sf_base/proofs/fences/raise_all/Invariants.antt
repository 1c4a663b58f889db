use Rattle.std.proofs.Common.{◌≡◌}
use Rattle.sf_base.proofs.FenceLemmas.{merged_up_to}
use Rattle.sf_base.proofs.fences.raise_all.Given as goal

abbrev pub invariant-loop-index : goal.invariant-loop-index
invariant-loop-index l = l.points.values ≡ merged_up_to l.index l.fn.points.values l.other.values

use Rattle.std.proofs.Common.{◌≤◌, drop, length}
use Rattle.sf_output_shown.specs.ByLayer.{IsIndex}
use Rattle.sf_output_shown.proofs.by_layer.firsts_of.Given as goal

abbrev pub invariant-loop-index : goal.invariant-loop-index
invariant-loop-index g l = record {
  inside : l.index ≤ length l.notes;
  found : IsIndex (drop l.index l.notes) l.firsts;
}

abbrev pub decreases-loop-index : goal.decreases-loop-index
decreases-loop-index g l = l.index

use Rattle.std.proofs.Common.{◌≡◌, take, map}
use Rattle.sf_output_shown.specs.Above.{AreFound, found_above}
use Rattle.sf_output_shown.proofs.above.found_above.Given as goal

abbrev pub invariant-loop-index : goal.invariant-loop-index
invariant-loop-index l = record {
  found : AreFound l.wanted l.tree.layers l.found.items;
  value : l.list.items ≡ map (found_above l.wanted l.tree.layers) (take l.index l.tree.layers);
}

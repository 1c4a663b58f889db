use Rattle.std.proofs.Common.{◌≡◌, take}
use Rattle.sf_tree.proofs.given.layers_of.Given as goal

abbrev pub invariant-loop-layer : goal.invariant-loop-layer
invariant-loop-layer l = l.layers ≡ take l.layer-index l.list

use Rattle.std.proofs.Common.{◌≡◌, ◌++◌, drop, map, take}
use Rattle.sf_tree.specs.Changes.{without_steps_to}
use Rattle.sf_tree.proofs.layers.clear_steps_to.Given as goal

abbrev pub invariant-loop-layer : goal.invariant-loop-layer
invariant-loop-layer l = l.list ≡ map (without_steps_to l.id) (take l.layer-index l.initial.list) ++ drop l.layer-index l.initial.list

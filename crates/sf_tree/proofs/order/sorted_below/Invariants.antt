use Rattle.std.proofs.Common.{map, take}
use Rattle.sf_tree.specs.inner.Known.{IsSortedBelow, showing}
use Rattle.sf_tree.proofs.order.sorted_below.Given as goal

abbrev pub invariant-loop-place : goal.invariant-loop-place
invariant-loop-place l = IsSortedBelow l.layers (take l.place-index (showing l.layers)) l.below.roots.items (map (λ list. list.items) l.below.lists.items)

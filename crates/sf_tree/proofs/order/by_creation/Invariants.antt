use Rattle.std.proofs.Common.{◌≤◌, length}
use Rattle.sf_tree.specs.inner.Known.{IsRising}
use Rattle.sf_tree.proofs.order.by_creation.Given as goal

abbrev pub invariant-loop-place : goal.invariant-loop-place
invariant-loop-place l = record {
  inside : l.place ≤ length l.layers;
  rising : IsRising l.layers l.place l.above l.list.items;
}

abbrev pub decreases-loop-place : goal.decreases-loop-place
decreases-loop-place l = l.place

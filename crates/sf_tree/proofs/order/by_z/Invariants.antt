use Rattle.std.proofs.Common.{◌≤◌, drop, length}
use Rattle.std.specs.List.{AllZip, filter}
use Rattle.sf_tree.specs.DrawOrder.{in_z_order}
use Rattle.sf_tree.specs.inner.Known.{IsEntry}
use Rattle.sf_tree.specs.Showing.{shows}
use Rattle.sf_tree.proofs.order.by_z.Given as goal

abbrev pub invariant-loop-place : goal.invariant-loop-place
invariant-loop-place l = record {
  inside : l.place ≤ length l.layers;
  sorted : AllZip (IsEntry l.layers l.place) l.sorted.entries (in_z_order (filter (shows l.layers) (drop l.place l.layers)));
}

abbrev pub decreases-loop-place : goal.decreases-loop-place
decreases-loop-place l = l.place

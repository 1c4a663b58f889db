use Rattle.std.proofs.Common.{◌≡◌, ◌-◌, ◌≤◌, length, []}
use Rattle.std.specs.List.{All}
use Rattle.sf_tree.proofs.order.Below.new.Given as goal

abbrev pub invariant-loop-lists : goal.invariant-loop-lists
invariant-loop-lists l = record {
  empty : All (λ list. list.items ≡ []) l.lists.items;
  inside : length l.lists.items ≤ l.layers;
}

abbrev pub decreases-loop-lists : goal.decreases-loop-lists
decreases-loop-lists l = l.layers - length l.lists.items

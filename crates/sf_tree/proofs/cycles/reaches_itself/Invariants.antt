use Rattle.std.proofs.Common.{ℕ, ◌<◌, ◌≤◌, ◌-◌, length, get_or}
use Rattle.std.specs.List.{Contains}
use Rattle.sf_base.specs.declared.ids.LayerId.{LayerId}
use Rattle.sf_tree.specs.inner.Search.{IsExplored, IsSearch, steps_along}
use Rattle.sf_tree.proofs.cycles.reaches_itself.Given as goal

abbrev pub invariant-loop-index : goal.invariant-loop-index
invariant-loop-index l = record {
  search : IsSearch (steps_along l.along) l.layers l.id l.search.found.items l.search.marks.items;
  first : Contains l.search.found.items l.id;
  explored : (k : ℕ) (d : LayerId) → k < l.index → IsExplored (steps_along l.along) l.layers l.id l.search.found.items (get_or l.search.found.items k d);
  inside : l.index ≤ length l.search.found.items;
}

abbrev pub decreases-loop-index : goal.decreases-loop-index
decreases-loop-index l = length l.layers - l.index

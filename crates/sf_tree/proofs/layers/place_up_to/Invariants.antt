use Rattle.std.proofs.Common.{◌<◌, length}
use Rattle.sf_tree.specs.Index.{StandsUpTo}
use Rattle.sf_tree.proofs.layers.place_up_to.Given as goal

abbrev pub invariant-loop-place : goal.invariant-loop-place
invariant-loop-place l = record {
  inside : l.place < length l.list;
  stands : StandsUpTo l.list l.id l.place;
}

abbrev pub decreases-loop-place : goal.decreases-loop-place
decreases-loop-place l = l.place

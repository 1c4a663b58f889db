use Rattle.std.proofs.Common.{◌≡◌, take, map}
use Rattle.sf_tree.specs.inner.Known.{IsKnown}
use Rattle.sf_tree.specs.Showing.{shows}
use Rattle.sf_tree.proofs.showing.showing.Given as goal

abbrev pub invariant-loop-place : goal.invariant-loop-place
invariant-loop-place l = record {
  known : IsKnown l.layers l.known.items;
  shown : l.list.items ≡ map (shows l.layers) (take l.place l.layers);
}

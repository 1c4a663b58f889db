use Rattle.std.proofs.Common.{◌≤◌, drop, length}
use Rattle.sf_base.specs.Geometry.{covers}
use Rattle.sf_damage.specs.inner.Showing.{IsShown}
use Rattle.sf_damage.proofs.shown.show.Given as goal

abbrev pub invariant-loop-at : goal.invariant-loop-at
invariant-loop-at l = record {
  inside : l.at ≤ length l.layers;
  shows : IsShown (covers l.window) (drop l.at l.layers) l.shown.items l.hidden.items;
}

abbrev pub decreases-loop-at : goal.decreases-loop-at
decreases-loop-at l = l.at

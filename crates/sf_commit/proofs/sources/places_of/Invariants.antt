use Rattle.std.proofs.Common.{◌≤◌, length}
use Rattle.sf_commit.proofs.PlaceLemmas.{HasPlaces}
use Rattle.sf_commit.proofs.sources.places_of.Given as goal

abbrev pub invariant-loop-place : goal.invariant-loop-place
invariant-loop-place g l = record {
  inside : l.place ≤ length l.fn.on;
  found : HasPlaces l.place l.fn.on l.places;
}

abbrev pub decreases-loop-place : goal.decreases-loop-place
decreases-loop-place g l = l.place

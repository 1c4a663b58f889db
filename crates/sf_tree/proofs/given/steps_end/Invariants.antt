use Rattle.std.proofs.Common.{◌≡◌, ℕ, length}
use Rattle.std.specs.List.{All}
use Rattle.sf_tree.specs.Kept.{IsTied}
use Rattle.sf_tree.specs.inner.Known.{IsBounded}
use Rattle.sf_tree.proofs.RankingLemmas.{IsFoundUpTo}
use Rattle.sf_tree.proofs.given.steps_end.Given as goal

abbrev pub invariant-loop-place : goal.invariant-loop-place
invariant-loop-place l = record {
  size : length l.ranks.items ≡ length l.layers;
  found : (ranking : ℕ → ℕ) → IsBounded l.layers ranking → All (IsTied l.layers) l.layers → IsFoundUpTo l.layers ranking l.ranks.items l.place;
}

use Rattle.std.proofs.Common.{ℕ, ◌<◌, get_or}
use Rattle.sf_layer.specs.declared.layer.Layer.{Layer}
use Rattle.sf_tree.specs.Kept.{IsRanked, IsTied}
use Rattle.sf_tree.specs.inner.Ranking.{rank_by}
use Rattle.sf_tree.proofs.given.all_lead_lower.Given as goal

abbrev pub invariant-loop-place : goal.invariant-loop-place
invariant-loop-place l = record {
  tied : (k : ℕ) (d : Layer) → k < l.place → IsTied l.layers (get_or l.layers k d);
  ranked : (k : ℕ) (d : Layer) → k < l.place → IsRanked (rank_by l.layers l.ranks) (get_or l.layers k d);
}

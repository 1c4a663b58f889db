-- Which fences are signalled under values.
use Rattle.std.proofs.Common.{◌≡◌, ℕ, ◌-◌, ◌≤◌, suc, zero, List, [], ◌∷◌, replicate, arith}
use Rattle.std.specs.Prelude.{slice_index}
use Rattle.std.proofs.lemmas.List.{get_or-replicate}
use Rattle.sf_base.specs.Fences.{Fence, IsSignalled, greater_of_each, merged, no_points, value_of}
use Rattle.sf_base.specs.declared.fences.Seen.{Seen}

greater_within : (vs ws : List ℕ) (k most : ℕ) → slice_index vs k ≤ most → slice_index ws k ≤ most → slice_index (greater_of_each vs ws) k ≤ most
unfolding greater_of_each
greater_within [] ws k most first second = first
greater_within (v ∷ vs) [] k most first second = first
greater_within (v ∷ vs) (w ∷ ws) zero most first second = omega (arith, first, second)
greater_within (v ∷ vs) (w ∷ ws) (suc k) most first second = greater_within vs ws k most first second

-- a merge of fences that are signalled is
pub merged_reached : (one other : Fence) (values : Seen) → IsSignalled one values → IsSignalled other values → IsSignalled (merged one other) values
unfolding merged
merged_reached one other values first second t low high =
    greater_within one.values other.values (t - 1) (value_of values.values t) (first t low high) (second t low high)

-- the empty fence always is
pub none_reached : (values : Seen) → IsSignalled no_points values
unfolding no_points
none_reached values t low high =
    let zero_there : slice_index (replicate 64 0) (t - 1) ≡ 0 = get_or-replicate 64 (t - 1) 0 0 (omega (arith, low, high)) in
    omega (arith, zero_there)

use Rattle.std.proofs.Common.{◌≡◌, ◌+◌, ◌*◌, ◌≤◌, ◌||◌, ℤ, length}
use Rattle.std.specs.Vec.{vec_len}
use Rattle.sf_damage.specs.inner.Comparing.{has_part}
use Rattle.sf_damage.proofs.pieces.joined_pairs.Given as goal

abbrev pub invariant-loop-one : goal.invariant-loop-one
invariant-loop-one l = record {
  points : (x y : ℤ) → (has_part l.parts.items x y || has_part l.pairs.items x y) ≡ has_part l.fn.parts.items x y;
  pairs : 1 ≤ length l.parts.items → 2 * length l.pairs.items + length l.parts.items ≤ length l.fn.parts.items;
  fewer : 2 * length l.pairs.items ≤ length l.fn.parts.items + 1;
}

abbrev pub decreases-loop-one : goal.decreases-loop-one
decreases-loop-one l = vec_len l.parts

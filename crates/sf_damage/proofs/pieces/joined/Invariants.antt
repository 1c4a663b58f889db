use Rattle.std.proofs.Common.{◌≡◌, ℤ}
use Rattle.std.specs.Vec.{vec_len}
use Rattle.sf_damage.specs.inner.Comparing.{has_part}
use Rattle.sf_damage.proofs.pieces.joined.Given as goal

abbrev pub invariant-loop-parts : goal.invariant-loop-parts
invariant-loop-parts l = (x y : ℤ) → has_part l.parts.items x y ≡ has_part l.fn.parts.items x y

abbrev pub decreases-loop-parts : goal.decreases-loop-parts
decreases-loop-parts l = vec_len l.parts

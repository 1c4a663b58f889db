use Rattle.std.proofs.Common.{◌≡◌, ◌-◌, ◌/◌, ◌%◌, ◌≤◌, pos, neg_ℤ, length}
use Rattle.sf_rows.specs.Pixels.{PickedBelow}
use Rattle.sf_rows.proofs.pick.pick_back.Given as goal

abbrev pub invariant-loop-dst : goal.invariant-loop-dst
invariant-loop-dst l = (l.at % 4 ≡ 0) × (l.at ≤ length l.fn.dst) × PickedBelow l.src l.first (neg_ℤ (pos 1)) (l.at / 4) l.dst

abbrev pub decreases-loop-dst : goal.decreases-loop-dst
decreases-loop-dst l = length l.dst - l.at

use Rattle.std.proofs.Common.{◌-◌, ◌≤◌, length}
use Rattle.sf_damage.proofs.ConstantLemmas.{HaveSameRest}
use Rattle.sf_damage.proofs.constant.have_same_sheets.Given as goal

abbrev pub invariant-loop-at : goal.invariant-loop-at
invariant-loop-at l = record {
  inside : l.at ≤ length l.olds;
  rest : HaveSameRest l.olds l.news l.at;
}

abbrev pub decreases-loop-at : goal.decreases-loop-at
decreases-loop-at l = length l.olds - l.at

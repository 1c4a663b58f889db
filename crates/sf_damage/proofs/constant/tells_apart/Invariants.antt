use Rattle.std.proofs.Common.{drop}
use Rattle.sf_damage.proofs.ConstantLemmas.{IsRest}
use Rattle.sf_damage.proofs.constant.tells_apart.Given as goal

abbrev pub invariant-loop-drawn : goal.invariant-loop-drawn
invariant-loop-drawn l = IsRest l.layers (drop l.drawn-index l.layers)

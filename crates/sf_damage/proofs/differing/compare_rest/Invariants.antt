use Rattle.std.proofs.Common.{◌-◌, length}
use Rattle.sf_damage.proofs.ComparingLemmas.{GoesOn}
use Rattle.sf_damage.proofs.differing.compare_rest.Given as goal

abbrev pub invariant-loop-at : goal.invariant-loop-at
invariant-loop-at l = GoesOn l.news l.fn.piece l.fn.found.items l.at l.rest l.found.items

abbrev pub decreases-loop-at : goal.decreases-loop-at
decreases-loop-at l = length l.news - l.at

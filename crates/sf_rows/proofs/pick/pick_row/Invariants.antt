use Rattle.sf_rows.specs.Pixels.{PickedBelow}
use Rattle.sf_rows.proofs.pick.pick_row.Given as goal

abbrev pub invariant-loop-k : goal.invariant-loop-k
invariant-loop-k l = PickedBelow l.src l.first l.step l.k l.dst

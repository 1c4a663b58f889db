use Rattle.sf_commit.proofs.SettleLemmas.{Opened}
use Rattle.sf_commit.proofs.opening.open_all.Given as goal

abbrev pub invariant-loop-one : goal.invariant-loop-one
invariant-loop-one g l = Opened g.L.Lease l.fn.on.items (l.fn.readings.items, l.fn.contents.items) (l.readings.items, l.contents.items) l.one-iterator.rest.items l.fn.eye l.eye

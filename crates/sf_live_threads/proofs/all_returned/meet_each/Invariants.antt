use Rattle.sf_live_threads.proofs.MeetLemmas.{Gathering}
use Rattle.sf_live_threads.proofs.all_returned.meet_each.Given as goal

abbrev pub invariant-loop-seats : goal.invariant-loop-seats
invariant-loop-seats g l = record {
  can_next : (goal.iterator-loop-seats g).can_next l.seats-iterator;
  is_finite : (goal.iterator-loop-seats g).is_finite l.seats-iterator;
  gathering : Gathering {B = g.row.B.Denot} g.B.TableName.table l.locks l.fn.first l.yielded l.first;
}

use Rattle.sf_live_threads.proofs.SeatingLemmas.{Seating}
use Rattle.sf_live_threads.proofs.seating.seat_actors.Given as goal

abbrev pub invariant-loop-actor : goal.invariant-loop-actor
invariant-loop-actor g l = record {
  can_next : (goal.iterator-loop-actor g).can_next l.actor-iterator;
  is_finite : (goal.iterator-loop-actor g).is_finite l.actor-iterator;
  seating : Seating {B = g.row.B.Denot} g.B.TableName.table l.locks l.fn.first l.fn.actors.items l.yielded l.first l.seated_actors.items;
}

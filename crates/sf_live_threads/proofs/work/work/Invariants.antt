use Rattle.sf_live_threads.specs.SeatedActors.{Came}
use Rattle.sf_live_threads.proofs.work.work.Given as goal

abbrev pub invariant-loop : goal.invariant-loop
invariant-loop g l = record {
  steps : (goal.iterator-loop g).can_next l.iterator' × (goal.iterator-loop g).is_finite l.iterator';
  came : Came {B = g.row.B.Denot} g.B.TableName.table l.locks l.pictures l.fn.seated_actor l.seated_actor;
}

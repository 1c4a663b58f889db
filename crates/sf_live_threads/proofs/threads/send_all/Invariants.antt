use Rattle.std.specs.List.{AllZip}
use Rattle.sf_live_threads.specs.inner.Tasks.{IsTask}
use Rattle.sf_live_threads.proofs.threads.send_all.Given as goal

abbrev pub invariant-loop-seated_actor : goal.invariant-loop-seated_actor
invariant-loop-seated_actor g l = record {
  can_next : (goal.iterator-loop-seated_actor g).can_next l.seated_actor-iterator;
  is_finite : (goal.iterator-loop-seated_actor g).is_finite l.seated_actor-iterator;
  tasks : AllZip (IsTask {B = g.row.B.Denot} g.B.TableName.table l.locks l.pictures) l.yielded l.tasks.items;
}

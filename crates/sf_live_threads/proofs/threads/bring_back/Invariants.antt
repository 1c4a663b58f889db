use Rattle.std.specs.List.{AllZip}
use Rattle.sf_live_threads.specs.inner.Tasks.{GivesWhole}
use Rattle.sf_live_threads.proofs.threads.bring_back.Given as goal

abbrev pub invariant-loop-task : goal.invariant-loop-task
invariant-loop-task g l = record {
  can_next : (goal.iterator-loop-task g).can_next l.task-iterator;
  is_finite : (goal.iterator-loop-task g).is_finite l.task-iterator;
  seated_actors : AllZip (GivesWhole {B = g.row.B.Denot} g.B.TableName.table) l.yielded l.seated_actors.items;
}

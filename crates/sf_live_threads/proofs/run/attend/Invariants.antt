use Rattle.std.specs.List.{AllZip}
use Rattle.sf_live_seats.specs.First.{IsFirst}
use Rattle.sf_live_threads.specs.inner.Tasks.{Stays}
use Rattle.sf_live_threads.specs.Visits.{Attends}
use Rattle.sf_live_threads.proofs.run.attend.Given as goal

abbrev pub invariant-loop : goal.invariant-loop
invariant-loop g l = record {
  steps : (goal.iterator-loop g).can_next l.iterator' × (goal.iterator-loop g).is_finite l.iterator';
  some : (start : g.row.V.Denot) × g.V.Visit.keeps start l.visitor l.locks l.first;
  attends : (start : g.row.V.Denot) → g.V.Visit.keeps start l.fn.visitor l.locks l.fn.first
      → Attends {B = g.row.B.Denot} {V = g.row.V.Denot} (g.V.Visit.keeps start) g.B.TableName.table l.locks l.fn.first l.first l.visitor;
  first : IsFirst {B = g.row.B.Denot} g.B.TableName.table l.locks l.first;
  tasks : AllZip (Stays {B = g.row.B.Denot} g.B.TableName.table l.locks l.pictures) l.fn.tasks.items l.tasks.items;
}

use Rattle.sf_live_threads.proofs.AttendLemmas.{attends_more, attends_none, stays_fit, stays_on, stays_same}
use Rattle.sf_live_threads.proofs.run.attend.Goals as goal

pub loop-init : goal.loop-init
loop-init g c = record {
  steps = (tt, tt);
  some = c.requires.kept;
  attends = λ start kept. attends_none {B = g.row.B.Denot} {V = g.row.V.Denot} (g.V.Visit.keeps start) g.B.TableName.table c.args.locks.now c.args.first _ c.requires.first kept;
  first = c.requires.first;
  tasks = stays_same {B = g.row.B.Denot} g.B.TableName.table c.args.locks.now c.args.pictures.now c.args.tasks.items c.requires.fit;
}

pub try_here-requires : goal.try_here-requires
try_here-requires g c = stays_fit {B = g.row.B.Denot} g.B.TableName.table c.args.locks.now c.args.pictures.now c.args.tasks.items c.loop.tasks.items c.loop.invariant.tasks

pub loop-preserved : goal.loop-preserved
loop-preserved g c = record {
  steps = (tt, tt);
  some = (c.loop.invariant.some.0, c.in-Ok.ensures.kept c.loop.invariant.some.0 c.loop.invariant.some.1);
  attends = λ start kept.
      let before = c.loop.invariant.attends start kept in
      attends_more {B = g.row.B.Denot} {V = g.row.V.Denot} (g.V.Visit.keeps start) g.B.TableName.table c.args.locks.now c.args.first c.loop.first c.visit.new.first _ _ before
      c.in-Ok.ensures.first c.in-Ok.ensures.given (c.in-Ok.ensures.kept start before.kept);
  first = c.in-Ok.ensures.first;
  tasks =
      stays_on {B = g.row.B.Denot} g.B.TableName.table c.args.locks.now c.args.pictures.now c.args.tasks.items c.loop.tasks.items c.in-Some-try_here.tried.items c.loop.invariant.tasks
      c.in-Some-try_here.ensures;
}

pub visit-requires-clause-kept : goal.visit-requires-clause-kept
visit-requires-clause-kept g c = c.loop.invariant.some

pub returns-in_default-clause-left : goal.returns-in_default-clause-left
returns-in_default-clause-left g c = λ start kept. (c.loop.first, (c.loop.invariant.attends start kept).kept)

pub visit-requires-clause-first : goal.visit-requires-clause-first
visit-requires-clause-first g c = c.loop.invariant.first

pub returns-then-not-next-clause-tasks : goal.returns-then-not-next-clause-tasks
returns-then-not-next-clause-tasks g c = c.loop.invariant.tasks

pub returns-in_default-clause-tasks : goal.returns-in_default-clause-tasks
returns-in_default-clause-tasks g c = tt

pub returns-in-Err-clause-tasks : goal.returns-in-Err-clause-tasks
returns-in-Err-clause-tasks g c = tt

use Rattle.std.proofs.Common.{◌∙◌, ◌++◌, ◌∷◌, [], List, subst, sym}
use Rattle.std.specs.List.{AllZip}
use Rattle.std.proofs.lemmas.Iterator.Adapters.{YieldsList-from_vec}
use Rattle.std.proofs.lemmas.Iterator.Consumers.{YieldsList-end, YieldsList-turn}
use Rattle.sf_live_threads.specs.declared.task.Task.{Task}
use Rattle.sf_live_threads.specs.inner.Tasks.{IsFitTask, Stays}
use Rattle.sf_live_threads.proofs.AttendLemmas.{stays_same}
use Rattle.sf_live_threads.proofs.Zips.{all_next, pushed_on, whole, zip_push}
use Rattle.sf_live_threads.proofs.here.try_here.Goals as goal

pub try_one-task-requires : goal.try_one-task-requires
try_one-task-requires g c =
    let gives = c.into_iter-task-iterator.ensures.into_iter_gives in
    let t = YieldsList-turn (YieldsList-from_vec c.args.tasks.items gives.0 (gives.1 ∙ c.args.tasks.ok.0)) c.loop-task.yielded _ c.loop-task.yielded_by c.next.result c.next.new.self c.in-Some.task c.in-Some.is c.next.ensures.steps in
    let fit : IsFitTask {B = g.row.B.Denot} g.B.TableName.table c.args.locks.now c.args.pictures.now c.in-Some.task =
    all_next (IsFitTask {B = g.row.B.Denot} g.B.TableName.table c.args.locks.now c.args.pictures.now) c.args.tasks.items _ c.in-Some.task c.requires t in fit

pub loop-task-preserved : goal.loop-task-preserved
loop-task-preserved g c =
    let P = Stays {B = g.row.B.Denot} g.B.TableName.table c.args.locks.now c.args.pictures.now in
    let pushed = pushed_on c.push.result c.loop-task.tried.items (c.loop-task.tried.items ++ c.try_one-task.result ∷ []) c.push.new.self.items (sym c.is_err.ensures.value ∙ c.if-is_err.false) c.push.ensures.items in record {
      can_next = tt;
      is_finite = tt;
      tried = subst (λ (l : List (Task g.row.B.Denot)). AllZip P (c.loop-task.yielded ++ c.in-Some.task ∷ []) l) (sym pushed)
          (zip_push P c.loop-task.yielded c.loop-task.tried.items c.in-Some.task c.try_one-task.result c.loop-task.invariant.tried c.try_one-task.ensures);
    }

pub returns : goal.returns
returns g c =
    let gives = c.into_iter-task-iterator.ensures.into_iter_gives in
    let all = YieldsList-end (YieldsList-from_vec c.args.tasks.items gives.0 (gives.1 ∙ c.args.tasks.ok.0)) c.loop-task.yielded _ c.loop-task.yielded_by c.next.result c.next.new.self c.in-None.is c.next.ensures.steps in
    subst (λ (l : List (Task g.row.B.Denot)). AllZip (Stays {B = g.row.B.Denot} g.B.TableName.table c.args.locks.now c.args.pictures.now) l c.loop-task.tried.items)
    (whole c.loop-task.yielded c.args.tasks.items all.0) c.loop-task.invariant.tried

pub returns-then-all : goal.returns-then-all
returns-then-all g c = stays_same {B = g.row.B.Denot} g.B.TableName.table c.args.locks.now c.args.pictures.now c.args.tasks.items c.requires

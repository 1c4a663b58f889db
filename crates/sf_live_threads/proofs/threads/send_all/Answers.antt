use Rattle.std.proofs.Common.{◌∙◌, ◌<◌, ◌++◌, ◌∷◌, [], List, subst, sym, arith, rules}
use Rattle.std.specs.List.{AllZip}
use Rattle.std.proofs.lemmas.Iterator.Adapters.{YieldsList-from_vec}
use Rattle.std.proofs.lemmas.Iterator.Consumers.{YieldsList-end, YieldsList-turn}
use Rattle.sf_live_threads.specs.declared.task.Task.{Task}
use Rattle.sf_live_threads.specs.declared.seated_actor.SeatedActor.{SeatedActor}
use Rattle.sf_live_threads.specs.SeatedActors.{MayTryNext}
use Rattle.sf_live_threads.specs.inner.Tasks.{IsTask}
use Rattle.sf_live_threads.proofs.Zips.{all_next, pushed_on, whole, zip_long, zip_push}
use Rattle.sf_live_threads.proofs.threads.send_all.Goals as goal

pub send-task-requires-clause-index : goal.send-task-requires-clause-index
send-task-requires-clause-index g c =
    let t = YieldsList-turn (YieldsList-from_vec c.args.seated_actors.items (search rules) (search rules)) c.loop-seated_actor.yielded _ c.loop-seated_actor.yielded_by c.next.result c.next.new.self c.in-Some.seated_actor c.in-Some.is c.next.ensures.steps in
    let long = zip_long (IsTask {B = g.row.B.Denot} g.B.TableName.table c.args.locks.now c.args.pictures.now) c.loop-seated_actor.yielded c.loop-seated_actor.tasks.items c.loop-seated_actor.invariant.tasks in
    let low : c.len-index.result < 64 = omega (arith, t.0, long, c.requires.few, c.len-index.ensures) in search rules

pub send-task-requires-clause-may_try_next : goal.send-task-requires-clause-may_try_next
send-task-requires-clause-may_try_next g c =
    let t = YieldsList-turn (YieldsList-from_vec c.args.seated_actors.items (search rules) (search rules)) c.loop-seated_actor.yielded _ c.loop-seated_actor.yielded_by c.next.result c.next.new.self c.in-Some.seated_actor c.in-Some.is c.next.ensures.steps in
    let may_try_next : MayTryNext {B = g.row.B.Denot} g.B.TableName.table c.args.locks.now c.args.pictures.now c.in-Some.seated_actor =
    all_next (MayTryNext {B = g.row.B.Denot} g.B.TableName.table c.args.locks.now c.args.pictures.now) c.args.seated_actors.items _ c.in-Some.seated_actor c.requires.may_try_next t in search rules

pub loop-seated_actor-preserved : goal.loop-seated_actor-preserved
loop-seated_actor-preserved g c =
    let P = IsTask {B = g.row.B.Denot} g.B.TableName.table c.args.locks.now c.args.pictures.now in
    let pushed = pushed_on c.push.result c.loop-seated_actor.tasks.items (c.loop-seated_actor.tasks.items ++ c.send-task.result ∷ []) c.push.new.self.items (sym c.is_err.ensures.value ∙ c.if-is_err.false) c.push.ensures.items in record {
      can_next = tt;
      is_finite = tt;
      tasks = subst (λ (l : List (Task g.row.B.Denot)). AllZip P (c.loop-seated_actor.yielded ++ c.in-Some.seated_actor ∷ []) l) (sym pushed)
          (zip_push P c.loop-seated_actor.yielded c.loop-seated_actor.tasks.items c.in-Some.seated_actor c.send-task.result c.loop-seated_actor.invariant.tasks c.send-task.ensures);
    }

pub returns : goal.returns
returns g c =
    let gives = c.into_iter-seated_actor-iterator.ensures.into_iter_gives in
    let all = YieldsList-end (YieldsList-from_vec c.args.seated_actors.items gives.0 (gives.1 ∙ c.args.seated_actors.ok.0)) c.loop-seated_actor.yielded _ c.loop-seated_actor.yielded_by c.next.result c.next.new.self c.in-None.is c.next.ensures.steps in
    subst (λ (l : List (SeatedActor g.row.B.Denot)). AllZip (IsTask {B = g.row.B.Denot} g.B.TableName.table c.args.locks.now c.args.pictures.now) l c.loop-seated_actor.tasks.items)
    (whole c.loop-seated_actor.yielded c.args.seated_actors.items all.0) c.loop-seated_actor.invariant.tasks

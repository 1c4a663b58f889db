use Rattle.std.proofs.Common.{◌∙◌, ◌++◌, ◌∷◌, [], List, subst, sym}
use Rattle.std.specs.List.{AllZip}
use Rattle.std.proofs.lemmas.Iterator.Adapters.{YieldsList-from_vec}
use Rattle.std.proofs.lemmas.Iterator.Consumers.{YieldsList-end}
use Rattle.sf_live_threads.specs.declared.seated_actor.Back.{Back}
use Rattle.sf_live_threads.specs.declared.seated_actor.SeatedActor.{SeatedActor}
use Rattle.sf_live_threads.specs.declared.task.Task.{Task}
use Rattle.sf_live_threads.specs.inner.Tasks.{Gives, GivesWhole}
use Rattle.sf_live_threads.proofs.Zips.{pushed_on, whole, zip_push}
use Rattle.sf_live_threads.proofs.threads.bring_back.Goals as goal

pub loop-task-preserved : goal.loop-task-preserved
loop-task-preserved g c =
    let pushed = pushed_on c.push.result c.loop-task.seated_actors.items (c.loop-task.seated_actors.items ++ c.in-Whole.seated_actor ∷ []) c.push.new.self.items (sym c.is_err.ensures.value ∙ c.if-is_err.false) c.push.ensures.items in record {
      can_next = tt;
      is_finite = tt;
      seated_actors = subst (λ (l : List (SeatedActor g.row.B.Denot)). AllZip (GivesWhole {B = g.row.B.Denot} g.B.TableName.table) (c.loop-task.yielded ++ c.in-Some.task ∷ []) l) (sym pushed)
          (zip_push (GivesWhole {B = g.row.B.Denot} g.B.TableName.table) c.loop-task.yielded c.loop-task.seated_actors.items c.in-Some.task c.in-Whole.seated_actor c.loop-task.invariant.seated_actors
          (subst (λ (b : Back g.row.B.Denot). Gives {B = g.row.B.Denot} g.B.TableName.table c.in-Some.task b) c.in-Whole.is c.back.ensures));
    }

pub returns : goal.returns
returns g c =
    let gives = c.into_iter-task-iterator.ensures.into_iter_gives in
    let all = YieldsList-end (YieldsList-from_vec c.args.tasks.items gives.0 (gives.1 ∙ c.args.tasks.ok.0)) c.loop-task.yielded _ c.loop-task.yielded_by c.next.result c.next.new.self c.in-None.is c.next.ensures.steps in
    subst (λ (l : List (Task g.row.B.Denot)). AllZip (GivesWhole {B = g.row.B.Denot} g.B.TableName.table) l c.loop-task.seated_actors.items) (whole c.loop-task.yielded c.args.tasks.items all.0) c.loop-task.invariant.seated_actors

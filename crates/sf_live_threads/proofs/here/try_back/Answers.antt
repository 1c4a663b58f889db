use Rattle.sf_live_threads.proofs.TaskLemmas.{fit_tried, whole_tried}
use Rattle.sf_live_threads.proofs.here.try_back.Goals as goal

pub returns-in-Ok-Done-clause-same : goal.returns-in-Ok-Done-clause-same
returns-in-Ok-Done-clause-same g c =
    whole_tried _ _ _ c.args.back c.in-Whole.seated_actor c.try_next-seated_actor.result.0 c.try_next-seated_actor.result.1 c.in-Ok-Done.field-0 c.in-Whole.is c.in-Ok-Done.is c.try_next-seated_actor.ensures

pub returns-in-Ok-NotYet : goal.returns-in-Ok-NotYet
returns-in-Ok-NotYet g c = record {
  fit = fit_tried _ _ _ c.in-Whole.seated_actor c.try_next-seated_actor.result.0 c.try_next-seated_actor.result.1 c.in-Ok-NotYet.field-0 c.in-Ok-NotYet.is c.try_next-seated_actor.ensures;
  same = whole_tried _ _ _ c.args.back c.in-Whole.seated_actor c.try_next-seated_actor.result.0 c.try_next-seated_actor.result.1 c.in-Ok-NotYet.field-0 c.in-Whole.is c.in-Ok-NotYet.is c.try_next-seated_actor.ensures;
}

use Rattle.sf_live_threads.proofs.WalkLemmas.{came_none, came_ok}
use Rattle.sf_live_threads.proofs.work.work.Goals as goal

pub returns-then-is_turned_away : goal.returns-then-is_turned_away
returns-then-is_turned_away g c = came_none _ _ _ c.args.seated_actor c.requires.may_try_next

pub loop-init : goal.loop-init
loop-init g c = record { steps = (tt, tt); came = came_none _ _ _ c.args.seated_actor c.requires.may_try_next }

pub returns-then-not-goes_on : goal.returns-then-not-goes_on
returns-then-not-goes_on g c = came_ok _ _ _ c.args.seated_actor c.loop.seated_actor c.try_next-after.result.0 c.try_next-after.result.1 c.in-Ok.stepped c.in-Ok.is c.try_next-after.ensures c.loop.invariant.came

pub loop-preserved : goal.loop-preserved
loop-preserved g c = record {
  steps = (tt, tt);
  came = came_ok _ _ _ c.args.seated_actor c.loop.seated_actor c.try_next-after.result.0 c.try_next-after.result.1 c.in-Ok.stepped c.in-Ok.is c.try_next-after.ensures c.loop.invariant.came;
}

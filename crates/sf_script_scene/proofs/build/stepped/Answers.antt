use Rattle.sf_script_scene.proofs.LimitLemmas.{with_step-back}
use Rattle.sf_script_scene.proofs.build.stepped.Goals as goal

pub returns : goal.returns
returns c = with_step-back _ _ _ _ _ _ c.in-Some.ensures.items c.in_ok-push.ensures.ok c.in_ok-push-2.ensures.items

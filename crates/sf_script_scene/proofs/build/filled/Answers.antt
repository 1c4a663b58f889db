use Rattle.sf_script_scene.proofs.LimitLemmas.{with_fill-back}
use Rattle.sf_script_scene.proofs.build.filled.Goals as goal

pub returns : goal.returns
returns c = with_fill-back _ _ _ _ _ _ c.in-Some.ensures.items c.in_ok-push.ensures.ok c.in_ok-push-2.ensures.items

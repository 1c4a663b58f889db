use Rattle.sf_script_scene.proofs.LimitLemmas.{limits-stack}
use Rattle.sf_script_scene.proofs.scene.Scene.with_stack.Goals as goal

pub invariant_of-result : goal.invariant_of-result
invariant_of-result c = rw c.in_ok-push.ensures.ok (limits-stack _ _ c.self.invariant c.requires.range (rw (← c.self.view_is) at c.requires.version) (rw (← c.self.view_is) at c.requires.first))

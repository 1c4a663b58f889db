use Rattle.sf_script_scene.proofs.LimitLemmas.{limits-picture}
use Rattle.sf_script_scene.proofs.scene.Scene.with_picture.Goals as goal

pub invariant_of-result : goal.invariant_of-result
invariant_of-result c = rw c.in_ok-push.ensures.ok (limits-picture _ _ c.self.invariant c.requires.range (rw (← c.self.view_is) at c.requires.format) (rw (← c.self.view_is) at c.requires.first))

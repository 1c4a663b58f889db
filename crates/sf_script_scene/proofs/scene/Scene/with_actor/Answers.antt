use Rattle.std.proofs.Common.{◌∙◌}
use Rattle.sf_script_scene.proofs.LimitLemmas.{limits-actor}
use Rattle.sf_script_scene.proofs.scene.Scene.with_actor.Goals as goal

pub invariant_of-result : goal.invariant_of-result
invariant_of-result c = rw c.in_ok-push.ensures.ok (limits-actor _ _ c.self.invariant c.requires.low (rw (← c.self.view_is) at c.requires.high) (c.new-2.ensures ∙ c.new.ensures.items) (rw (← c.self.view_is) at c.requires.first))

use Rattle.sf_script_scene.proofs.LimitLemmas.{limits-step}
use Rattle.sf_script_scene.proofs.scene.Scene.with_step.Goals as goal

pub invariant_of-result : goal.invariant_of-result
invariant_of-result c = rw (c.new-actors.ensures, c.in_ok-stepped.ensures, c.into_vec.ensures) (limits-step _ _ c.self.invariant (rw (← c.self.view_is) at c.requires.room) (rw (← c.self.view_is) at c.requires.fits))

use Rattle.sf_script_scene.proofs.LimitLemmas.{limits-fill}
use Rattle.sf_script_scene.proofs.scene.Scene.with_fill.Goals as goal

pub invariant_of-result : goal.invariant_of-result
invariant_of-result c = rw (c.new-pictures.ensures, c.in_ok-filled.ensures, c.into_vec.ensures) (limits-fill _ _ c.self.invariant (rw (← c.self.view_is) at c.requires.room) c.requires.range)

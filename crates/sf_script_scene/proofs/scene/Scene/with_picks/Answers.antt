use Rattle.sf_script_scene.proofs.LimitLemmas.{limits-order}
use Rattle.sf_script_scene.proofs.scene.Scene.with_picks.Goals as goal

pub invariant_of-result : goal.invariant_of-result
invariant_of-result c = rw (c.new.ensures, c.in_ok-extend_from_slice.ensures.items, c.into_vec-order.ensures) (limits-order _ _ c.self.invariant (rw (← c.self.view_is) at c.requires.picks) (rw (← c.self.view_is) at c.requires.few))

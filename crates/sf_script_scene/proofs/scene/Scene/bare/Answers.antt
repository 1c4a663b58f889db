use Rattle.sf_script_scene.proofs.LimitLemmas.{limits-bare}
use Rattle.sf_script_scene.proofs.scene.Scene.bare.Goals as goal

pub invariant_of-result : goal.invariant_of-result
invariant_of-result c =
    rw (c.new-2.ensures, c.new.ensures.items, c.new-4.ensures, c.new-3.ensures.items, c.new-6.ensures, c.new-5.ensures.items, c.new-8.ensures, c.new-7.ensures.items, c.new-10.ensures, c.new-9.ensures.items, c.new-12.ensures, c.new-11.ensures.items, c.new-14.ensures, c.new-13.ensures.items, c.new-16.ensures, c.new-15.ensures.items, c.new-18.ensures, c.new-17.ensures.items, c.new-20.ensures, c.new-19.ensures.items)
    (limits-bare _ _ _ _ c.requires)

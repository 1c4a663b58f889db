use Rattle.sf_picture.proofs.SolidLemmas.{told_solid}
use Rattle.sf_picture.proofs.painted.with_pixels.Goals as goal

pub invariant_of-result : goal.invariant_of-result
invariant_of-result c = (c.requires, told_solid _ _ _ c.requires.shows (rw c.deref.ensures.value at c.are_all_solid-solid.ensures))

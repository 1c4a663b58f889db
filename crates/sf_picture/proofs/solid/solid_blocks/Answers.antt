use Rattle.std.proofs.Common.{arith}
use Rattle.sf_picture.proofs.SolidLemmas.{solid_more, solid_none}
use Rattle.sf_picture.proofs.solid.solid_blocks.Goals as goal

pub loop-at-init : goal.loop-at-init
loop-at-init c = solid_none _

pub loop-at-preserved : goal.loop-at-preserved
loop-at-preserved c = solid_more _ _ c.loop-at.invariant (omega (arith, c.loop-at-test.true, c.loop-at.invariant.within)) (c.are_solid.ensures c.if-not-are_solid.false)

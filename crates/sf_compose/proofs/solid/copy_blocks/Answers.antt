use Rattle.std.proofs.Common.{sym, arith}
use Rattle.sf_compose.proofs.SolidLemmas.{copied_more, copied_none}
use Rattle.sf_compose.proofs.solid.copy_blocks.Goals as goal

pub loop-dst-init : goal.loop-dst-init
loop-dst-init c = copied_none _ _ (sym c.requires)

pub loop-dst-preserved : goal.loop-dst-preserved
loop-dst-preserved c = copied_more _ _ _ c.loop-dst.invariant (omega (arith, c.loop-dst-test.true, c.loop-dst.invariant.size, c.loop-dst.invariant.within)) (c.are_solid.ensures c.if-not-are_solid.false)

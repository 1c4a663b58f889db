use Rattle.std.proofs.Common.{◌∙◌, arith}
use Rattle.sf_compose.proofs.SolidLemmas.{copied_fewer, copied_next}
use Rattle.sf_compose.proofs.solid.copy_solid.Goals as goal

pub loop-k-preserved : goal.loop-k-preserved
loop-k-preserved c = (c.put_pixel.ensures.size ∙ c.loop-k.invariant.0, copied_next _ _ _ _ _ c.loop-k.invariant.1 c.put_pixel.ensures.one c.get_pixel-pixel.ensures c.if-pixel.false)

pub returns-clause-copied : goal.returns-clause-copied
returns-clause-copied c = λ yes. copied_fewer _ _ c.loop-k.k _ (omega arith) c.loop-k.invariant.1

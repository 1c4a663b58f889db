use Rattle.sf_base.specs.Paint.{painted}
use Rattle.sf_rows.specs.Pixels.{PaintedBelow}
use Rattle.sf_rows.proofs.colour.blend_colour.Given as goal

abbrev pub invariant-loop-k : goal.invariant-loop-k
invariant-loop-k l = PaintedBelow l.fn.dst (λ k under. painted under l.fn.colour l.alpha) l.k l.dst

use Rattle.sf_base.specs.Bytes.{pixel_in}
use Rattle.sf_base.specs.Paint.{painted}
use Rattle.sf_rows.specs.Pixels.{PaintedBelow}
use Rattle.sf_rows.proofs.row.blend_row.Given as goal

abbrev pub invariant-loop-k : goal.invariant-loop-k
invariant-loop-k l = PaintedBelow l.fn.dst (λ k under. painted under (pixel_in l.src k) l.alpha) l.k l.dst

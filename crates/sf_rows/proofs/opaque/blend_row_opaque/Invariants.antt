use Rattle.sf_base.specs.Bytes.{pixel_in}
use Rattle.sf_base.specs.Paint.{painted}
use Rattle.sf_rows.specs.Pixels.{opaque_pixel, PaintedBelow}
use Rattle.sf_rows.proofs.opaque.blend_row_opaque.Given as goal

abbrev pub invariant-loop-k : goal.invariant-loop-k
invariant-loop-k l = PaintedBelow l.fn.dst (λ k under. painted under (opaque_pixel (pixel_in l.src k)) l.alpha) l.k l.dst

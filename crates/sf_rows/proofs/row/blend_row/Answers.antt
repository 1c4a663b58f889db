use Rattle.std.proofs.Common.{ap}
use Rattle.sf_base.specs.Bytes.{pixel_in}
use Rattle.sf_base.specs.Paint.{painted}
use Rattle.sf_rows.proofs.PixelLemmas.{painted_next, row_pixels}
use Rattle.sf_rows.proofs.row.blend_row.Goals as goal

pub loop-k-init : goal.loop-k-init
loop-k-init c = row_pixels _ _ _ _ _ c.blend_row_blocks-done.ensures

pub loop-k-preserved : goal.loop-k-preserved
loop-k-preserved c = painted_next _ _ _ _ _ _ c.loop-k.invariant c.paint_pixel.ensures.size c.paint_pixel.ensures.one (ap (λ source. painted (pixel_in c.loop-k.dst c.loop-k.k) source c.args.alpha) c.get_pixel.ensures)

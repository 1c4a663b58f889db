use Rattle.std.proofs.Common.{ap}
use Rattle.sf_base.specs.Bytes.{pixel_in}
use Rattle.sf_base.specs.Paint.{painted}
use Rattle.sf_base.specs.declared.pixel.Rgba.{Rgba}
use Rattle.sf_rows.specs.Pixels.{opaque_pixel}
use Rattle.sf_rows.proofs.PixelLemmas.{painted_next, opaque_pixels}
use Rattle.sf_rows.proofs.opaque.blend_row_opaque.Goals as goal

pub loop-k-init : goal.loop-k-init
loop-k-init c = opaque_pixels _ _ _ _ _ c.blend_opaque_blocks-done.ensures

pub loop-k-preserved : goal.loop-k-preserved
unfolding opaque_pixel
loop-k-preserved c = painted_next _ _ _ _ _ _ c.loop-k.invariant c.paint_pixel.ensures.size c.paint_pixel.ensures.one (ap (λ (source : Rgba). painted (pixel_in c.loop-k.dst c.loop-k.k) (opaque_pixel source) c.args.alpha) c.get_pixel.ensures)

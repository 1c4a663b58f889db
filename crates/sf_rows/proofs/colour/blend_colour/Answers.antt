use Rattle.std.proofs.Common.{refl}
use Rattle.sf_rows.proofs.PixelLemmas.{painted_next, colour_pixels}
use Rattle.sf_rows.proofs.colour.blend_colour.Goals as goal

pub loop-k-init : goal.loop-k-init
loop-k-init c = colour_pixels _ _ _ _ _ c.blend_colour_blocks-done.ensures

pub loop-k-preserved : goal.loop-k-preserved
loop-k-preserved c = painted_next _ _ _ _ _ _ c.loop-k.invariant c.paint_pixel.ensures.size c.paint_pixel.ensures.one refl

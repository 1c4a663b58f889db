-- Pixels of 8 bits a channel.
use Rattle.std.specs.Prelude.{◌≤◌}
use Rattle.sf_base.specs.declared.pixel.Rgba.{Rgba}

-- each channel is at most 255
pub record IsPixel (pixel : Rgba) : Type 0 where
  pub red : pixel.r ≤ 255
  pub green : pixel.g ≤ 255
  pub blue : pixel.b ≤ 255
  pub alpha : pixel.a ≤ 255

abbrev pub transparent : Rgba
transparent = record { r = 0; g = 0; b = 0; a = 0 }

-- What a reader sees of a colour that was written into a buffer of a format.
use Rattle.std.specs.Prelude.{ℕ, ◌+◌, ◌*◌, ◌/◌}
use Rattle.sf_base.specs.declared.format.Format.{Format}
use Rattle.sf_base.specs.declared.format.Format.TheVariants as format
use Rattle.sf_base.specs.declared.pixel.Rgba.{Rgba}

-- the upper 5 bits of a channel, widened to 8 by repeating the highest of them
abbrev pub through_five_bits : ℕ → ℕ
through_five_bits channel = 8 * (channel / 8) + channel / 8 / 4

-- the upper 6 bits of a channel, widened likewise
abbrev pub through_six_bits : ℕ → ℕ
through_six_bits channel = 4 * (channel / 4) + channel / 4 / 16

-- a format without alpha shows its pixels opaque
unfoldable pub seen_as : Format → Rgba → Rgba
seen_as format.Rgba colour = colour
seen_as format.Rgbx colour = record { r = colour.r; g = colour.g; b = colour.b; a = 255 }
seen_as format.Rgb565 colour = record {
  r = through_five_bits colour.r;
  g = through_six_bits colour.g;
  b = through_five_bits colour.b;
  a = 255;
}

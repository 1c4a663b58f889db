-- Whether two pictures are the same.
use Rattle.std.specs.Prelude.{Bool, true, false, nat_eq, ◌&&◌}
use Rattle.std.specs.Cmp.Lexicographic.{pointwise}
use Rattle.std.specs.Ordering.{int_eq}
use Rattle.sf_base.specs.declared.format.Format.{Format}
use Rattle.sf_base.specs.declared.format.Format.TheVariants as format
use Rattle.sf_base.specs.declared.geometry.Rect.{Rect}
use Rattle.sf_base.specs.declared.pixel.Rgba.{Rgba}
use Rattle.sf_turns.specs.sf_picture.declared.fill.Fill.{Fill}
use Rattle.sf_turns.specs.sf_picture.declared.picture.Picture.{Picture}

abbrev pub same_format : Format → Format → Bool
same_format format.Rgba format.Rgba = true
same_format format.Rgbx format.Rgbx = true
same_format format.Rgb565 format.Rgb565 = true
same_format a b = false

abbrev pub same_rect : Rect → Rect → Bool
same_rect a b = int_eq a.x b.x && (int_eq a.y b.y && (nat_eq a.width b.width && nat_eq a.height b.height))

abbrev pub same_colour : Rgba → Rgba → Bool
same_colour a b = nat_eq a.r b.r && (nat_eq a.g b.g && (nat_eq a.b b.b && nat_eq a.a b.a))

abbrev pub same_fill : Fill → Fill → Bool
same_fill a b = same_rect a.rect b.rect && same_colour a.colour b.colour

-- two pictures of one number, size and format, with the same fills
abbrev pub same_picture : Picture → Picture → Bool
same_picture a b =
    nat_eq a.number b.number && (nat_eq a.width b.width && (nat_eq a.height b.height && (same_format a.format b.format && pointwise same_fill a.fills b.fills)))

-- What an oriented crop shows.
use Rattle.std.specs.Prelude.{ℕ, ◌+◌, ◌*◌, Bool, if◌then◌else◌, nat_le, ◌&&◌, ◌%◌, ◌==◌, ◌||◌, ℤ, pos, neg_ℤ, ◌+ℤ◌}
use Rattle.sf_base.specs.Paint.{painted}
use Rattle.sf_base.specs.declared.geometry.Rect.{Rect}
use Rattle.sf_base.specs.declared.pixel.Rgba.{Rgba}
use Rattle.sf_compose.specs.declared.oriented.Oriented.{Oriented}
use Rattle.sf_damage.specs.sf_layer.declared.shown.Shown.{Shown}
use Rattle.sf_damage.specs.sf_picture.Pixels.{pixel_at}
use Rattle.sf_damage.specs.sf_picture.declared.picture.Picture.{Picture}
use Rattle.sf_damage.specs.sf_view.Boxes.{after_first, before_last, is_sideways, picture_point}
use Rattle.sf_damage.specs.sf_view.Contents.{source_of, unsigned}
use Rattle.sf_damage.specs.sf_view.declared.drawn.Drawn.{Drawn}

-- the point of a picture that a crop with its box's corner at a place shows at a point of the display
abbrev pub point_shown : Rect → ℕ → ℤ × ℤ → ℤ → ℤ → ℤ × ℤ
point_shown crop orient place x y = picture_point crop orient (x +ℤ neg_ℤ place.0) (y +ℤ neg_ℤ place.1)

-- the pixel of a picture at a point
abbrev pub pixel_of_point : Picture → ℤ × ℤ → Rgba
pixel_of_point picture point = pixel_at picture (unsigned point.0) (unsigned point.1)

-- the pixel that is shown there
abbrev pub pixel_shown : Picture → Rect → ℕ → ℤ × ℤ → ℤ → ℤ → Rgba
pixel_shown picture crop orient place x y = pixel_of_point picture (point_shown crop orient place x y)

-- the number in the picture of the pixel that an oriented crop shows at a point of the display, the pixel, and what is painted of
-- it over another one
abbrev pub oriented_number : Picture → Oriented → ℕ → ℕ → ℕ
oriented_number picture oriented x y =
    unsigned (point_shown oriented.crop oriented.orient oriented.place (pos x) (pos y)).1 * picture.width
    + unsigned (point_shown oriented.crop oriented.orient oriented.place (pos x) (pos y)).0

abbrev pub oriented_pixel : Picture → Oriented → ℕ → ℕ → Rgba
oriented_pixel picture oriented x y = pixel_shown picture oriented.crop oriented.orient oriented.place (pos x) (pos y)

abbrev pub over_oriented : Picture → Oriented → ℕ → ℕ → Rgba → Rgba
over_oriented picture oriented = λ x y under. painted under (source_of oriented.opaque (oriented_pixel picture oriented x y)) oriented.alpha

-- what a drawn layer shows of a buffer
abbrev pub oriented_of : Shown → Drawn → Oriented
oriented_of shown drawn = record { crop = shown.crop; orient = drawn.orient; place = drawn.place; opaque = drawn.opaque; alpha = drawn.alpha }

-- a crop's columns are shown from its last one back, and its rows
abbrev pub is_back_across : ℕ → Bool
is_back_across orient = nat_le 2 orient && nat_le orient 5

abbrev pub is_back_down : ℕ → Bool
is_back_down orient = orient % 4 == 1 || orient % 4 == 2

-- so far along a span from its start on, or back from its end
abbrev pub along : Bool → ℤ → ℕ → ℤ → ℤ
along back start extent far = if back then before_last start extent far else after_first start far

-- so many pixels further in a picture of this width is the pixel that is shown one column further right
abbrev pub step_of : ℕ → ℕ → ℤ
step_of orient width =
    if is_sideways orient then (if is_back_down orient then neg_ℤ (pos width) else pos width) else
    if is_back_across orient then neg_ℤ (pos 1) else pos 1

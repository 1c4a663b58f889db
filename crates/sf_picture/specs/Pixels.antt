-- What a picture shows at each point, and the bytes of a painted picture.
use Rattle.std.specs.Prelude.{◌≡◌, ℕ, ◌+◌, ◌*◌, ◌<◌, ◌≤◌, pos, List, length, find, reverse, Option, Some, None}
use Rattle.sf_base.specs.Bytes.{pixel_in}
use Rattle.sf_base.specs.Formats.{seen_as}
use Rattle.sf_base.specs.Geometry.{covers}
use Rattle.sf_base.specs.declared.pixel.Rgba.{Rgba}
use Rattle.sf_picture.specs.declared.fill.Fill.{Fill}
use Rattle.sf_picture.specs.declared.picture.Picture.{Picture}

-- a point that no fill covers is transparent black
abbrev pub transparent : Rgba
transparent = record { r = 0; g = 0; b = 0; a = 0 }

-- the colour of a fill, transparent black where there is none
abbrev pub colour_of : Option Fill → Rgba
colour_of None = transparent
colour_of (Some fill) = fill.colour

-- the colour of the last fill that covers the point, found from the last fill back
abbrev pub colour_at : List Fill → ℕ → ℕ → Rgba
colour_at fills x y = colour_of (find (λ fill. covers fill.rect (pos x) (pos y)) (reverse fills))

-- the colour of a picture's pixel, as a reader of the buffer sees it
abbrev pub pixel_at : Picture → ℕ → ℕ → Rgba
pixel_at picture x y = seen_as picture.format (colour_at picture.fills x y)

-- a picture is 1 to 512 pixels wide and high
pub record HasSize (picture : Picture) : Type 0 where
  pub wide : 1 ≤ picture.width
  pub narrow : picture.width ≤ 512
  pub high : 1 ≤ picture.height
  pub low : picture.height ≤ 512

-- two pictures are equal but for their fills
pub record HasSameForm (one other : Picture) : Type 0 where
  pub number : one.number ≡ other.number
  pub width : one.width ≡ other.width
  pub height : one.height ≡ other.height
  pub format : one.format ≡ other.format

-- the bytes are the picture's pixels, row by row from the top
pub record ShowsPicture (picture : Picture) (bytes : List ℕ) : Type 0 where
  pub size : length bytes ≡ 4 * (picture.width * picture.height)
  pub pixels : (x y : ℕ) → x < picture.width → y < picture.height → pixel_in bytes (y * picture.width + x) ≡ pixel_at picture x y

-- a picture of a right size with its pixels
pub record IsPainted (picture : Picture) (bytes : List ℕ) : Type 0 where
  pub size : HasSize picture
  pub shows : ShowsPicture picture bytes

-- What filling changes in the bytes of a picture.
use Rattle.std.specs.Prelude.{◌≡◌, ℕ, ◌+◌, ◌*◌, ◌<◌, ◌≤◌, pos, List, length, get_or, if◌then◌else◌, nat_le, nat_lt, ◌&&◌, true}
use Rattle.sf_base.specs.Bytes.{pixel_in}
use Rattle.sf_base.specs.Formats.{seen_as}
use Rattle.sf_base.specs.Geometry.{covers}
use Rattle.sf_base.specs.declared.format.Format.{Format}
use Rattle.sf_base.specs.declared.geometry.Rect.{Rect}
use Rattle.sf_base.specs.declared.pixel.Rgba.{Rgba}
use Rattle.sf_picture.specs.declared.fill.Fill.{Fill}
use Rattle.sf_picture.specs.Pixels.{colour_at, pixel_at, transparent}
use Rattle.sf_picture.specs.declared.picture.Picture.{Picture}

-- the rectangle covers each point of a picture of this size
pub record CoversAll (rect : Rect) (width height : ℕ) : Type 0 where
  pub points : (x y : ℕ) → x < width → y < height → covers rect (pos x) (pos y) ≡ true

-- of so many fills the last one covers each point of a picture of this size, if they are any
pub record EndsCovered (fills : List Fill) (count width height : ℕ) : Type 0 where
  pub within : count ≤ length fills
  pub covers : (i : ℕ) (fill : Fill) → count ≡ i + 1 → CoversAll (get_or fills i fill).rect width height

-- of a picture of this size, the points that the rectangle covers have the colour, and no other changed
pub record PaintsFill (old new : List ℕ) (width height : ℕ) (rect : Rect) (colour : Rgba) : Type 0 where
  pub pixels : (x y : ℕ) → x < width → y < height
      → pixel_in new (y * width + x) ≡ (if covers rect (pos x) (pos y) then colour else pixel_in old (y * width + x))

-- of a picture of this size, the points between the sides and of the rows have the colour, and no
-- other changed
pub record PaintsRows (old new : List ℕ) (width height left right top bottom : ℕ) (colour : Rgba) : Type 0 where
  pub pixels : (x y : ℕ) → x < width → y < height
      → pixel_in new (y * width + x) ≡ (if (nat_le left x && nat_lt x right) && (nat_le top y && nat_lt y bottom) then colour else pixel_in old (y * width + x))

-- the bytes are the pixels of a picture of this size and format with these fills
pub record ShowsFills (format : Format) (fills : List Fill) (width height : ℕ) (bytes : List ℕ) : Type 0 where
  pub pixels : (x y : ℕ) → x < width → y < height → pixel_in bytes (y * width + x) ≡ seen_as format (colour_at fills x y)

-- each pixel of a picture is transparent black
pub record ShowsNothing (picture : Picture) : Type 0 where
  pub pixels : (x y : ℕ) → pixel_at picture x y ≡ transparent

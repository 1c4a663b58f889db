-- Pixels that let no light through.
use Rattle.std.specs.Prelude.{◌≡◌, ℕ, ◌%◌, ◌/◌, ◌<◌, ◌≤◌, ◌↔◌, Bool, IsTrue, List, length}
use Rattle.sf_base.specs.Bytes.{pixel_in}
use Rattle.sf_picture.specs.Pixels.{pixel_at}
use Rattle.sf_picture.specs.declared.picture.Picture.{Picture}

-- the alphas of the pixels below a number are 255
pub record AreSolid (number : ℕ) (bytes : List ℕ) : Type 0 where
  pub alphas : (k : ℕ) → k < number → (pixel_in bytes k).a ≡ 255

-- those of so many bytes, which are whole pixels, are
pub record AreSolidTo (at : ℕ) (bytes : List ℕ) : Type 0 where
  pub whole : at % 4 ≡ 0
  pub within : at ≤ length bytes
  pub solid : AreSolid (at / 4) bytes

-- the alpha of each pixel of a picture is 255
pub record IsSolid (picture : Picture) : Type 0 where
  pub alphas : (x y : ℕ) → x < picture.width → y < picture.height → (pixel_at picture x y).a ≡ 255

-- a mark says whether a picture is solid
pub record TellsSolid (mark : Bool) (picture : Picture) : Type 0 where
  pub told : IsTrue mark ↔ IsSolid picture

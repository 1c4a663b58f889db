-- Pages: leases of pictures of one pixel.
use Rattle.std.specs.Prelude.{ℕ, Bool, []}
use Rattle.sf_base.specs.declared.format.Format.TheVariants as format
use Rattle.sf_picture.specs.declared.picture.Picture.{Picture}

-- a page's number, how often it was handed on, what the last look showed, and how often it was looked at
pub record PageOf : Type 0 where
  pub number : ℕ
  pub turn : ℕ
  pub seen : Bool
  pub looks : ℕ

abbrev pub page_of : ℕ → ℕ → Bool → ℕ → PageOf
page_of number turn seen looks = record { number = number; turn = turn; seen = seen; looks = looks }

-- the picture of this number, of one pixel without fills
abbrev pub picture_of : ℕ → Picture
picture_of number = record { number = number; width = 1; height = 1; fills = []; format = format.Rgba }

-- What a crop shows.
use Rattle.std.specs.Prelude.{ℕ, ◌+◌, ◌*◌, ℤ, pos, neg_ℤ, ◌+ℤ◌}
use Rattle.sf_base.specs.Paint.{painted}
use Rattle.sf_base.specs.declared.pixel.Rgba.{Rgba}
use Rattle.sf_compose.specs.declared.crop.Crop.{Crop}
use Rattle.sf_damage.specs.sf_layer.declared.shown.Shown.{Shown}
use Rattle.sf_damage.specs.sf_picture.Pixels.{pixel_at}
use Rattle.sf_damage.specs.sf_picture.declared.picture.Picture.{Picture}
use Rattle.sf_damage.specs.sf_view.Contents.{source_of, unsigned}
use Rattle.sf_damage.specs.sf_view.declared.drawn.Drawn.{Drawn}

-- the coordinate of a picture at a point, where the edge of a crop stands at a place
abbrev pub coordinate : ℕ → ℤ → ℤ → ℕ
coordinate at place edge = unsigned ((pos at +ℤ neg_ℤ place) +ℤ edge)

-- the column and the row of a picture that a crop shows at a point
abbrev pub crop_column : Crop → ℕ → ℕ
crop_column crop x = coordinate x crop.place.0 crop.rect.x

abbrev pub crop_row : Crop → ℕ → ℕ
crop_row crop y = coordinate y crop.place.1 crop.rect.y

-- the address of that pixel: its number in the picture
abbrev pub crop_number : Picture → Crop → ℕ → ℕ → ℕ
crop_number picture crop x y = crop_row crop y * picture.width + crop_column crop x

-- the pixel
abbrev pub crop_pixel : Picture → Crop → ℕ → ℕ → Rgba
crop_pixel picture crop x y = pixel_at picture (crop_column crop x) (crop_row crop y)

-- what is painted of it over a pixel
abbrev pub over_crop : Picture → Crop → ℕ → ℕ → Rgba → Rgba
over_crop picture crop = λ x y under. painted under (source_of crop.opaque (crop_pixel picture crop x y)) crop.alpha

-- what a drawn layer shows of a buffer, if it is not oriented
abbrev pub crop_of : Shown → Drawn → Crop
crop_of shown drawn = record { rect = shown.crop; place = drawn.place; opaque = drawn.opaque; alpha = drawn.alpha }

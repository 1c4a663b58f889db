-- What is read of the contents for the layers of a view.
use Rattle.std.specs.Prelude.{ℕ, ◌<◌, if◌then◌else◌, List, [], ◌∷◌, length, slice_index_or, ℤ, pos}
use Rattle.std.specs.List.{AllZip}
use Rattle.sf_base.specs.Geometry.{LiesWithin}
use Rattle.sf_base.specs.Paint.{painted}
use Rattle.sf_base.specs.declared.format.Format.TheVariants as format
use Rattle.sf_base.specs.declared.pixel.Rgba.{Rgba}
use Rattle.sf_damage.specs.sf_layer.declared.shown.Shown.{Shown}
use Rattle.sf_damage.specs.sf_picture.declared.picture.Picture.{Picture}
use Rattle.sf_damage.specs.sf_view.declared.content.Content.{Content}
use Rattle.sf_damage.specs.sf_view.declared.content.Content.TheVariants as content
use Rattle.sf_damage.specs.sf_view.declared.drawn.Drawn.{Drawn}
use Rattle.sf_damage.specs.sf_view.Contents.{pixel_of, source_of}
use Rattle.sf_damage.specs.sf_view.Image.{opaque_black}
use Rattle.sf_damage.specs.sf_view.Views.{ViewOf, is_in_clip}

-- no picture, which stands for one at a place that the contents don't have
abbrev pub no_picture : Picture
no_picture = record { number = 0; width = 0; height = 0; fills = []; format = format.Rgba }

abbrev pub content_at : List Picture → ℕ → Picture
content_at contents source = slice_index_or contents source no_picture

-- the contents have a picture at this place, and the part of it that is shown lies in it
pub record HasCrop (contents : List Picture) (shown : Shown) (source : ℕ) : Type 0 where
  pub within : source < length contents
  pub crop : LiesWithin shown.crop (content_at contents source).width (content_at contents source).height

-- what a layer shows can be read
abbrev pub IsReadable : List Picture → Content → ℕ → Type 0
IsReadable contents (content.Colour _) source = Unit {0}
IsReadable contents (content.Buffer shown) source = HasCrop contents shown source

-- what each drawn layer shows can be read from its source
pub record AreReadable (contents : List Picture) (layers : List Drawn) (sources : List ℕ) : Type 0 where
  pub all : AllZip (λ drawn source. IsReadable contents drawn.content source) layers sources

-- the pixel of a drawn layer, where it shows the content at this place
abbrev pub pixel_from : List Picture → Drawn → ℕ → ℤ → ℤ → Rgba
pixel_from contents drawn source x y =
    source_of drawn.opaque (pixel_of (λ _. content_at contents source) drawn.content drawn.orient drawn.place x y)

-- a pixel under a drawn layer, or as it is where the layer's clip lacks the point
abbrev pub under_one : List Picture → ℤ → ℤ → Rgba → Drawn → ℕ → Rgba
under_one contents x y under drawn source =
    if is_in_clip drawn x y then painted under (pixel_from contents drawn source x y) drawn.alpha else under

-- a pixel under the drawn layers of a list, from the back
abbrev pub under_drawn : List Picture → ℤ → ℤ → Rgba → List Drawn → List ℕ → Rgba
under_drawn contents x y under [] sources = under
under_drawn contents x y under (drawn ∷ layers) [] = under
under_drawn contents x y under (drawn ∷ layers) (source ∷ sources) =
    under_drawn contents x y (under_one contents x y under drawn source) layers sources

-- what is painted of a drawn layer over a pixel at a point of the display
abbrev pub over_layer : List Picture → Drawn → ℕ → ℕ → ℕ → Rgba → Rgba
over_layer contents drawn source = λ x y under. under_one contents (pos x) (pos y) under drawn source

-- of all drawn layers over black, whatever was there
abbrev pub over_black : List Picture → List Drawn → List ℕ → ℕ → ℕ → Rgba → Rgba
over_black contents layers sources = λ x y under. under_drawn contents (pos x) (pos y) opaque_black layers sources

-- the image of a view at a point of the display, as it is read from the contents
unfoldable pub read_image : List Picture → ViewOf → List ℕ → ℕ → ℕ → Rgba
read_image contents view sources x y = under_drawn contents (pos x) (pos y) opaque_black view.drawn sources

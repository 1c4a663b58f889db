-- What is composed: whether it can be read, what its image is, and where its layers show.
use Rattle.std.specs.Prelude.{ℕ, ℤ, Bool, List, Option, None, Some, map}
use denote.Ref.{Bor}
use Rattle.sf_base.specs.declared.geometry.Rect.{Rect}
use Rattle.sf_base.specs.declared.pixel.Rgba.{Rgba}
use Rattle.sf_compose.specs.Readings.{AreReadable, over_black, over_layer, read_image}
use Rattle.sf_compose.specs.declared.composition.Composition.{Composition}
use Rattle.sf_compose.specs.declared.composition.SourcedLayer.{SourcedLayer}
use Rattle.sf_damage.specs.Visible.{AreVisibleAt}
use Rattle.sf_damage.specs.sf_picture.declared.picture.Picture.{Picture}
use Rattle.sf_damage.specs.sf_region.Points.{has}
use Rattle.sf_damage.specs.sf_view.declared.drawn.Drawn.{Drawn}

-- where regions are given, one for each drawn layer, from the back: of the points that pass a test each has those that show of its
-- layer
abbrev pub AreShownAt : (ℤ → ℤ → Bool) → List Drawn → Option (Bor (List (List Rect))) → Type 0
AreShownAt test layers None = Unit {0}
AreShownAt test layers (Some shows) = AreVisibleAt test layers shows.now

-- the same of the points of a part
abbrev pub AreShownIn : List Rect → List Drawn → Option (Bor (List (List Rect))) → Type 0
AreShownIn part layers shows = AreShownAt (has part) layers shows

-- the contents of a composition hold these pictures
module _ {C : Type 0} (picture : C → Picture) where
  -- what each drawn layer of a composition shows can be read from its source
  abbrev pub AreReadableIn : Composition C → Type 0
  AreReadableIn composition = AreReadable (map picture composition.contents.now) composition.view.now.drawn composition.sources.now

  -- the image of its view, as it is read from the contents
  abbrev pub image_of : Composition C → ℕ → ℕ → Rgba
  image_of composition = read_image (map picture composition.contents.now) composition.view.now composition.sources.now

  -- what is painted of all its drawn layers over black, whatever was there
  abbrev pub layers_over_black : Composition C → ℕ → ℕ → Rgba → Rgba
  layers_over_black composition = over_black (map picture composition.contents.now) composition.view.now.drawn composition.sources.now

  -- what is painted of one drawn layer over a pixel, as it is read from its source
  abbrev pub over_sourced : SourcedLayer C → ℕ → ℕ → Rgba → Rgba
  over_sourced layer = over_layer (map picture layer.contents.now) layer.drawn.now layer.source

  -- its layers can be read, and where they show in a part is as it is given
  abbrev pub IsComposable : Composition C → List Rect → Type 0
  IsComposable composition part = AreReadableIn composition × AreShownIn part composition.view.now.drawn composition.shows

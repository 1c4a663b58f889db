-- Where the layers of a view find the pictures of the buffers that they show.
use Rattle.std.specs.Prelude.{◌≡◌, ℕ, List, Some, pos}
use Rattle.std.specs.List.{AllZip, slice_get}
use Rattle.sf_base.specs.Geometry.{LiesWithin}
use Rattle.sf_compose.specs.Frames.{frame_bytes}
use Rattle.sf_compose.specs.Readings.{AreReadable, read_image}
use Rattle.sf_damage.specs.sf_layer.declared.shown.Shown.{Shown}
use Rattle.sf_damage.specs.sf_picture.declared.picture.Picture.{Picture}
use Rattle.sf_damage.specs.sf_view.declared.content.Content.{Content}
use Rattle.sf_damage.specs.sf_view.declared.content.Content.TheVariants as content
use Rattle.sf_damage.specs.sf_view.Stacks.{view_image}
use Rattle.sf_damage.specs.sf_view.Views.{ViewOf}

-- the content at this place is the picture of a shown buffer, and the part that is shown lies in it
pub record IsSource (picture : ℕ → Picture) (contents : List Picture) (shown : Shown) (source : ℕ) : Type 0 where
  pub content : slice_get contents source ≡ Some (picture shown.picture)
  pub crop : LiesWithin shown.crop (picture shown.picture).width (picture shown.picture).height

-- a buffer has a source, and a colour needs none
abbrev pub HasSource : (ℕ → Picture) → List Picture → Content → ℕ → Type 0
HasSource picture contents (content.Colour _) source = Unit {0}
HasSource picture contents (content.Buffer shown) source = IsSource picture contents shown source

-- each drawn layer of a view has its source, at its own place in the list of sources
pub record HasSources (picture : ℕ → Picture) (view : ViewOf) (contents : List Picture) (sources : List ℕ) : Type 0 where
  pub all : AllZip (λ drawn source. HasSource picture contents drawn.content source) view.drawn sources

-- what is read of the contents for a view is its image
abbrev pub ReadsImage : (ℕ → Picture) → ViewOf → List Picture → List ℕ → Type 0
ReadsImage picture view contents sources = (x y : ℕ) → read_image contents view sources x y ≡ view_image picture view (pos x) (pos y)

-- where the contents hold the pictures of a view's layers, whatever pictures the numbers stand for, the layers can be read
abbrev pub SourcesAreReadable : Type 0
SourcesAreReadable = (picture : ℕ → Picture) (view : ViewOf) (contents : List Picture) (sources : List ℕ) →
    HasSources picture view contents sources → AreReadable contents view.drawn sources

-- and what is read is the image of the view
abbrev pub ReadingGivesTheImage : Type 0
ReadingGivesTheImage = (picture : ℕ → Picture) (view : ViewOf) (contents : List Picture) (sources : List ℕ) →
    HasSources picture view contents sources → ReadsImage picture view contents sources

-- these are the bytes of the view's image, for each assignment of pictures that gives the contents to its layers
abbrev pub IsFrameOf : ViewOf → List Picture → List ℕ → List ℕ → Type 0
IsFrameOf view contents sources bytes = (picture : ℕ → Picture) → HasSources picture view contents sources →
    bytes ≡ frame_bytes (λ x y. view_image picture view (pos x) (pos y)) view.width view.height

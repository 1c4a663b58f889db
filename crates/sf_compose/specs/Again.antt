-- Frames that are composed over the frame before.
use Rattle.std.specs.Prelude.{◌≡◌, ℕ, ◌+◌, ◌*◌, ◌<◌, List, length, pos}
use Rattle.sf_base.specs.Bytes.{pixel_in}
use Rattle.sf_base.specs.declared.geometry.Rect.{Rect}
use Rattle.sf_base.specs.declared.pixel.Rgba.{Rgba}
use Rattle.sf_damage.specs.Damage.{Damages}
use Rattle.sf_damage.specs.sf_picture.declared.picture.Picture.{Picture}
use Rattle.sf_damage.specs.sf_view.Stacks.{view_image}
use Rattle.sf_damage.specs.sf_view.Views.{ViewOf}
use Rattle.sf_compose.specs.Frames.{KeepsRest, ShowsPart}

-- each point of the display has the colour of the view's image
pub record ShowsView (picture : ℕ → Picture) (view : ViewOf) (frame : List ℕ) : Type 0 where
  pub pixels : (x y : ℕ) → x < view.width → y < view.height → pixel_in frame (y * view.width + x) ≡ view_image picture view (pos x) (pos y)

-- the part in which two views differ shows the new one, and no other point of the frame of the old one changed
pub record IsComposedAgain (picture : ℕ → Picture) (old new : ViewOf) (part : List Rect) (before after : List ℕ) : Type 0 where
  pub wide : old.width ≡ new.width
  pub high : old.height ≡ new.height
  pub damage : Damages old new part
  pub last : ShowsView picture old before
  pub shown : ShowsPart new part (λ x y. view_image picture new (pos x) (pos y)) after
  pub rest : KeepsRest new part before after

-- then the whole frame shows the new one
abbrev pub ComposingAgainIsWhole : Type 0
ComposingAgainIsWhole = (picture : ℕ → Picture) (old new : ViewOf) (part : List Rect) (before after : List ℕ) →
    IsComposedAgain picture old new part before after → ShowsView picture new after

-- the part shows an image, and no other point of the frame changed
pub record IsComposed (view : ViewOf) (part : List Rect) (image : ℕ → ℕ → Rgba) (before after : List ℕ) : Type 0 where
  pub shown : ShowsPart view part image after
  pub rest : KeepsRest view part before after

-- two frames that were composed alike are the same bytes
abbrev pub ComposingHasOneFrame : Type 0
ComposingHasOneFrame = (view : ViewOf) (part : List Rect) (image : ℕ → ℕ → Rgba) (before one other : List ℕ) → length before ≡ 4 * (view.width * view.height) →
    IsComposed view part image before one → IsComposed view part image before other → one ≡ other

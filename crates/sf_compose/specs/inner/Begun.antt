-- An area of which some layers are painted, or are hidden, and the others are still to be painted.
use Rattle.std.specs.Prelude.{◌≡◌, ℕ, ◌+◌, ◌-◌, ◌*◌, ◌<◌, ◌≤◌, Bool, true, false, List, length, drop, pos}
use Rattle.sf_base.specs.Bytes.{pixel_in}
use Rattle.sf_compose.specs.declared.area.Area.{Area}
use Rattle.sf_compose.specs.declared.band.Band.{Band}
use Rattle.sf_compose.specs.Readings.{under_drawn}
use Rattle.sf_compose.specs.inner.Painting.{is_in_area}
use Rattle.sf_damage.specs.sf_picture.declared.picture.Picture.{Picture}
use Rattle.sf_damage.specs.sf_view.Image.{opaque_black}
use Rattle.sf_damage.specs.sf_view.declared.drawn.Drawn.{Drawn}

-- of rows of this width from one on, no point changed that fails a test
pub record Spares (width top : ℕ) (test : ℕ → ℕ → Bool) (old new : List ℕ) : Type 0 where
  pub size : length new ≡ length old
  pub rest : (x y : ℕ) → x < width → top ≤ y → test x y ≡ false → pixel_in new ((y - top) * width + x) ≡ pixel_in old ((y - top) * width + x)

-- where a test holds, the layers from a number on make of what is there what all of them make of black
pub record IsBegun (width top : ℕ) (test : ℕ → ℕ → Bool) (contents : List Picture) (layers : List Drawn)
    (sources : List ℕ) (first : ℕ) (new : List ℕ) : Type 0 where
  pub image : (x y : ℕ) → x < width → top ≤ y → test x y ≡ true
      → under_drawn contents (pos x) (pos y) (pixel_in new ((y - top) * width + x)) (drop first layers) (drop first sources)
      ≡ under_drawn contents (pos x) (pos y) opaque_black layers sources

-- the same of the points of an area in the rows of a band
abbrev pub AreaIsBegun : Band → Area → List Picture → List Drawn → List ℕ → ℕ → List ℕ → Type 0
AreaIsBegun band area contents layers sources first new = IsBegun band.width band.top (is_in_area area) contents layers sources first new

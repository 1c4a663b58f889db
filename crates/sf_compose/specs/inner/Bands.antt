-- Rows of a display, and the bytes of a frame that are theirs.
use Rattle.std.specs.Prelude.{◌≡◌, ℕ, ◌-◌, ◌*◌, ◌<◌, ◌≤◌, Bool, List, length, pos}
use denote.Ref.{MutBor}
use denote.Param.Members.{Shared}
use Rattle.sf_base.specs.declared.geometry.Rect.{Rect}
use Rattle.sf_base.specs.declared.pixel.Rgba.{Rgba}
use Rattle.sf_compose.specs.declared.area.Area.{Area}
use Rattle.sf_compose.specs.declared.band.Band.{Band}
use Rattle.sf_compose.specs.Frames.{Repaints}
use Rattle.sf_damage.specs.sf_region.Points.{has}

-- each point of an area is in a band
pub record IsInBand (band : Band) (area : Area) : Type 0 where
  pub wide : area.right ≤ band.width
  pub low : band.top ≤ area.top
  pub high : area.bottom ≤ band.bottom

-- four bytes for each pixel of a band, row by row from its top
pub record HasRows (band : Band) (bytes : List ℕ) : Type 0 where
  pub size : length bytes ≡ 4 * ((band.bottom - band.top) * band.width)

-- the points of a band's rows that pass a test have the colours of an image, and no other changed
abbrev pub RepaintsBand : Band → (ℕ → ℕ → Bool) → (ℕ → ℕ → Rgba) → List ℕ → List ℕ → Type 0
RepaintsBand band test image old new = Repaints band.width band.top band.bottom test image old new

-- a point lies in rectangles
abbrev pub is_in : List Rect → ℕ → ℕ → Bool
is_in part = λ x y. has part (pos x) (pos y)

-- a band is cut into the rows from its top on, at least one, and those below them
pub record IsCut (band first below : Band) : Type 0 where
  pub first_is : first ≡ record band { bottom = below.top }
  pub below_is : below ≡ record band { top = below.top }
  pub some : band.top < below.top
  pub within : below.top ≤ band.bottom

-- what the calls of a function of a band and its bytes may be, and what they do
module _ {F : Type 0} (g : Shared F (Band × (MutBor (List ℕ) × Unit {0})) (Unit {0} × (MutBor (List ℕ) × Unit {0}))) (f : F) where
  -- it may be called with any band and the bytes of its rows
  abbrev pub AcceptsBands : Type 0
  AcceptsBands = (band : Band) (bytes : MutBor (List ℕ)) → HasRows band bytes.now → g.pre f (band, (bytes, tt))

  -- each call repaints the band that it is given
  abbrev pub RepaintsBands : (ℕ → ℕ → Bool) → (ℕ → ℕ → Rgba) → Type 0
  RepaintsBands test image = (band : Band) (before after : MutBor (List ℕ)) → g.post f (band, (before, tt)) (tt, (after, tt))
      → Repaints band.width band.top band.bottom test image before.now after.now

-- An area of a band that pixels with an alpha of 255 are moved into.
use Rattle.std.specs.Prelude.{ℕ, Bool, List}
use Rattle.sf_base.specs.Paint.{painted}
use Rattle.sf_base.specs.declared.pixel.Rgba.{Rgba}
use Rattle.sf_compose.specs.declared.area.Area.{Area}
use Rattle.sf_compose.specs.declared.band.Band.{Band}
use Rattle.sf_compose.specs.inner.Painting.{is_in_area, Paints, PaintsSpan}
use Rattle.sf_damage.specs.sf_view.Contents.{source_of}

-- Each point of the area got what is painted of a pixel with alpha 255, over whatever lay below it, whether the layer
-- counts as opaque or not.
abbrev pub Moves : (ℕ → ℕ → Rgba) → Band → Area → List ℕ → List ℕ → Type 0
Moves pixel band area old new = (opaque : Bool) (below : ℕ → ℕ → Rgba → Rgba) → Paints band.width band.top (is_in_area area) (λ x y under.
    painted (below x y under) (source_of opaque (pixel x y)) 255) old new

-- the same of pixels from a number on and below another
abbrev pub MovesSpan : List ℕ → List ℕ → ℕ → ℕ → (ℕ → Rgba) → Type 0
MovesSpan old new start end pixel = (opaque : Bool) (below : ℕ → Rgba → Rgba) → PaintsSpan old new start end (λ i under.
    painted (below i under) (source_of opaque (pixel i)) 255)

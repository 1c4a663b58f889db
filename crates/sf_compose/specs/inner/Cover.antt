-- What lies below drawn layers and is not seen.
use Rattle.std.specs.Prelude.{◌≡◌, ℕ, Bool, true, List, pos}
use Rattle.sf_base.specs.declared.pixel.Rgba.{Rgba}
use Rattle.sf_compose.specs.declared.area.Area.{Area}
use Rattle.sf_compose.specs.Readings.{under_drawn, under_one}
use Rattle.sf_damage.specs.sf_picture.declared.picture.Picture.{Picture}
use Rattle.sf_damage.specs.sf_view.Views.{is_in_clip}
use Rattle.sf_damage.specs.sf_view.declared.drawn.Drawn.{Drawn}

-- what a drawn layer makes of a pixel does not depend on it, wherever its clip has the point
pub record HidesBelow (contents : List Picture) (drawn : Drawn) (source : ℕ) : Type 0 where
  pub hidden : (x y : ℕ) → is_in_clip drawn (pos x) (pos y) ≡ true → (under other : Rgba)
      → under_one contents (pos x) (pos y) under drawn source ≡ under_one contents (pos x) (pos y) other drawn source

-- what drawn layers make of a pixel does not depend on it, wherever a test holds
pub record HidesGround (test : ℕ → ℕ → Bool) (contents : List Picture) (layers : List Drawn) (sources : List ℕ) : Type 0 where
  pub hidden : (x y : ℕ) → test x y ≡ true → (under other : Rgba)
      → under_drawn contents (pos x) (pos y) under layers sources ≡ under_drawn contents (pos x) (pos y) other layers sources

-- the rows of an area from one on and before another
abbrev pub rows_between : Area → ℕ → ℕ → Area
rows_between area top bottom = record area { top = top; bottom = bottom }

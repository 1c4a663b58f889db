-- A part that is split at a clip, and what is put together again.
use Rattle.std.proofs.Common.{◌≡◌, ℤ, not, ◌&&◌, ◌||◌, List}
use Rattle.sf_base.specs.Geometry.{covers}
use Rattle.sf_base.specs.declared.geometry.Rect.{Rect}
use Rattle.sf_region.specs.Points.{has}

-- a part is split at a clip
pub record IsSplit (clip : Rect) (part within beside : List Rect) : Type 0 where
  pub inside : (x y : ℤ) → has within x y ≡ (has part x y && covers clip x y)
  pub outside : (x y : ℤ) → has beside x y ≡ (has part x y && not (covers clip x y))

abbrev pub IsJoin : List Rect → List Rect → List Rect → Type 0
IsJoin one other region = (x y : ℤ) → has region x y ≡ (has one x y || has other x y)

-- The ranges of positions, crops and orientations.
use Rattle.std.specs.Prelude.{◌<◌, ◌≤◌, ℤ, pos, negsuc, ◌≤ℤ◌, Some}
use Rattle.sf_base.specs.Geometry.{LiesWithin}
use Rattle.sf_base.specs.declared.geometry.Rect.{Rect}
use Rattle.sf_base.specs.declared.ids.LayerId.{LayerId}
use Rattle.sf_layer.specs.declared.op.Op.{Op}
use Rattle.sf_layer.specs.declared.op.Op.TheVariants as op

-- a position or a crop's corner is -16,384 to 16,384
pub record IsCoordinate (at : ℤ) : Type 0 where
  pub low : negsuc 16383 ≤ℤ at
  pub high : at ≤ℤ pos 16384

-- a layer's crop
pub record IsCrop (crop : Rect) : Type 0 where
  pub left : IsCoordinate crop.x
  pub top : IsCoordinate crop.y
  pub width : crop.width ≤ 16384
  pub height : crop.height ≤ 16384

-- positions, crops and orientations that an operation brings are in their ranges
abbrev pub IsInRange : Op → Type 0
IsInRange (op.Position x y) = IsCoordinate x × IsCoordinate y
IsInRange (op.Crop (Some crop)) = IsCrop crop
IsInRange (op.Show shown) = LiesWithin shown.crop 512 512
IsInRange (op.Orient orient) = orient ≤ 7
IsInRange _ = Unit {0}

-- an operation on a layer of a number, which is 1 or more
abbrev pub IsOperation : LayerId × Op → Type 0
IsOperation operation = (0 < operation.0.0) × IsInRange operation.1

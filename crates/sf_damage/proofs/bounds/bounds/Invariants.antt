use Rattle.std.proofs.Common.{◌≡◌, ℤ, take, true}
use Rattle.sf_base.specs.Geometry.{covers}
use Rattle.sf_region.specs.Points.{IsInBounds, has}
use Rattle.sf_damage.proofs.bounds.bounds.Given as goal

abbrev pub invariant-loop-rect : goal.invariant-loop-rect
invariant-loop-rect l = IsInBounds l.all × ((x y : ℤ) → has (take l.rect-index l.region) x y ≡ true → covers l.all x y ≡ true)

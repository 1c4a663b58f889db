use Rattle.std.proofs.Common.{◌≡◌, take}
use Rattle.std.specs.Prelude.{map}
use Rattle.sf_region.specs.Points.{moved}
use Rattle.sf_region.proofs.region.moved_rects.Given as goal

abbrev pub invariant-loop-rect : goal.invariant-loop-rect
invariant-loop-rect l = l.all.items ≡ map (moved l.dx l.dy) (take l.rect-index l.rects)

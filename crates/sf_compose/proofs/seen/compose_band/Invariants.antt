use Rattle.std.proofs.Common.{map, take, pos}
use Rattle.sf_damage.specs.sf_region.Points.{has}
use Rattle.sf_compose.specs.Frames.{Repaints}
use Rattle.sf_compose.specs.Readings.{read_image}
use Rattle.sf_compose.proofs.seen.compose_band.Given as goal

abbrev pub invariant-loop-rect : goal.invariant-loop-rect
invariant-loop-rect g l = Repaints l.band.width l.band.top l.band.bottom (λ x y. has (take l.rect-index l.part) (pos x) (pos y)) (read_image (map g.C.Pixels.picture l.composition.contents.now) l.composition.view.now l.composition.sources.now) l.fn.frame l.frame

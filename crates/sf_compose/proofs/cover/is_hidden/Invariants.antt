use Rattle.std.proofs.Common.{◌-◌, map}
use Rattle.sf_compose.specs.Frames.{is_in_box}
use Rattle.sf_compose.specs.inner.Cover.{HidesGround}
use Rattle.sf_compose.proofs.cover.is_hidden.Given as goal

abbrev pub invariant-loop-y : goal.invariant-loop-y
invariant-loop-y g l = HidesGround (is_in_box l.area.left l.area.right l.area.top l.y) (map g.C.Pixels.picture l.composition.contents.now) l.composition.view.now.drawn l.composition.sources.now

abbrev pub decreases-loop-y : goal.decreases-loop-y
decreases-loop-y g l = l.area.bottom - l.y

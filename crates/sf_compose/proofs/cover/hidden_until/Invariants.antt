use Rattle.std.proofs.Common.{◌≤◌, ◌<◌, ◌-◌, map}
use Rattle.sf_compose.specs.Frames.{is_in_box}
use Rattle.sf_compose.specs.inner.Cover.{HidesGround}
use Rattle.sf_compose.proofs.cover.hidden_until.Given as goal

abbrev pub invariant-loop-x : goal.invariant-loop-x
invariant-loop-x g l =
    (l.y < l.bottom) × (l.bottom ≤ l.area.bottom)
    × HidesGround (is_in_box l.area.left l.x l.y l.bottom) (map g.C.Pixels.picture l.composition.contents.now) l.composition.view.now.drawn l.composition.sources.now

abbrev pub decreases-loop-x : goal.decreases-loop-x
decreases-loop-x g l = l.area.right - l.x

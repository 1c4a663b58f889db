use Rattle.std.proofs.Common.{◌≡◌, ℤ, ◌≤◌, ◌-◌, length, true}
use Rattle.std.specs.Prelude.{take}
use Rattle.sf_base.specs.Geometry.{covers}
use Rattle.sf_region.specs.Points.{has}
use Rattle.sf_region.proofs.meeting.next_meeting.Given as goal

abbrev pub invariant-loop-at : goal.invariant-loop-at
invariant-loop-at l = record {
  from : l.from ≤ l.at;
  within : l.at ≤ length l.rects;
  same : (x y : ℤ) → covers l.rect x y ≡ true → has (take l.at l.rects) x y ≡ has (take l.from l.rects) x y;
}

abbrev pub decreases-loop-at : goal.decreases-loop-at
decreases-loop-at l = length l.rects - l.at

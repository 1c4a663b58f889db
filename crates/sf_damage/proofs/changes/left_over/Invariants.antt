use Rattle.std.proofs.Common.{◌+◌, ◌-◌, ◌≤◌, length}
use Rattle.std.specs.List.{All}
use Rattle.sf_region.specs.Points.{IsInBounds}
use Rattle.sf_damage.proofs.GatheredLemmas.{IsGoneThrough}
use Rattle.sf_damage.proofs.changes.left_over.Given as goal

abbrev pub invariant-loop-old_at : goal.invariant-loop-old_at
invariant-loop-old_at l = record {
  old_inside : l.old_at ≤ length l.olds;
  new_inside : l.new_at ≤ length l.news;
  near : All IsInBounds l.clips.items;
  gone : IsGoneThrough l.olds l.news l.old_at l.new_at l.clips.items;
}

abbrev pub decreases-loop-old_at : goal.decreases-loop-old_at
decreases-loop-old_at l = (length l.olds - l.old_at) + (length l.news - l.new_at)

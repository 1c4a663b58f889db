use Rattle.std.proofs.Common.{ℕ, ◌<◌, ◌≤◌, ◌-◌, length}
use Rattle.std.specs.Prelude.{slice_index_or}
use Rattle.sf_base.specs.declared.geometry.Rect.{Rect}
use Rattle.sf_region.specs.inner.Bands.{EndsBefore}
use Rattle.sf_region.proofs.meeting.past.Given as goal

abbrev pub invariant-loop-first : goal.invariant-loop-first
invariant-loop-first l = record {
  from : l.from ≤ l.first;
  ordered : l.first ≤ l.last;
  within : l.last ≤ length l.rects;
  before : (k : ℕ) (d : Rect) → l.from ≤ k → k < l.first → EndsBefore l.low l.column (slice_index_or l.rects k d);
}

abbrev pub decreases-loop-first : goal.decreases-loop-first
decreases-loop-first l = l.last - l.first

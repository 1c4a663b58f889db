use Rattle.std.proofs.Common.{◌≡◌, ℕ, ◌≤◌, length}
use Rattle.sf_region.specs.Canonical.{IsBanded}
use Rattle.sf_region.specs.Spans.{row}
use Rattle.sf_region.proofs.rows.past_rows.Given as goal

abbrev pub invariant-loop-rest : goal.invariant-loop-rest
invariant-loop-rest l = record { banded : IsBanded l.rest; same : (p : ℕ) → l.y ≤ p → row l.rest p ≡ row l.rects p }

abbrev pub decreases-loop-rest : goal.decreases-loop-rest
decreases-loop-rest l = length l.rest

use Rattle.std.proofs.Common.{◌≡◌, ℕ, ◌≤◌, length}
use Rattle.sf_region.specs.Spans.{on, IsSpread}
use Rattle.sf_region.proofs.spans.past.Given as goal

abbrev pub invariant-loop-rest : goal.invariant-loop-rest
invariant-loop-rest l = record { spread : IsSpread l.rest; same : (p : ℕ) → l.x ≤ p → on l.rest p ≡ on l.spans p }

abbrev pub decreases-loop-rest : goal.decreases-loop-rest
decreases-loop-rest l = length l.rest

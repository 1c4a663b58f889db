use Rattle.std.proofs.Common.{◌≡◌, ◌≤◌, true, Some, ◌∷◌}
use Rattle.std.specs.List.{AllByRecursion}
use Rattle.test_threads.proofs.crowd_run.fn.add_at_once.scope.Given as goal

-- the first pass of the lock, which gave passes to callers up to the last one
abbrev pub invariant-loop-last : goal.invariant-loop-last
invariant-loop-last g l = (l.first.table ≡ l.lock) × (l.first.is_first ≡ true) × (l.first.mark ≡ Some tt) × AllByRecursion (λ b. b ≤ l.last) (l.first.by ∷ l.first.gave)

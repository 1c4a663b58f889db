use Rattle.std.proofs.Common.{◌≡◌, Some}
use Rattle.test_threads.proofs.crowd_run.add_ones.Given as goal

-- the pass stays one of the counter's lock
abbrev pub invariant-loop : goal.invariant-loop
invariant-loop g l = (l.pass.table ≡ l.lock) × (l.pass.mark ≡ Some tt)

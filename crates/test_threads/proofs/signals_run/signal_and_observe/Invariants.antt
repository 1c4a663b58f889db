use Rattle.std.proofs.Common.{◌≡◌}
use Rattle.test_threads.proofs.signals_run.signal_and_observe.Given as goal

-- the seat stays one of these timelines
abbrev pub invariant-loop-value : goal.invariant-loop-value
invariant-loop-value l = l.seat.table ≡ l.times

use Rattle.std.proofs.Common.{◌≡◌}
use Rattle.test_threads.proofs.write_run.read.Given as goal

-- the seat and the turn stay of one table, which is the one at first
abbrev pub invariant-loop : goal.invariant-loop
invariant-loop l = (l.turn.table ≡ l.seat.table) × (l.seat.table ≡ l.fn.seat.table)

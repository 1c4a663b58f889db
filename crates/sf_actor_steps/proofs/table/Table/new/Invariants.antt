use Rattle.std.proofs.Common.{◌≡◌, replicate, None}
use Rattle.sf_actor_steps.proofs.table.Table.new.Given as goal

abbrev pub invariant-loop : goal.invariant-loop
invariant-loop g l = l.places.items ≡ replicate l.counter None

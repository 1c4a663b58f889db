use Rattle.std.proofs.Common.{◌≡◌, replicate}
use Rattle.sf_turns.specs.declared.protocol.Home.TheVariants.{Vacant}
use Rattle.sf_turns.proofs.open.vacant.Given as goal

abbrev pub invariant-loop : goal.invariant-loop
invariant-loop g l = l.row.items ≡ replicate l.counter Vacant

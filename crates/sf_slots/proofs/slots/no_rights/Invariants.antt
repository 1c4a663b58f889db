use Rattle.std.proofs.Common.{◌≡◌, replicate, None}
use Rattle.sf_slots.proofs.slots.no_rights.Given as goal

abbrev pub invariant-loop : goal.invariant-loop
invariant-loop g l = l.rights.items ≡ replicate l.counter None

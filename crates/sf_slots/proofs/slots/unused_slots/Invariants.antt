use Rattle.std.proofs.Common.{◌≡◌, replicate}
use Rattle.sf_slots.specs.Told.{unused}
use Rattle.sf_slots.proofs.slots.unused_slots.Given as goal

abbrev pub invariant-loop : goal.invariant-loop
invariant-loop l = l.slots.items ≡ replicate l.counter unused

use Rattle.std.proofs.Common.{◌≡◌, length, None}
use Rattle.sf_ready.specs.Holds.{pressure_hold}
use Rattle.sf_ready.proofs.causes.pressure_hold.Given as goal

-- no buffer so far is for a pressed layer
abbrev pub invariant-loop-rest : goal.invariant-loop-rest
invariant-loop-rest g l = pressure_hold None l.fn.buffers l.facts.fresh l.facts.pressed ≡ pressure_hold None l.rest l.facts.fresh l.facts.pressed

abbrev pub decreases-loop-rest : goal.decreases-loop-rest
decreases-loop-rest g l = length l.rest

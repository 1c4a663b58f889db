use Rattle.std.proofs.Common.{◌≡◌, length}
use Rattle.sf_ready.specs.Holds.{undrawn_hold}
use Rattle.sf_ready.proofs.causes.undrawn_hold.Given as goal

-- the writes of all buffers so far have ended
abbrev pub invariant-loop-rest : goal.invariant-loop-rest
invariant-loop-rest g l = undrawn_hold l.fn.buffers l.fn.drawn ≡ undrawn_hold l.rest l.left

abbrev pub decreases-loop-rest : goal.decreases-loop-rest
decreases-loop-rest g l = length l.rest

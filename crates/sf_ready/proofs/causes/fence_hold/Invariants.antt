use Rattle.std.proofs.Common.{◌≡◌, length}
use Rattle.sf_ready.specs.Holds.{fence_hold}
use Rattle.sf_ready.proofs.causes.fence_hold.Given as goal

-- no buffer so far has an open fence
abbrev pub invariant-loop-rest : goal.invariant-loop-rest
invariant-loop-rest g l = fence_hold l.fn.buffers l.seen ≡ fence_hold l.rest l.seen

abbrev pub decreases-loop-rest : goal.decreases-loop-rest
decreases-loop-rest g l = length l.rest

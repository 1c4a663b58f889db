use Rattle.std.proofs.Common.{◌≡◌, length}
use Rattle.sf_ready.specs.Holds.{barrier_hold}
use Rattle.sf_ready.proofs.causes.barrier_hold.Given as goal

-- all barriers so far are met
abbrev pub invariant-loop-rest : goal.invariant-loop-rest
invariant-loop-rest l = barrier_hold l.fn.barriers l.facts.frames ≡ barrier_hold l.rest l.facts.frames

abbrev pub decreases-loop-rest : goal.decreases-loop-rest
decreases-loop-rest l = length l.rest

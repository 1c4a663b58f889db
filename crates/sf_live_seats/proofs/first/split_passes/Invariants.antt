use Rattle.sf_calls.specs.Passes.{given, giving}
use Rattle.sf_live_seats.proofs.GivenPasses.{SoFar}
use Rattle.sf_live_seats.proofs.first.split_passes.Given as goal

abbrev pub invariant-loop-place : goal.invariant-loop-place
invariant-loop-place g l = SoFar (giving l.fn.by) (given l.fn.by) l.fn.firsts l.firsts l.passes.items l.place

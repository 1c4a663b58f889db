use Rattle.std.proofs.Common.{◌≡◌, length}
use Rattle.sf_actor.specs.Scripts.{fence_of, with_points}
use Rattle.sf_actor_steps.specs.Forming.{ArePoints}
use Rattle.sf_actor_steps.proofs.asking.fence_of.Given as goal

abbrev pub invariant-loop-rest : goal.invariant-loop-rest
invariant-loop-rest l = (with_points l.fence l.rest ≡ fence_of l.fn.points) × ArePoints l.rest

abbrev pub decreases-loop-rest : goal.decreases-loop-rest
decreases-loop-rest l = length l.rest

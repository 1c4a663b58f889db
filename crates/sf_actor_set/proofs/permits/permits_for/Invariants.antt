use Rattle.std.proofs.Common.{◌≡◌, take}
use Rattle.sf_actor_set.specs.Scripts.{permits_of}
use Rattle.sf_actor_set.proofs.permits.permits_for.Given as goal

abbrev pub invariant-loop-script : goal.invariant-loop-script
invariant-loop-script l = l.permits ≡ permits_of (take l.script-index l.fn.scripts)

use Rattle.std.proofs.Common.{◌≡◌, length}
use Rattle.sf_compose.specs.inner.Solid.{CopiesBelow}
use Rattle.sf_compose.proofs.solid.copy_solid.Given as goal

abbrev pub invariant-loop-k : goal.invariant-loop-k
invariant-loop-k l = (length l.dst ≡ length l.src) × CopiesBelow l.k l.src l.dst

use Rattle.std.proofs.Common.{◌≡◌, ◌++◌}
use Rattle.sf_commit.specs.Leases.{pictures_here}
use Rattle.sf_commit.proofs.opening.gather.Given as goal

abbrev pub invariant-loop-reading : goal.invariant-loop-reading
invariant-loop-reading g l =
    (l.on.items ++ l.reading-iterator.rest.items ≡ l.fn.readings.items)
    × (l.pixels.rest.items ≡ pictures_here g.L.Lease l.reading-iterator.rest.items)

use Rattle.std.proofs.Common.{◌≡◌, ◌+◌, drop}
use Rattle.sf_base.specs.Fences.{open_from}
use Rattle.sf_base.proofs.fences.first_above.Given as goal

-- all timelines before the index are reached
abbrev pub invariant-loop-index : goal.invariant-loop-index
invariant-loop-index l = open_from 1 l.points.values l.seen.values ≡ open_from (l.index + 1) (drop l.index l.points.values) (drop l.index l.seen.values)

use Rattle.std.proofs.Common.{◌≡◌, ◌++◌, drop, take}
use Rattle.sf_commit.specs.OnLayers.{lent_from}
use Rattle.sf_commit.proofs.lending.mark_lent.Given as goal

abbrev pub invariant-loop-place : goal.invariant-loop-place
invariant-loop-place g l = l.reading-items ≡ lent_from 0 (take l.place l.fn.on.items) ++ drop l.place l.fn.on.items

use Rattle.std.proofs.Common.{◌≡◌, ◌++◌, drop, map, take}
use Rattle.sf_commit.specs.OnLayers.{at_hand}
use Rattle.sf_commit.proofs.lending.mark_at_hand.Given as goal

abbrev pub invariant-loop-reading : goal.invariant-loop-reading
invariant-loop-reading g l = l.reading-items ≡ map at_hand (take l.reading-index l.fn.on.items) ++ drop l.reading-index l.fn.on.items

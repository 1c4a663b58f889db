use Rattle.std.proofs.Common.{take}
use Rattle.sf_commit.specs.OnLayers.{AreOthers}
use Rattle.sf_commit.proofs.sources.index_of_shown.Given as goal

abbrev pub invariant-loop-place : goal.invariant-loop-place
invariant-loop-place g l = AreOthers l.fn.shown (take l.place l.fn.on)

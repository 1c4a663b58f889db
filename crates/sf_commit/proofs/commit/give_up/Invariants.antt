use Rattle.std.proofs.Common.{◌≡◌, ◌++◌, map}
use Rattle.sf_commit.specs.OnLayers.{brought}
use Rattle.sf_commit.proofs.commit.give_up.Given as goal

abbrev pub invariant-loop-buffer : goal.invariant-loop-buffer
invariant-loop-buffer g l = l.gone.items ++ map brought l.buffer-iterator.rest.items ≡ l.fn.gone.items ++ map brought l.fn.buffers.items

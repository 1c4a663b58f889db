use Rattle.std.proofs.Common.{◌++◌, drop}
use Rattle.sf_commit.specs.OnLayers.{gone_with, on_after}
use Rattle.sf_commit.proofs.ShownLemmas.{ShowsRest}
use Rattle.sf_commit.proofs.stage.show_all.Given as goal

-- what is left to do comes to what all comes to
abbrev pub invariant-loop-layer : goal.invariant-loop-layer
invariant-loop-layer g l =
    ShowsRest (on_after l.fn.on.items l.fn.ops l.fn.buffers.items) (l.fn.gone.items ++ gone_with l.fn.on.items l.fn.ops l.fn.buffers.items)
    (drop l.layer-index l.fn.ops) l.waiting.rest.items l.on.items l.gone.items

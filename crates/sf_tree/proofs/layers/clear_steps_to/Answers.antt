use Rattle.std.proofs.Common.{arith}
use Rattle.sf_tree.proofs.RemovedLayer.{cleared_more}
use Rattle.sf_tree.proofs.layers.clear_steps_to.Goals as goal

pub loop-layer-preserved : goal.loop-layer-preserved
loop-layer-preserved c =
    cleared_more c.args.id c.args.list.now c.loop-layer.list c.loop-layer.layer-index _ c.clear_steps.new.layer (omega arith) (omega arith) c.loop-layer.invariant c.clear_steps.ensures

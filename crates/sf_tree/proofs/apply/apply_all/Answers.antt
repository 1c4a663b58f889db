use Rattle.std.proofs.Common.{◌∙◌, arith}
use Rattle.sf_tree.proofs.JournalLemmas.{after_from-step}
use Rattle.sf_tree.proofs.apply.apply_all.Goals as goal

pub loop-operation-preserved : goal.loop-operation-preserved
loop-operation-preserved c = record {
  back = c.step.ensures.back c.args.layers.now c.loop-operation.invariant.back;
  same = after_from-step c.args.most c.loop-operation.operation-index c.args.ops.now _ c.loop-operation.layers c.step.new.layers c.loop-operation-test.true c.in-Ok.ensures.done ∙ c.loop-operation.invariant.same;
  counted = omega arith;
}

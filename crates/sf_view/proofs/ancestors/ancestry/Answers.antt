use Rattle.std.proofs.Common.{◌∙◌}
use Rattle.sf_view.proofs.AncestryLemmas.{ancestry_more}
use Rattle.sf_view.proofs.ancestors.ancestry.Goals as goal

pub loop-steps-preserved : goal.loop-steps-preserved
loop-steps-preserved c =
    rw (c.in_ok-push.ensures.items, c.parent_layer-next.ensures) (ancestry_more c.args.tree.now.layers c.loop-steps.list.items c.loop-steps.steps c.in-Some.layer c.loop-steps-test.true ∙ (rw c.in-Some.is at c.loop-steps.invariant))

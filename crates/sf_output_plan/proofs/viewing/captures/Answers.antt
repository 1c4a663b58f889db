use Rattle.std.proofs.Common.{refl, sym, ◌∙◌}
use Rattle.sf_output.specs.Outputs.{IsOutput}
use Rattle.sf_output_plan.specs.Due.{ShowsDue, capture_due}
use Rattle.sf_output_plan.proofs.DueLemmas.{cut_there, one_more}
use Rattle.sf_output_plan.proofs.viewing.captures.Goals as goal

pub loop-capture-preserved : goal.loop-capture-preserved
loop-capture-preserved c =
    one_more (IsOutput ShowsDue) (capture_due c.args.tree.now.layers) c.args.captures.now c.loop-capture.capture-index _ c.loop-capture.views.items c.push.new.self.items _ _
    c.loop-capture-test.true c.loop-capture.invariant (cut_there c.args.tree.now.layers _ c.in-Some.layers (sym c.in-Some.is ∙ c.in_ok-layers.ensures)) (refl, c.in_ok-view.ensures) c.in_ok-push.ensures.items

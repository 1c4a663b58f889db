use Rattle.std.proofs.Common.{refl}
use Rattle.sf_output.specs.Outputs.{IsOutput}
use Rattle.sf_output_plan.specs.Due.{ShowsDue, display_due}
use Rattle.sf_output_plan.proofs.DueLemmas.{map_more}
use Rattle.sf_output_plan.proofs.viewing.displays.Goals as goal

pub loop-display-preserved : goal.loop-display-preserved
loop-display-preserved c =
    map_more (IsOutput ShowsDue) (display_due c.args.stacks.now c.args.layers.now.layers) c.args.displays.now c.loop-display.display-index _ c.loop-display.views.items c.push.new.self.items _
    c.loop-display-test.true c.loop-display.invariant (refl, c.in_ok-view.ensures) c.in_ok-push.ensures.items

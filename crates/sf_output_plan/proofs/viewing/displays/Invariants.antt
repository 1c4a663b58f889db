use Rattle.std.proofs.Common.{map, take}
use Rattle.sf_output_plan.specs.Due.{AreShown, display_due}
use Rattle.sf_output_plan.proofs.viewing.displays.Given as goal

abbrev pub invariant-loop-display : goal.invariant-loop-display
invariant-loop-display l = AreShown (map (display_due l.stacks l.layers.layers) (take l.display-index l.displays)) l.views.items

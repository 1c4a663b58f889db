use Rattle.std.proofs.Common.{take}
use Rattle.std.specs.List.{flat_map}
use Rattle.sf_output_plan.specs.Due.{AreShown, capture_due}
use Rattle.sf_output_plan.proofs.viewing.captures.Given as goal

abbrev pub invariant-loop-capture : goal.invariant-loop-capture
invariant-loop-capture l = AreShown (flat_map (capture_due l.tree.layers) (take l.capture-index l.captures)) l.views.items

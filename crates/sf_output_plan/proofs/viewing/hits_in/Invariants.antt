use Rattle.std.proofs.Common.{List, map, take}
use Rattle.sf_display.specs.sf_layer.declared.layer.Layer.{Layer}
use Rattle.sf_output_plan.specs.Due.{AreShown, ShowsDue, frame_due, hit_due}
use Rattle.sf_output_plan.specs.declared.plan.Plan.{Plan}
use Rattle.sf_output_plan.proofs.viewing.hits_in.Given as goal

abbrev pub invariant-loop-test : goal.invariant-loop-test
invariant-loop-test l =
    (plan : Plan) (tree : List Layer) → ShowsDue (frame_due plan tree) l.view → AreShown (map (hit_due plan tree) (take l.test-index l.hits)) l.views.items

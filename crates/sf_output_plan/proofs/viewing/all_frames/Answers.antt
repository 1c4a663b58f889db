use Rattle.std.proofs.Common.{List, IfOk, map, subst, sym}
use Rattle.sf_display.specs.sf_layer.declared.layer.Layer.{Layer}
use Rattle.sf_output_plan.specs.Due.{AreShown, IsFrameDue, display_due}
use Rattle.sf_output_plan.proofs.DueLemmas.{unmirrored}
use Rattle.sf_output_plan.proofs.viewing.all_frames.Goals as goal

pub returns-then-has_no_mirrors-clause-frame : goal.returns-then-has_no_mirrors-clause-frame
returns-then-has_no_mirrors-clause-frame c =
    subst (λ (layers : List Layer). IfOk c.frames.result (λ due. IsFrameDue c.args.plan.now layers due.frame))
    (sym (unmirrored c.args.tree.now.layers c.args.plan.now.mirrors (c.has_no_mirrors.ensures.none c.if-has_no_mirrors.true))) c.frames.ensures.frame

pub returns-then-has_no_mirrors-clause-others : goal.returns-then-has_no_mirrors-clause-others
returns-then-has_no_mirrors-clause-others c =
    subst (λ (layers : List Layer). IfOk c.frames.result (λ due. AreShown (map (display_due c.args.plan.now.stacks layers) c.args.plan.now.displays) due.others.items))
    (sym (unmirrored c.args.tree.now.layers c.args.plan.now.mirrors (c.has_no_mirrors.ensures.none c.if-has_no_mirrors.true))) c.frames.ensures.others

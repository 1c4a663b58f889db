use Rattle.std.proofs.Common.{List, subst}
use Rattle.std.specs.List.{flat_map}
use Rattle.sf_output_plan.specs.Due.{AreShown, capture_due}
use Rattle.sf_output_plan.specs.declared.plan.CapturePlan.{CapturePlan}
use Rattle.sf_output_plan.proofs.DueLemmas.{others_made}
use Rattle.sf_output_plan.proofs.viewing.views_due.Goals as goal

pub returns-clause-others : goal.returns-clause-others
returns-clause-others c =
    others_made c.args.plan.now c.args.tree.now.layers c.in_ok-frame.field-0.others.items c.in_ok-captures.captures.items c.in_ok-hits.hits.items c.append.new.self.items c.append-2.new.self.items
    c.in_ok-frame.ensures.others
    (subst (λ (l : List CapturePlan). AreShown (flat_map (capture_due c.args.tree.now.layers) l) c.in_ok-captures.captures.items) c.as_slice.ensures c.in_ok-captures.ensures)
    c.in_ok-hits.ensures c.in_ok-append.ensures.items c.in_ok-append-2.ensures.items

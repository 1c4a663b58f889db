use Rattle.std.proofs.Common.{List, [], ◌∷◌, ◌++◌, ap, subst, ◌∙◌}
use Rattle.law_played.specs.sf_output.declared.output.Output.{Output}
use Rattle.law_played.specs.sf_output_plan.Due.{AreShown, IsFrameDue, others_due, outputs_due}
use Rattle.law_played.specs.sf_output_shown.Copies.{written}
use Rattle.law_played.specs.sf_tree.Kept.{IsDistinct}
use Rattle.law_played.specs.sf_tree.Trees.{TreeOf}
use Rattle.law_played.specs.sf_commit.OnLayers.{OnLayer}
use Rattle.sf_play_report.specs.declared.sourced.SourcedView.{SourcedView}
use Rattle.sf_play_report.proofs.SourceLemmas.{tree_on}
use Rattle.sf_play_report.proofs.StageLemmas.{all_found, all_made, all_readable, dues_of, others_on, own_frame, own_on, views_on}
use Rattle.sf_play_report.proofs.sourcing.sourced_views.Goals as goal

pub own_sourced-requires-clause-shows : goal.own_sourced-requires-clause-shows
own_sourced-requires-clause-shows g c =
    let tree = c.args.handler.now.tree.layers in
    let plan = c.args.plan.now in
    let distinct = subst (λ (t : TreeOf). IsDistinct t.layers) c.tree-tree.ensures.tree c.layers.ensures.kept.distinct in
    let all = tree_on c.args.handler.now.on tree c.requires.stands distinct in
    let due = subst (λ (t : TreeOf). IsFrameDue plan (written t.layers plan.mirrors) c.in_ok-frame.field-0.frame) c.tree-tree.ensures.tree c.in_ok-frame.ensures.frame in
    own_on c.args.handler.now.on plan tree c.in_ok-frame.field-0.frame all due

pub own_sourced-requires-clause-due : goal.own_sourced-requires-clause-due
own_sourced-requires-clause-due g c =
    subst (λ (t : TreeOf). IsFrameDue c.args.plan.now (written t.layers c.args.plan.now.mirrors) c.in_ok-frame.field-0.frame) c.tree-tree.ensures.tree c.in_ok-frame.ensures.frame

pub sourced_outputs-requires : goal.sourced_outputs-requires
sourced_outputs-requires g c =
    let tree = c.args.handler.now.tree.layers in
    let plan = c.args.plan.now in
    let distinct = subst (λ (t : TreeOf). IsDistinct t.layers) c.tree-tree.ensures.tree c.layers.ensures.kept.distinct in
    let all = tree_on c.args.handler.now.on tree c.requires.stands distinct in
    let others = subst (λ (t : TreeOf). AreShown (others_due plan t.layers) c.in_ok-frame.field-0.others.items) c.tree-tree.ensures.tree c.in_ok-frame.ensures.others in
    views_on c.args.handler.now.on (others_due plan tree) c.in_ok-frame.field-0.others.items (others_on c.args.handler.now.on plan tree all) others

pub returns-clause-views : goal.returns-clause-views
returns-clause-views g c =
    let tree = c.args.handler.now.tree.layers in
    let plan = c.args.plan.now in
    let others = subst (λ (t : TreeOf). AreShown (others_due plan t.layers) c.in_ok-frame.field-0.others.items) c.tree-tree.ensures.tree c.in_ok-frame.ensures.others in
    let made = all_made c.args.handler.now.on plan tree c.in_ok-frame-2.frame c.in_ok-frame.field-0.others.items c.in_ok-others.others.items c.append.new.self.items c.in_ok-frame-2.ensures others c.in_ok-others.ensures
    (c.in_ok-append.ensures.items ∙ ap (λ (l : List (Output SourcedView)). l ++ c.in_ok-others.others.items) (c.in_ok-push.ensures.items ∙ ap (λ (l : List (Output SourcedView)). l ++ own_frame c.in_ok-frame-2.frame ∷ []) c.new-views.ensures.items)) in
    record {
      due = dues_of c.args.handler.now.on (outputs_due plan tree) c.append.new.self.items made;
      readable = all_readable c.args.handler.now.on (λ (one : OnLayer g.row.L.Denot). g.L.Lease.picture one.lease) c.requires.crops (outputs_due plan tree) c.append.new.self.items made;
    }

pub returns-clause-found : goal.returns-clause-found
returns-clause-found g c = λ pictures expected.
    let tree = c.args.handler.now.tree.layers in
    let plan = c.args.plan.now in
    let others = subst (λ (t : TreeOf). AreShown (others_due plan t.layers) c.in_ok-frame.field-0.others.items) c.tree-tree.ensures.tree c.in_ok-frame.ensures.others in
    let made = all_made c.args.handler.now.on plan tree c.in_ok-frame-2.frame c.in_ok-frame.field-0.others.items c.in_ok-others.others.items c.append.new.self.items c.in_ok-frame-2.ensures others c.in_ok-others.ensures
    (c.in_ok-append.ensures.items ∙ ap (λ (l : List (Output SourcedView)). l ++ c.in_ok-others.others.items) (c.in_ok-push.ensures.items ∙ ap (λ (l : List (Output SourcedView)). l ++ own_frame c.in_ok-frame-2.frame ∷ []) c.new-views.ensures.items)) in
    all_found c.args.handler.now.on (λ (one : OnLayer g.row.L.Denot). g.L.Lease.picture one.lease) c.requires.crops pictures expected (outputs_due plan tree) c.append.new.self.items made

use Rattle.std.proofs.Common.{subst}
use Rattle.law_played.specs.sf_output_plan.Due.{IsFrameDue, frame_due}
use Rattle.law_played.specs.sf_output_shown.Copies.{written}
use Rattle.law_played.specs.sf_view.Views.{Views}
use Rattle.sf_play_report.specs.Stages.{AreSourcesOf, IsSourcedBy, IsSourcedDue}
use Rattle.sf_play_report.specs.declared.sourced.SourcedView.{SourcedView}
use Rattle.sf_play_report.proofs.StageLemmas.{if_both, if_ok, made_of, whole_due}
use Rattle.sf_play_report.proofs.sourcing.own_sourced.Goals as goal

pub returns-in-Some : goal.returns-in-Some
returns-in-Some g c =
    let on = c.args.handler.now.on in
    let plan = c.args.plan.now in
    let layers = written c.args.handler.now.tree.layers plan.mirrors in
    let due = subst (IsFrameDue plan layers) c.in-Some.is c.requires.due in
    if_ok (IsSourcedBy on c.in-Some.view) (IsSourcedDue on (frame_due plan layers)) c.sourced.result (λ made by. made_of on (frame_due plan layers) c.in-Some.view made due.1 by) c.sourced.ensures

pub returns-in-None : goal.returns-in-None
returns-in-None g c =
    let on = c.args.handler.now.on in
    let plan = c.args.plan.now in
    let tree = c.args.handler.now.tree.layers in
    let due = subst (IsFrameDue plan (written tree plan.mirrors)) c.in-None.is c.requires.due in
    if_both (λ (s : SourcedView). Views tree plan.width plan.height s.view) (λ (s : SourcedView). AreSourcesOf on s.view.drawn s.sources) (IsSourcedDue on (frame_due plan (written tree plan.mirrors))) c.whole_sourced.result
    (λ made views sources. whole_due on plan tree made due views sources) c.whole_sourced.ensures.views c.whole_sourced.ensures.sources

use Rattle.std.proofs.Common.{ap, sym, ◌∙◌}
use Rattle.sf_output.specs.Outputs.{IsOutput}
use Rattle.sf_play.specs.sf_output_plan.Due.{outputs_due}
use Rattle.sf_play.specs.sf_play_report.Stages.{shows_frame}
use Rattle.sf_play_write.specs.Vsyncs.{IsViewDue}
use Rattle.sf_play_write.proofs.VsyncLemmas.{if_ok, none_due, some_due}
use Rattle.sf_play_write.proofs.vsync.vsync_views.Goals as goal

pub returns-then-not-shows_frame-clause-due : goal.returns-then-not-shows_frame-clause-due
returns-then-not-shows_frame-clause-due g c =
    rw c.new.ensures.items (none_due (IsOutput IsViewDue) (shows_frame c.args.report.now.commits) (outputs_due c.args.plan.now c.args.handler.now.tree.layers) (sym (c.shows_frame.ensures ∙ ap shows_frame c.as_slice.ensures) ∙ c.if-not-shows_frame.true))

pub returns-clause-due : goal.returns-clause-due
returns-clause-due g c =
    if_ok _ _ c.sourced_views.result (λ views made. some_due (IsOutput IsViewDue) (shows_frame c.args.report.now.commits) (outputs_due c.args.plan.now c.args.handler.now.tree.layers) views.items (sym (c.shows_frame.ensures ∙ ap shows_frame c.as_slice.ensures) ∙ c.if-not-shows_frame.false) made.due) c.sourced_views.ensures.views

pub returns-clause-readable : goal.returns-clause-readable
returns-clause-readable g c = if_ok _ _ c.sourced_views.result (λ views made. made.readable) c.sourced_views.ensures.views

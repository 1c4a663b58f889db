use Rattle.std.proofs.Common.{ap, arith, ◌∙◌, subst, sym, OnErr, OnOk}
use Rattle.sf_live_compositor.specs.sf_commit.Handlers.{HandlerOf}
use Rattle.sf_live_compositor.specs.sf_surface.Tokens.{ReadLeaseOf}
use Rattle.sf_live_compositor.specs.sf_actor.Scripts.{picture_at}
use Rattle.sf_live_compositor.specs.sf_play.declared.action.Action.{Action}
use Rattle.sf_live_compositor.specs.sf_play_report.declared.report.VsyncReport.{VsyncReport}
use Rattle.sf_live_compositor.specs.sf_output_screen.ScreenLists.{AreShown}
use Rattle.sf_live_compositor.specs.sf_play_write.Vsyncs.{vsync_shown}
use Rattle.sf_live_compositor.specs.sf_play_write.Writing.{Writes, WritesPart}
use Rattle.sf_live_compositor.proofs.sf_play_write_lemmas.WritingLemmas.{writes_none}
use Rattle.sf_live.specs.inner.Rounds.{MayWriteAction, action_written, run_at}
use Rattle.sf_live.proofs.RoundLemmas.{cut_each, expected_told, no_fault, none_written, stage_told, written_each}
use Rattle.sf_live.proofs.rounds.write_action.Goals as goal

pub show_vsync-requires-clause-unlent : goal.show_vsync-requires-clause-unlent
show_vsync-requires-clause-unlent g c κs within = ap (λ (h : HandlerOf ReadLeaseOf). h.lent) c.handler.ensures.handler ∙ c.handler.ensures.unlent

pub show_vsync-requires-clause-stage : goal.show_vsync-requires-clause-stage
show_vsync-requires-clause-stage g c κs within =
    let tells = subst (λ (t : Action). MayWriteAction c.requires.may.0 c.args.shows.now.plan t c.args.player.now) c.in-Vsync.is c.requires.may.1 in
    stage_told c.requires.may.0 c.args.shows.now.plan c.args.player.now c.handler.result.now tells c.handler.ensures.handler

pub returns-in-Vsync : goal.returns-in-Vsync
returns-in-Vsync g c =
    let before = run_at g.K.Sink.taken g.K.Sink.faults c.args.sink.now c.args.screens.now c.args.player.now in
    let after = run_at g.K.Sink.taken g.K.Sink.faults c.show_vsync.new.sink c.show_vsync.new.screens c.args.player.now in
    record {
      ok = written_each c.show_vsync.result c.args.shows.now c.args.action before after (λ scene may shown.
          let tells = subst (λ (t : Action). MayWriteAction scene c.args.shows.now.plan t c.args.player.now) c.in-Vsync.is may in
          let wrote =
          subst (λ (r : VsyncReport). OnOk c.show_vsync.result (Writes (g.K.Sink.taken c.args.sink.now) (g.K.Sink.taken c.show_vsync.new.sink) (vsync_shown (picture_at scene.pictures) c.args.shows.now.plan c.args.shows.now.timelines.items r c.handler.result.now.tree.layers) × AreShown (picture_at scene.pictures) c.show_vsync.new.screens))
          c.into_report.ensures
          (c.show_vsync.ensures.ok (picture_at scene.pictures) (expected_told scene c.args.shows.now.plan c.args.player.now c.handler.result.now tells c.handler.ensures.handler) shown) in
          subst (λ (t : Action). OnOk c.show_vsync.result (Writes (g.K.Sink.taken c.args.sink.now) (g.K.Sink.taken c.show_vsync.new.sink) (action_written (picture_at scene.pictures) c.args.shows.now.plan c.args.shows.now.timelines.items c.args.player.now t)
          × AreShown (picture_at scene.pictures) c.show_vsync.new.screens)) (sym c.in-Vsync.is) (rw c.handler.ensures.handler at wrote));
      err = cut_each c.show_vsync.result c.args.shows.now c.args.action before after (λ scene may shown.
          let tells = subst (λ (t : Action). MayWriteAction scene c.args.shows.now.plan t c.args.player.now) c.in-Vsync.is may in
          let cut =
          subst (λ (r : VsyncReport). OnErr c.show_vsync.result (WritesPart (g.K.Sink.taken c.args.sink.now) (g.K.Sink.taken c.show_vsync.new.sink) (vsync_shown (picture_at scene.pictures) c.args.shows.now.plan c.args.shows.now.timelines.items r c.handler.result.now.tree.layers)))
          c.into_report.ensures
          (c.show_vsync.ensures.err (picture_at scene.pictures) (expected_told scene c.args.shows.now.plan c.args.player.now c.handler.result.now tells c.handler.ensures.handler) shown) in
          subst (λ (t : Action). OnErr c.show_vsync.result (WritesPart (g.K.Sink.taken c.args.sink.now) (g.K.Sink.taken c.show_vsync.new.sink) (action_written (picture_at scene.pictures) c.args.shows.now.plan c.args.shows.now.timelines.items c.args.player.now t)))
          (sym c.in-Vsync.is) (rw c.handler.ensures.handler at cut));
      later = c.show_vsync.ensures.ended.later;
      failed = c.show_vsync.ensures.ended.failed;
    }

pub returns-in-Step : goal.returns-in-Step
returns-in-Step g c = record {
  ok = λ scene may shown. (
    subst (Writes (g.K.Sink.taken c.args.sink.now) (g.K.Sink.taken c.args.sink.now)) (none_written (picture_at scene.pictures) c.args.shows.now.plan c.args.shows.now.timelines.items c.args.player.now c.args.action c.in-Step.is)
        (writes_none (g.K.Sink.taken c.args.sink.now)),
    shown,
  );
  err = tt;
  later = omega arith;
  failed = λ is. absurd (no_fault is);
}

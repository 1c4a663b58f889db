use Rattle.std.proofs.Common.{List, arith, get_or, ◌∙◌, ap, subst, sym, OnErr, OnOk}
use Rattle.sf_play.specs.sf_actor.Scripts.{picture_at}
use Rattle.sf_play.specs.sf_record.declared.record.Record.{Record}
use Rattle.sf_play.specs.sf_actor_steps.declared.actor.Actor.{Actor}
use Rattle.sf_play.specs.sf_actor_set.ActorSets.{ActorSetOf}
use Rattle.sf_play.specs.declared.action.Action.{Action}
use Rattle.sf_play.specs.sf_commit.Handlers.{HandlerOf}
use Rattle.sf_play.specs.sf_output_plan.declared.plan.Plan.{Plan}
use Rattle.sf_play.specs.Playing.{expected_by}
use Rattle.sf_play.specs.sf_play_report.Stages.{AreExpected, IsStage}
use Rattle.sf_play.specs.sf_play_report.declared.report.VsyncReport.{VsyncReport}
use Rattle.sf_output_screen.specs.ScreenLists.{AreShown}
use Rattle.sf_play.specs.sf_surface.Tokens.{ReadLeaseOf}
use Rattle.sf_play_write.specs.Vsyncs.{vsync_shown}
use Rattle.sf_play_write.specs.inner.Rows.{MayShowAction, newest_shown, action_shown}
use Rattle.sf_play_write.specs.Writing.{Writes, WritesPart}
use Rattle.sf_play_write.proofs.ActionLemmas.{actor_at, cut_each, written_each}
use Rattle.sf_play_write.proofs.VsyncLemmas.{with_more}
use Rattle.sf_play_write.proofs.WritingLemmas.{writes_none}
use Rattle.sf_play_write.proofs.play.write_action.Goals as goal

pub show_vsync-requires-clause-stage : goal.show_vsync-requires-clause-stage
show_vsync-requires-clause-stage g c = λ lives outlives.
    let tells = subst (λ (t : Action). MayShowAction c.requires.may.0 t c.args.player.now) c.in-Vsync.is c.requires.may.2 in
    subst (λ (h : HandlerOf ReadLeaseOf). IsStage expected_by c.args.shows.now.plan h) (sym c.handler.ensures.handler)
    (subst (λ (p : Plan). IsStage expected_by p c.args.player.now.play.handler) (sym c.requires.may.1) tells.stage)

pub returns-in-Step : goal.returns-in-Step
returns-in-Step g c =
    let result = c.write_newest.result in
    let player = c.args.player.now in
    let old = g.K.Sink.taken c.args.sink.now in
    let new = g.K.Sink.taken c.write_newest.new.sink in
    let actor = c.index-actors-place.result in
    let actors = c.actors.ensures ∙ ap (λ (actor_set : ActorSetOf g.row.B.Denot). actor_set.actors) c.actor_set.ensures in
    let item = c.index-actors-place.is ∙ ap (λ (xs : List (Actor g.row.B.Denot)). get_or xs c.in-Step.place actor) actors in
    record {
      ok = written_each result c.args.shows.now player c.args.action old new c.args.screens.now c.args.screens.now (λ scene may shown.
          let newest =
          ap newest_shown c.replies.ensures ∙ actor_at player.play.actor_set.actors c.in-Step.place actor (subst (λ (t : Action). MayShowAction scene t player) c.in-Step.is may) item
          ∙ ap (action_shown (picture_at scene.pictures) c.args.shows.now player.play) (sym c.in-Step.is) in
          with_more _ _ result (subst (λ (rs : List Record). OnOk result (Writes old new rs)) newest c.write_newest.ensures.ok) shown);
      err = cut_each result c.args.shows.now player c.args.action old new c.args.screens.now (λ scene may shown.
          let newest =
          ap newest_shown c.replies.ensures ∙ actor_at player.play.actor_set.actors c.in-Step.place actor (subst (λ (t : Action). MayShowAction scene t player) c.in-Step.is may) item
          ∙ ap (action_shown (picture_at scene.pictures) c.args.shows.now player.play) (sym c.in-Step.is) in
          subst (λ (rs : List Record). OnErr result (WritesPart old new rs)) newest c.write_newest.ensures.err);
      later = c.write_newest.ensures.later;
      failed = c.write_newest.ensures.failed;
    }

pub returns-in-Idle : goal.returns-in-Idle
returns-in-Idle g c = record {
  ok = λ scene may shown. (
    subst (λ (t : Action). Writes (g.K.Sink.taken c.args.sink.now) (g.K.Sink.taken c.args.sink.now) (action_shown (picture_at scene.pictures) c.args.shows.now c.args.player.now.play t))
        (sym c.in-Idle.is) (writes_none (g.K.Sink.taken c.args.sink.now)),
    shown,
  );
  err = tt;
  later = omega arith;
  failed = λ fails. absurd (cc fails);
}

pub returns-in-End : goal.returns-in-End
returns-in-End g c = record {
  ok = λ scene may shown. (
    subst (λ (t : Action). Writes (g.K.Sink.taken c.args.sink.now) (g.K.Sink.taken c.args.sink.now) (action_shown (picture_at scene.pictures) c.args.shows.now c.args.player.now.play t))
        (sym c.in-End.is) (writes_none (g.K.Sink.taken c.args.sink.now)),
    shown,
  );
  err = tt;
  later = omega arith;
  failed = λ fails. absurd (cc fails);
}

pub returns-in-Vsync : goal.returns-in-Vsync
returns-in-Vsync g c =
    let result = c.show_vsync.result in
    let shows = c.args.shows.now in
    let player = c.args.player.now in
    let old = g.K.Sink.taken c.args.sink.now in
    let new = g.K.Sink.taken c.show_vsync.new.sink in
    record {
      ok = written_each result shows player c.args.action old new c.args.screens.now c.show_vsync.new.screens (λ scene may shown.
          let tells = subst (λ (t : Action). MayShowAction scene t player) c.in-Vsync.is may in
          let expected = subst (λ (h : HandlerOf ReadLeaseOf). AreExpected expected_by (picture_at scene.pictures) h) (sym c.handler.ensures.handler) tells.expected in
          subst (λ (t : Action). OnOk result (Writes old new (action_shown (picture_at scene.pictures) shows player.play t) × AreShown (picture_at scene.pictures) c.show_vsync.new.screens))
          (sym c.in-Vsync.is)
          (subst (λ (h : HandlerOf ReadLeaseOf). OnOk result (Writes old new (vsync_shown (picture_at scene.pictures) shows.plan shows.timelines.items c.in-Vsync.report h.tree.layers)
          × AreShown (picture_at scene.pictures) c.show_vsync.new.screens)) c.handler.ensures.handler
          (subst (λ (r : VsyncReport). OnOk result (Writes old new (vsync_shown (picture_at scene.pictures) shows.plan shows.timelines.items r c.handler.result.now.tree.layers)
          × AreShown (picture_at scene.pictures) c.show_vsync.new.screens)) c.into_report.ensures (c.show_vsync.ensures.ok (picture_at scene.pictures) expected shown))));
      err = cut_each result shows player c.args.action old new c.args.screens.now (λ scene may shown.
          let tells = subst (λ (t : Action). MayShowAction scene t player) c.in-Vsync.is may in
          let expected = subst (λ (h : HandlerOf ReadLeaseOf). AreExpected expected_by (picture_at scene.pictures) h) (sym c.handler.ensures.handler) tells.expected in
          subst (λ (t : Action). OnErr result (WritesPart old new (action_shown (picture_at scene.pictures) shows player.play t))) (sym c.in-Vsync.is)
          (subst (λ (h : HandlerOf ReadLeaseOf). OnErr result (WritesPart old new (vsync_shown (picture_at scene.pictures) shows.plan shows.timelines.items c.in-Vsync.report h.tree.layers)))
          c.handler.ensures.handler
          (subst (λ (r : VsyncReport). OnErr result (WritesPart old new (vsync_shown (picture_at scene.pictures) shows.plan shows.timelines.items r c.handler.result.now.tree.layers)))
          c.into_report.ensures (c.show_vsync.ensures.err (picture_at scene.pictures) expected shown))));
      later = c.show_vsync.ensures.ended.later;
      failed = c.show_vsync.ensures.ended.failed;
    }

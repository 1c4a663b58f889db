use Rattle.std.proofs.Common.{List, ◌∙◌, refl, subst, sym}
use Rattle.sf_output_screen.specs.declared.screens.OutputScreen.{OutputScreen}
use Rattle.sf_play_write.specs.Showing.{written_at}
use Rattle.sf_play_write.specs.inner.Rows.{IsWriting}
use Rattle.sf_play_write.proofs.ActionLemmas.{action_cut, action_ends, cut_so_far, goes_on, leaves_less, may_show, timelines_within}
use Rattle.sf_play_write.proofs.ClosingLemmas.{few_steps}
use Rattle.sf_play_write.proofs.RunLemmas.{first_cut, has_begun, run_cut, run_written}
use Rattle.sf_play_write.proofs.WritingLemmas.{part_whole, still_later}
use Rattle.sf_play_write.proofs.WroteLemmas.{rose_since}
use Rattle.sf_play_write.proofs.play.write_play.Goals as goal

pub returns-in-Err : goal.returns-in-Err
returns-in-Err g c = λ scene ready.
    let wrote = c.in-Err.ensures.wrote c.args.first refl in
    record {
      ok = tt;
      err = first_cut g.B.TableName.table scene c.args.shows.now c.args.first c.args.player.now ready _ _ wrote.err;
      later = wrote.later;
      failed = wrote.failed;
    }

pub actions-init : goal.actions-init
actions-init g c = record {
  writing = λ scene ready.
      subst (λ (screens : List OutputScreen). IsWriting g.B.TableName.table scene c.args.shows.now (g.K.Sink.taken c.args.sink.now) (written_at (g.K.Sink.taken c.write_made.new.sink) screens c.args.player.now)) (sym c.new-screens.ensures)
      (has_begun g.B.TableName.table scene c.args.shows.now c.args.first c.args.player.now ready _ _ (c.in-Ok.ensures.wrote c.args.first refl).ok);
  later = c.write_made.ensures.later;
}

pub returns-in-Err-next : goal.returns-in-Err-next
returns-in-Err-next g c = λ scene ready.
    let w = c.actions.invariant.writing scene ready in
    record {
      ok = tt;
      err = cut_so_far g.B.TableName.table scene (g.K.Sink.taken c.args.sink.now) _ w.so c.actions.player w.stands (part_whole _ _ _ w.written);
      later = c.actions.invariant.later;
      failed = λ fails. absurd (cc fails);
    }

pub write_action-requires-clause-timelines : goal.write_action-requires-clause-timelines
write_action-requires-clause-timelines g c = λ lives outlives.
    let w = c.actions.invariant.writing c.requires.ready.0 c.requires.ready.1 in
    timelines_within c.requires.ready.0 c.args.shows.now.timelines.items w.stands.in_run.stands.stands.of_scene.limits w.asked.rising

pub write_action-requires-clause-may : goal.write_action-requires-clause-may
write_action-requires-clause-may g c = λ lives outlives.
    let w = c.actions.invariant.writing c.requires.ready.0 c.requires.ready.1 in
    (c.requires.ready.0, w.asked.planned, may_show g.B.TableName.table c.requires.ready.0 w.so c.in-Ok-next.action c.next.new.self (c.in-Ok-next.ensures.along c.requires.ready.0 w.so w.stands))

pub returns-in-Err-write_action : goal.returns-in-Err-write_action
returns-in-Err-write_action g c = λ scene ready.
    let w = c.actions.invariant.writing scene ready in
    let goes = c.in-Ok-next.ensures.along scene w.so w.stands in
    let may = may_show g.B.TableName.table scene w.so c.in-Ok-next.action c.next.new.self goes in
    record {
      ok = tt;
      err = action_cut g.B.TableName.table scene c.args.shows.now _ _ (written_at (g.K.Sink.taken c.actions.sink) c.actions.screens c.actions.player) c.next.new.self c.in-Ok-next.action w goes
          (c.in-Err-write_action.ensures.err scene may w.shown);
      later = still_later _ _ _ c.actions.invariant.later c.write_action.ensures.later;
      failed = λ fails. rose_since _ _ _ c.actions.invariant.later (c.in-Err-write_action.ensures.failed fails);
    }

pub write_closing-requires : goal.write_closing-requires
write_closing-requires g c =
    let w = c.actions.invariant.writing c.requires.ready.0 c.requires.ready.1 in
    let goes = c.in-Ok-next.ensures.along c.requires.ready.0 w.so w.stands in
    few_steps g.B.TableName.table c.requires.ready.0 goes.later c.next.new.self goes.stands.in_run

pub returns-then-is_last : goal.returns-then-is_last
returns-then-is_last g c = λ scene ready.
    let w = c.actions.invariant.writing scene ready in
    let goes = c.in-Ok-next.ensures.along scene w.so w.stands in
    let now = c.in-Ok-write_action.ensures.ok scene (may_show g.B.TableName.table scene w.so c.in-Ok-next.action c.next.new.self goes) w.shown in
    let has = action_ends g.B.TableName.table scene c.args.shows.now _ (written_at (g.K.Sink.taken c.actions.sink) c.actions.screens c.actions.player)
    (written_at (g.K.Sink.taken c.write_action.new.sink) c.write_action.new.screens c.next.new.self) c.in-Ok-next.action w goes now.0 now.1 (sym c.is_end-is_last.ensures ∙ c.if-is_last.true) in
    let later = still_later _ _ _ c.actions.invariant.later c.write_action.ensures.later in
    record {
      ok = run_written g.B.TableName.table scene _ _ _ c.next.new.self has c.write_closing.result c.write_closing.ensures.ok;
      err = run_cut g.B.TableName.table scene _ _ _ c.next.new.self has c.write_closing.result c.write_closing.ensures.err;
      later = still_later _ _ _ later c.write_closing.ensures.later;
      failed = λ fails. rose_since _ _ _ later (c.write_closing.ensures.failed fails);
    }

pub actions-preserved : goal.actions-preserved
actions-preserved g c = record {
  writing = λ scene ready.
      let w = c.actions.invariant.writing scene ready in
      let goes = c.in-Ok-next.ensures.along scene w.so w.stands in
      let now = c.in-Ok-write_action.ensures.ok scene (may_show g.B.TableName.table scene w.so c.in-Ok-next.action c.next.new.self goes) w.shown in
      goes_on g.B.TableName.table scene c.args.shows.now _ (written_at (g.K.Sink.taken c.actions.sink) c.actions.screens c.actions.player)
      (written_at (g.K.Sink.taken c.write_action.new.sink) c.write_action.new.screens c.next.new.self) c.in-Ok-next.action w goes now.0 now.1;
  later = still_later _ _ _ c.actions.invariant.later c.write_action.ensures.later;
}

pub actions-smaller : goal.actions-smaller
actions-smaller g c = leaves_less c.in-Ok-next.action c.actions.player c.next.new.self c.in-Ok-next.ensures.less (sym c.is_end-is_last.ensures ∙ c.if-is_last.false)

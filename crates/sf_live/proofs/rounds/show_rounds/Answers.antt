use Rattle.std.proofs.Common.{Bool, Err, ◌∙◌, ap, subst}
use Rattle.sf_live_compositor.proofs.FaultCounts.{err_fault, rose_since}
use Rattle.sf_live_compositor.proofs.sf_play_write_lemmas.WritingLemmas.{still_later}
use Rattle.sf_live.specs.inner.Rounds.{ShowsOn}
use Rattle.sf_live.proofs.RoundLemmas.{no_fault}
use Rattle.sf_live.proofs.rounds.show_rounds.Goals as goal

pub returns-in-Ok-false-clause-ended : goal.returns-in-Ok-false-clause-ended
returns-in-Ok-false-clause-ended g c = record {
  ok = λ scene start has.
      subst (λ (b : Bool). ShowsOn b g.B.TableName.table scene c.args.shows.now.plan c.args.shows.now.timelines.items start (g.K.Sink.taken c.show_action.new.sink) c.show_action.new.screens c.show_action.new.run.player)
      c.in-Ok-false.field-0-test
      (c.in-Ok-false.ensures.ended.ok scene start (c.actions.invariant.0 scene start has));
  err = tt;
  later = still_later _ _ _ c.actions.invariant.2 c.show_action.ensures.ended.later;
  failed = λ is. absurd (no_fault is);
}

pub actions-preserved : goal.actions-preserved
actions-preserved g c = (
  λ scene start has.
      subst (λ (b : Bool). ShowsOn b g.B.TableName.table scene c.args.shows.now.plan c.args.shows.now.timelines.items start (g.K.Sink.taken c.show_action.new.sink) c.show_action.new.screens c.show_action.new.run.player)
      c.in-Ok-true.field-0-test
      (c.in-Ok-true.ensures.ended.ok scene start (c.actions.invariant.0 scene start has)),
  c.in-Ok-true.ensures.gates,
  still_later _ _ _ c.actions.invariant.2 c.show_action.ensures.ended.later,
  c.in-Ok-true.ensures.told ∙ c.actions.invariant.3,
)

pub show_action-requires-clause-shown : goal.show_action-requires-clause-shown
show_action-requires-clause-shown g c = λ lives outlives.
    (c.requires.shown.0, c.requires.shown.1, c.actions.invariant.0 c.requires.shown.0 c.requires.shown.1 c.requires.shown.2)

pub returns-in-Err-clause-ended : goal.returns-in-Err-clause-ended
returns-in-Err-clause-ended g c = record {
  ok = tt;
  err = λ tells scene start has. c.in-Err.ensures.ended.err tells scene start (c.actions.invariant.0 scene start has);
  later = still_later _ _ _ c.actions.invariant.2 c.show_action.ensures.ended.later;
  failed = λ is. rose_since _ _ _ c.actions.invariant.2 (c.in-Err.ensures.ended.failed (ap Err (err_fault c.in-Err.fault is)));
}

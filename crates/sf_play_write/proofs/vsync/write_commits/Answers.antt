use Rattle.sf_play.specs.sf_record.declared.record.Record.TheVariants as rec
use Rattle.sf_play.specs.law_played.Commits.{commit_shown}
use Rattle.sf_play_write.proofs.WroteLemmas.{wrote_each, wrote_each_cut, wrote_none}
use Rattle.sf_play_write.proofs.vsync.write_commits.Goals as goal

pub loop-commit-init : goal.loop-commit-init
loop-commit-init g c = wrote_none g.K.Sink.taken g.K.Sink.faults c.args.sink.now

pub returns-in-Err : goal.returns-in-Err
returns-in-Err g c =
    wrote_each_cut g.K.Sink.taken g.K.Sink.faults commit_shown rec.Comm _ _ _ c.args.commits.now c.loop-commit.commit-index c.commit-item.result c.loop-commit-test.true c.commit-item.is
    c.loop-commit.invariant c.in-Err.fault (c.in-Err.ensures.wrote (rec.Comm (commit_shown c.commit-item.result)) c.commit_record-made.ensures)

pub loop-commit-preserved : goal.loop-commit-preserved
loop-commit-preserved g c =
    wrote_each g.K.Sink.taken g.K.Sink.faults commit_shown rec.Comm _ _ _ c.args.commits.now c.loop-commit.commit-index c.commit-item.result c.loop-commit-test.true c.commit-item.is
    c.loop-commit.invariant (c.in-Ok.ensures.wrote (rec.Comm (commit_shown c.commit-item.result)) c.commit_record-made.ensures)

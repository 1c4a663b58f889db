use Rattle.std.proofs.Common.{Ok, map, take}
use Rattle.sf_play.specs.sf_record.declared.record.Record.TheVariants as rec
use Rattle.sf_play.specs.law_played.Commits.{commit_shown}
use Rattle.sf_play_write.specs.Writing.{Wrote}
use Rattle.sf_play_write.proofs.vsync.write_commits.Given as goal

abbrev pub invariant-loop-commit : goal.invariant-loop-commit
invariant-loop-commit g l =
    Wrote {A = Unit {0}} g.K.Sink.taken g.K.Sink.faults l.initial.sink l.sink (Ok tt) (map rec.Comm (map commit_shown (take l.commit-index l.fn.commits)))

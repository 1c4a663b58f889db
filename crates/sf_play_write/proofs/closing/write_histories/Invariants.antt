use Rattle.std.proofs.Common.{Ok, map, take}
use Rattle.sf_play.specs.sf_record.declared.record.Record.TheVariants as rec
use Rattle.sf_play.specs.sf_play_report.Closings.{history_of}
use Rattle.sf_play_write.specs.Writing.{Wrote}
use Rattle.sf_play_write.proofs.closing.write_histories.Given as goal

abbrev pub invariant-loop-queue : goal.invariant-loop-queue
invariant-loop-queue g l =
    Wrote {A = Unit {0}} g.K.Sink.taken g.K.Sink.faults l.initial.sink l.sink (Ok tt) (map rec.Hist (map history_of (take l.queue-index l.fn.queues)))

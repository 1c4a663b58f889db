use Rattle.sf_play.specs.sf_record.declared.record.Record.TheVariants as rec
use Rattle.sf_play.specs.sf_play_report.Closings.{history_of}
use Rattle.sf_play_write.proofs.WroteLemmas.{wrote_each, wrote_each_cut, wrote_none}
use Rattle.sf_play_write.proofs.closing.write_histories.Goals as goal

pub loop-queue-init : goal.loop-queue-init
loop-queue-init g c = wrote_none g.K.Sink.taken g.K.Sink.faults c.args.sink.now

pub returns-in-Err : goal.returns-in-Err
returns-in-Err g c =
    wrote_each_cut g.K.Sink.taken g.K.Sink.faults history_of rec.Hist _ _ _ c.args.queues.now c.loop-queue.queue-index c.queue-item.result c.loop-queue-test.true c.queue-item.is
    c.loop-queue.invariant c.in-Err.fault (c.in-Err.ensures.wrote (rec.Hist (history_of c.queue-item.result)) c.history_record-made.ensures)

pub loop-queue-preserved : goal.loop-queue-preserved
loop-queue-preserved g c =
    wrote_each g.K.Sink.taken g.K.Sink.faults history_of rec.Hist _ _ _ c.args.queues.now c.loop-queue.queue-index c.queue-item.result c.loop-queue-test.true c.queue-item.is
    c.loop-queue.invariant (c.in-Ok.ensures.wrote (rec.Hist (history_of c.queue-item.result)) c.history_record-made.ensures)

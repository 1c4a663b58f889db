use Rattle.sf_live_compositor.specs.sf_record.declared.record.Record.TheVariants as rec
use Rattle.sf_live_compositor.specs.law_played.Replies.{reply_shown}
use Rattle.sf_live_compositor.proofs.sf_play_write_lemmas.WroteLemmas.{wrote_each, wrote_each_cut, wrote_none}
use Rattle.sf_live.proofs.rounds.write_each_reply.Goals as goal

pub loop-reply-init : goal.loop-reply-init
loop-reply-init g c = wrote_none g.K.Sink.taken g.K.Sink.faults c.args.sink.now

pub returns-in-Err : goal.returns-in-Err
returns-in-Err g c =
    wrote_each_cut g.K.Sink.taken g.K.Sink.faults reply_shown rec.Repl _ _ _ c.args.replies.now c.loop-reply.reply-index c.reply-item.result c.loop-reply-test.true c.reply-item.is
    c.loop-reply.invariant c.in-Err.fault (c.in-Err.ensures.wrote (rec.Repl (reply_shown c.reply-item.result)) c.reply_record.ensures)

pub loop-reply-preserved : goal.loop-reply-preserved
loop-reply-preserved g c =
    wrote_each g.K.Sink.taken g.K.Sink.faults reply_shown rec.Repl _ _ _ c.args.replies.now c.loop-reply.reply-index c.reply-item.result c.loop-reply-test.true c.reply-item.is
    c.loop-reply.invariant (c.in-Ok.ensures.wrote (rec.Repl (reply_shown c.reply-item.result)) c.reply_record.ensures)

use Rattle.std.proofs.Common.{Ok, map, take}
use Rattle.sf_live_compositor.specs.sf_record.declared.record.Record.TheVariants as rec
use Rattle.sf_live_compositor.specs.law_played.Replies.{reply_shown}
use Rattle.sf_live_compositor.specs.sf_play_write.Writing.{Wrote}
use Rattle.sf_live.proofs.rounds.write_each_reply.Given as goal

abbrev pub invariant-loop-reply : goal.invariant-loop-reply
invariant-loop-reply g l =
    Wrote {A = Unit {0}} g.K.Sink.taken g.K.Sink.faults l.initial.sink l.sink (Ok tt) (map rec.Repl (map reply_shown (take l.reply-index l.fn.replies)))

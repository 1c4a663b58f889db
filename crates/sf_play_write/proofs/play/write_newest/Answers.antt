use Rattle.std.proofs.Common.{Ok, subst}
use Rattle.sf_play.specs.sf_record.declared.record.Record.TheVariants as rec
use Rattle.sf_play.specs.law_played.Replies.{reply_shown}
use Rattle.sf_play_write.specs.Writing.{Wrote}
use Rattle.sf_play_write.proofs.ActionLemmas.{newest_at, none_newest}
use Rattle.sf_play_write.proofs.WroteLemmas.{wrote_none}
use Rattle.sf_play_write.proofs.play.write_newest.Goals as goal

pub returns-in-empty : goal.returns-in-empty
returns-in-empty g c =
    subst (Wrote {A = Unit {0}} g.K.Sink.taken g.K.Sink.faults c.args.sink.now c.args.sink.now (Ok tt)) (none_newest c.args.replies.now c.in-empty.len_below)
    (wrote_none g.K.Sink.taken g.K.Sink.faults c.args.sink.now)

pub returns-in-len1-up : goal.returns-in-len1-up
returns-in-len1-up g c =
    subst (Wrote g.K.Sink.taken g.K.Sink.faults c.args.sink.now c.write_made.new.sink c.write_made.result)
    (newest_at c.args.replies.now c.newest-item.result c.in-len1-up.len_at_least c.newest-item.is)
    (c.write_made.ensures.wrote (rec.Repl (reply_shown c.newest-item.result)) c.reply_record.ensures)

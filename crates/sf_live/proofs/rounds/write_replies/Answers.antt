use Rattle.std.proofs.Common.{List, Ok, Err, map, subst}
use Rattle.sf_live_compositor.specs.sf_actor.declared.tried.Reply.{Reply}
use Rattle.sf_live_compositor.specs.sf_record.declared.record.Record.TheVariants as rec
use Rattle.sf_live_compositor.specs.law_played.Replies.{reply_shown}
use Rattle.sf_live_compositor.specs.sf_play_write.Writing.{Wrote}
use Rattle.sf_live_compositor.proofs.sf_play_write_lemmas.WroteLemmas.{wrote_none}
use Rattle.sf_live.specs.inner.Rounds.{reply_records}
use Rattle.sf_live.proofs.EndLemmas.{pieces_cut, pieces_more}
use Rattle.sf_live.proofs.rounds.write_replies.Goals as goal

pub loop-actor-init : goal.loop-actor-init
loop-actor-init g c = wrote_none g.K.Sink.taken g.K.Sink.faults c.args.sink.now

pub returns-in-Err : goal.returns-in-Err
returns-in-Err g c =
    pieces_cut g.K.Sink.taken g.K.Sink.faults (reply_records {B = g.row.B.Denot}) _ _ _ c.args.actors.now c.loop-actor.actor-index c.actor-item.result c.loop-actor-test.true c.actor-item.is
    c.loop-actor.invariant c.in-Err.fault
    (subst (λ (replies : List Reply). Wrote {A = Unit {0}} g.K.Sink.taken g.K.Sink.faults c.loop-actor.sink c.write_each_reply.new.sink (Err c.in-Err.fault) (map rec.Repl (map reply_shown replies))) c.replies.ensures
    c.in-Err.ensures)

pub loop-actor-preserved : goal.loop-actor-preserved
loop-actor-preserved g c =
    pieces_more g.K.Sink.taken g.K.Sink.faults (reply_records {B = g.row.B.Denot}) _ _ _ c.args.actors.now c.loop-actor.actor-index c.actor-item.result c.loop-actor-test.true c.actor-item.is
    c.loop-actor.invariant
    (subst (λ (replies : List Reply). Wrote {A = Unit {0}} g.K.Sink.taken g.K.Sink.faults c.loop-actor.sink c.write_each_reply.new.sink (Ok tt) (map rec.Repl (map reply_shown replies))) c.replies.ensures
    c.in-Ok.ensures)

use Rattle.std.proofs.Common.{Ok, take}
use Rattle.sf_live_compositor.specs.sf_play_write.Writing.{Wrote}
use Rattle.sf_live.specs.inner.Rounds.{all_reply_records}
use Rattle.sf_live.proofs.rounds.write_replies.Given as goal

abbrev pub invariant-loop-actor : goal.invariant-loop-actor
invariant-loop-actor g l =
    Wrote {A = Unit {0}} g.K.Sink.taken g.K.Sink.faults l.initial.sink l.sink (Ok tt) (all_reply_records (take l.actor-index l.fn.actors))

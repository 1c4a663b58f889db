use Rattle.std.proofs.Common.{List, Ok, Err, ◌∙◌, ap, subst}
use Rattle.sf_live_compositor.specs.sf_actor_steps.declared.actor.Actor.{Actor}
use Rattle.sf_live_compositor.specs.sf_actor_set.ActorSets.{ActorSetOf}
use Rattle.sf_live_compositor.specs.sf_play_write.Closings.{closing_of}
use Rattle.sf_live_compositor.specs.sf_play_write.Writing.{Wrote}
use Rattle.sf_live_compositor.proofs.sf_play_write_lemmas.WroteLemmas.{wrote_cut, wrote_then}
use Rattle.sf_live.specs.inner.Rounds.{all_reply_records}
use Rattle.sf_live.proofs.rounds.write_rest.Goals as goal

pub returns-in-Err : goal.returns-in-Err
returns-in-Err g c =
    let player = c.args.player.now in
    let actors = c.actors.ensures ∙ ap (λ (actor_set : ActorSetOf g.row.B.Denot). actor_set.actors) c.actor_set.ensures in
    wrote_cut g.K.Sink.taken g.K.Sink.faults _ _ c.in-Err.fault (all_reply_records player.play.actor_set.actors) (closing_of player)
    (subst (λ (xs : List (Actor g.row.B.Denot)). Wrote {A = Unit {0}} g.K.Sink.taken g.K.Sink.faults c.args.sink.now c.write_replies.new.sink (Err c.in-Err.fault) (all_reply_records xs)) actors c.in-Err.ensures)

pub returns : goal.returns
returns g c =
    let player = c.args.player.now in
    let actors = c.actors.ensures ∙ ap (λ (actor_set : ActorSetOf g.row.B.Denot). actor_set.actors) c.actor_set.ensures in
    wrote_then g.K.Sink.taken g.K.Sink.faults _ _ _ _ (all_reply_records player.play.actor_set.actors) (closing_of player)
    (subst (λ (xs : List (Actor g.row.B.Denot)). Wrote {A = Unit {0}} g.K.Sink.taken g.K.Sink.faults c.args.sink.now c.write_replies.new.sink (Ok tt) (all_reply_records xs)) actors c.in-Ok.ensures)
    c.write_closing.ensures

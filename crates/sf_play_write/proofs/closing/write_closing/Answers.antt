use Rattle.std.proofs.Common.{◌≡◌, ℕ, List, [], ◌∷◌, ◌++◌, map, ap, ◌∙◌, subst, Ok, Err}
use Rattle.std.specs.Prelude.{IfOk}
use Rattle.sf_play.specs.sf_ready.declared.hold.Hold.{Hold}
use Rattle.sf_play.specs.sf_token.Arrivals.{entry_of, sent}
use Rattle.sf_play.specs.sf_token.declared.arrivals.ArrvEntry.{ArrvEntry}
use Rattle.sf_play.specs.sf_surface.Objects.{ObjectOf}
use Rattle.sf_play.specs.sf_actor.Plain.{PlainOf}
use Rattle.sf_play.specs.sf_actor_steps.declared.actor.Actor.{Actor}
use Rattle.sf_play.specs.sf_actor_set.ActorSets.{ActorSetOf}
use Rattle.sf_play.specs.sf_record.declared.record.Record.{Record}
use Rattle.sf_play.specs.sf_record.declared.record.Record.TheVariants as rec
use Rattle.sf_play.specs.law_played.Progress.{held_shown}
use Rattle.sf_play.specs.law_played.Telling.{arrival_recorded}
use Rattle.sf_play.specs.sf_play_report.Closings.{history_of}
use Rattle.sf_play_write.specs.Closings.{stuck_at}
use Rattle.sf_play_write.specs.Writing.{Wrote}
use Rattle.sf_play_write.proofs.ClosingLemmas.{arrived_of, rest_of}
use Rattle.sf_play_write.proofs.WroteLemmas.{wrote_cut, wrote_then}
use Rattle.sf_play_write.proofs.closing.write_closing.Goals as goal

pub returns-in-Err : goal.returns-in-Err
returns-in-Err g c =
    let player = c.args.player.now in
    let is = c.desk.view_is ∙ c.desk-desk.ensures ∙ ap (λ (actor_set : ActorSetOf g.row.B.Denot). actor_set.desk) c.actor_set-actor_set.ensures in
    let entries = c.entries.ensures ∙ ap (λ (desk : PlainOf g.row.B.Denot). map entry_of (sent desk.arrivals)) is in
    wrote_cut g.K.Sink.taken g.K.Sink.faults _ _ c.in-Err.fault (arrived_of player ∷ []) (map rec.Hist (map history_of player.play.actor_set.desk.queues) ++ rest_of player)
    (c.in-Err.ensures.wrote (arrived_of player) (subst (λ (es : List ArrvEntry). IfOk c.arrivals_record.result (λ (it : Record). it ≡ rec.Arrv (map arrival_recorded es))) entries c.arrivals_record.ensures))

pub returns-in-Err-write_histories : goal.returns-in-Err-write_histories
returns-in-Err-write_histories g c =
    let player = c.args.player.now in
    let is = c.desk.view_is ∙ c.desk-desk.ensures ∙ ap (λ (actor_set : ActorSetOf g.row.B.Denot). actor_set.desk) c.actor_set-actor_set.ensures in
    let entries = c.entries.ensures ∙ ap (λ (desk : PlainOf g.row.B.Denot). map entry_of (sent desk.arrivals)) is in
    let queues = c.as_slice.ensures.value ∙ ap (λ (desk : PlainOf g.row.B.Denot). desk.queues) is in
    wrote_then g.K.Sink.taken g.K.Sink.faults _ _ _ _ (arrived_of player ∷ []) (map rec.Hist (map history_of player.play.actor_set.desk.queues) ++ rest_of player)
    (c.in-Ok.ensures.wrote (arrived_of player) (subst (λ (es : List ArrvEntry). IfOk c.arrivals_record.result (λ (it : Record). it ≡ rec.Arrv (map arrival_recorded es))) entries c.arrivals_record.ensures))
    (wrote_cut g.K.Sink.taken g.K.Sink.faults _ _ c.in-Err-write_histories.fault (map rec.Hist (map history_of player.play.actor_set.desk.queues)) (rest_of player)
    (subst (λ (qs : List (ObjectOf g.row.B.Denot)). Wrote {A = Unit {0}} g.K.Sink.taken g.K.Sink.faults c.write_made.new.sink c.write_histories.new.sink (Err c.in-Err-write_histories.fault) (map rec.Hist (map history_of qs))) queues
    c.in-Err-write_histories.ensures))

pub returns : goal.returns
returns g c =
    let player = c.args.player.now in
    let is = c.desk.view_is ∙ c.desk-desk.ensures ∙ ap (λ (actor_set : ActorSetOf g.row.B.Denot). actor_set.desk) c.actor_set-actor_set.ensures in
    let entries = c.entries.ensures ∙ ap (λ (desk : PlainOf g.row.B.Denot). map entry_of (sent desk.arrivals)) is in
    let queues = c.as_slice.ensures.value ∙ ap (λ (desk : PlainOf g.row.B.Denot). desk.queues) is in
    let actors = c.actors.ensures ∙ ap (λ (actor_set : ActorSetOf g.row.B.Denot). actor_set.actors) c.actor_set-actor_set.ensures in
    wrote_then g.K.Sink.taken g.K.Sink.faults _ _ _ _ (arrived_of player ∷ []) (map rec.Hist (map history_of player.play.actor_set.desk.queues) ++ rest_of player)
    (c.in-Ok.ensures.wrote (arrived_of player) (subst (λ (es : List ArrvEntry). IfOk c.arrivals_record.result (λ (it : Record). it ≡ rec.Arrv (map arrival_recorded es))) entries c.arrivals_record.ensures))
    (wrote_then g.K.Sink.taken g.K.Sink.faults _ _ _ _ (map rec.Hist (map history_of player.play.actor_set.desk.queues)) (rest_of player)
    (subst (λ (qs : List (ObjectOf g.row.B.Denot)). Wrote {A = Unit {0}} g.K.Sink.taken g.K.Sink.faults c.write_made.new.sink c.write_histories.new.sink (Ok tt) (map rec.Hist (map history_of qs))) queues
    c.in-Ok-write_histories.ensures)
    (subst (λ (xs : List (Actor g.row.B.Denot)). Wrote {A = Unit {0}} g.K.Sink.taken g.K.Sink.faults c.write_histories.new.sink c.write_rest.new.sink c.write_rest.result
    (rec.Hold (map held_shown player.held) ∷ rec.Stuk (stuck_at xs) ∷ rec.Done ∷ [])) actors
    (subst (λ (held : List (ℕ × Hold)). Wrote {A = Unit {0}} g.K.Sink.taken g.K.Sink.faults c.write_histories.new.sink c.write_rest.new.sink c.write_rest.result
    (rec.Hold (map held_shown held) ∷ rec.Stuk (stuck_at c.actors.result.now) ∷ rec.Done ∷ [])) c.held.ensures c.write_rest.ensures)))

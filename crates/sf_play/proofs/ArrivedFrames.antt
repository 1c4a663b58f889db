-- What arrived shows frames that calls gave.
use Rattle.std.proofs.Common.{◌≡◌, ℕ, List, map, filter, refl, sym, ap, subst}
use Rattle.std.specs.Prelude.{Contains}
use Rattle.std.specs.List.{All}
use Rattle.std.proofs.lemmas.Bool.{eq-eqb}
use Rattle.std.proofs.lemmas.List.Elements.{All-contains}
use Rattle.sf_play_report.specs.sf_surface.Tokens.{ReadLeaseOf}
use Rattle.sf_play_report.specs.sf_surface.declared.call.Gives.{Gives}
use Rattle.sf_play_report.specs.sf_surface.declared.call.Gives.TheVariants as gives
use Rattle.sf_play_report.specs.sf_surface.declared.call.QCall.{QCall}
use Rattle.sf_play_report.specs.sf_surface.declared.call.QCall.TheVariants as call
use Rattle.sf_play_report.specs.sf_token.Pending.{Arrival}
use Rattle.sf_play_report.specs.sf_txn.Buffers.{Buffer}
use Rattle.sf_script_scene.specs.Scene.{SceneValue}
use Rattle.sf_play_report.specs.sf_actor.Desks.{DeskHome, DeskView, known_of, mark_among}
use Rattle.sf_play_report.specs.sf_actor.Known.{arrivals_told, is_sent_by, plain_arrival, plain_buffer, share_of}
use Rattle.sf_play_report.specs.sf_actor.Rights.{HoldsAcquired, SendsAcquired, Takes, WasTaken}
use Rattle.sf_play_report.specs.sf_actor.ScriptTraces.{sent_as}
use Rattle.sf_play_report.specs.sf_actor.Traces.{SentStep}
use Rattle.sf_play_report.specs.sf_actor.Tries.{ActorOf}
use Rattle.sf_play_report.proofs.law_played_lemmas.ArrivedFrames.{is_numbered, own_is, told_has}
use Rattle.sf_play_report.proofs.law_played_lemmas.StepKeepsTold.{of_all}
use Rattle.sf_play_report.proofs.law_played_lemmas.Members.{has_filter, has_map}
use Rattle.sf_play_report.proofs.law_played_lemmas.Sent.{IsShown, sent_shown}
use Rattle.sf_play_report.specs.law_played.Actors.{AreActors, AreArrivals, number_of}
use Rattle.sf_play.specs.Players.{AreLent, IsBufferLent, WasLent}

module _ {B : Type 0} where
  -- a call that took a frame
  record TakesIt (lease : ReadLeaseOf) (asked : QCall B) (given : Gives B) : Type 0 where
    expected : ℕ
    call_is : asked ≡ call.Acquire expected
    gives_it : given ≡ gives.Read lease

  takes_it : (lease : ReadLeaseOf) (asked : QCall B) (given : Gives B) → Takes lease asked given → TakesIt lease asked given
  takes_it lease (call.Acquire expected) (gives.Read given) is = record { expected = expected; call_is = refl; gives_it = ap (λ (l : ReadLeaseOf). gives.Read l) is }
  takes_it lease asked given is = absurd is

  module _ (scene : SceneValue) (ofs : List (ActorOf B)) (home : DeskHome) (view : DeskView B) (actors : AreActors scene ofs home view) (senders : AreArrivals ofs view) where
    -- a lease that one of an actor's own calls gave
    taken_lent : (actor : ℕ) (lease : ReadLeaseOf) → WasTaken (share_of actor (known_of home view)).calls lease → WasLent view lease
    taken_lent actor lease was =
        let takes = takes_it lease was.0.made.call.1 was.0.made.reply.gives was.2 in
        record {
          first = lease;
          made = was.0.made;
          there = own_is actor (mark_among home.marks lease.queue.0) (view.calls lease.queue.0) was.0 was.1;
          takes = record { expected = takes.expected; call = takes.call_is; gives = takes.gives_it };
          plain = refl;
          expects = refl;
          number = refl;
        }

    one_lent : (arrived : Arrival ReadLeaseOf) → Contains view.arrivals arrived → All (λ (b : Buffer ReadLeaseOf). IsBufferLent view b.shown b.lease) arrived.txn.buffers
    one_lent arrived there =
        let number = arrived.actor.0 in
        let by = is_numbered scene ofs home view number actors (All-contains (λ (a : Arrival ReadLeaseOf). Contains (map number_of ofs) a.actor.0) view.arrivals arrived senders there) in
        let actor = by.of.script.number in
        let own : Contains (filter (is_sent_by actor) view.arrivals) arrived = has_filter (is_sent_by actor) view.arrivals arrived (eq-eqb arrived.actor.0 actor (sym by.is)) there in
        let told = arrivals_told home.tells (filter (is_sent_by actor) view.arrivals) in
        let it = told_has home.tells (filter (is_sent_by actor) view.arrivals) arrived own in
        let told_it : Arrival ReadLeaseOf = record arrived { number = it.0 } in
        let sends = All-contains (SendsAcquired (share_of actor (known_of home view)).calls) told told_it by.keeps.kept.kept.sends it.1 in
        let plain = has_map plain_arrival told told_it it.1 in
        let sent = subst (λ (xs : List SentStep). Contains xs (sent_as (plain_arrival told_it))) by.keeps.kept.kept.is.sent (has_map sent_as (map plain_arrival told) (plain_arrival told_it) plain) in
        let shown = sent_shown by.of.trace (sent_as (plain_arrival told_it)) sent in
        of_all (λ (b : Buffer ReadLeaseOf). IsBufferLent view b.shown b.lease) arrived.txn.buffers (λ b among. record {
          lent = taken_lent actor b.lease (All-contains (HoldsAcquired (share_of actor (known_of home view)).calls) arrived.txn.buffers b sends among);
          shows = All-contains IsShown (map plain_buffer arrived.txn.buffers) (plain_buffer b) shown (has_map plain_buffer arrived.txn.buffers b among);
        })

    pub arrivals_lent : AreLent view view.arrivals
    arrivals_lent = of_all (λ (a : Arrival ReadLeaseOf). All (λ (b : Buffer ReadLeaseOf). IsBufferLent view b.shown b.lease) a.txn.buffers) view.arrivals one_lent

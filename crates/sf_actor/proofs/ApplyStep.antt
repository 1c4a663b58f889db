-- What an actor keeps where it sends a transaction: its number is empty then, and the transaction has arrived.
use Rattle.std.proofs.Common.{◌≡◌, ℕ, ◌+◌, ◌<◌, ◌==◌, Bool, true, false, List, [], ◌∷◌, ◌++◌, length, filter, arith, ap, ◌∙◌, sym, refl, subst, Option, Some, None}
use Rattle.std.specs.Prelude.{Contains}
use Rattle.std.specs.Option.{option_map}
use Rattle.std.proofs.lemmas.Bool.{eq-eqb}
use Rattle.std.proofs.lemmas.List.{append-nil, map-append}
use Rattle.std.proofs.lemmas.List.Elements.{All-push, filter-append}
use Rattle.sf_base.specs.declared.fences.Seen.{Seen}
use Rattle.sf_script_scene.specs.sf_picture.declared.picture.Picture.{Picture}
use Rattle.sf_script_scene.specs.declared.step.Step.{Step}
use Rattle.sf_script_scene.specs.declared.step.Step.TheVariants as step
use Rattle.sf_surface.specs.Tokens.{ReadLeaseOf}
use Rattle.sf_token.specs.Pending.{Arrival}
use Rattle.sf_token.specs.sf_txn.Transactions.{Contents}
use Rattle.sf_actor.specs.declared.done.Answered.TheVariants as answered
use Rattle.sf_actor.specs.declared.done.Done.{Done}
use Rattle.sf_actor.specs.Desks.{DeskHome, DeskView, MadeSend, known_of, mark_among}
use Rattle.sf_actor.specs.Known.{AreAmong, Rise, arrivals_told, is_sent_by, number_told, own_calls, plain_txn, share_of}
use Rattle.sf_actor.specs.Names.{FrameOf, Holdings, with_transaction}
use Rattle.sf_actor.specs.Rights.{SendsAcquired}
use Rattle.sf_actor.specs.Steps.{addressed, holdings_next, sent_by, used_by}
use Rattle.sf_actor.specs.Tests.{refusal_of}
use Rattle.sf_actor.specs.Traces.{AnswersCall, AnswersTests, sent_with, source_in}
use Rattle.sf_actor.specs.Tries.{ActorKept, ActorOf, contents_in, next_step, past_of}
use Rattle.sf_actor.proofs.TraceGrowth.{at_end}
use Rattle.sf_actor.proofs.FilledNames.{still_reached}
use Rattle.sf_actor.proofs.GoingOn.{own_arrivals}
use Rattle.sf_actor.proofs.CallShare.{counts_same}
use Rattle.sf_actor.proofs.StepKeepsActor.{CallsNone, actor_with, none_adds, permits_stay, sent_unmade, stepped}
use Rattle.sf_actor.proofs.NumberChanges.{number_moves, transactions_told, with_contents}

-- the number is empty then
emptied : (holdings : Holdings) (n token number : ℕ) → holdings_next holdings (record { step = step.Apply n token; answered = answered.Sent number }) ≡ with_transaction holdings n None
unfolding holdings_next
emptied holdings n token number = refl

-- the transaction under its apply token
abbrev pub under : ℕ → Contents ReadLeaseOf → Contents ReadLeaseOf
under token txn = record txn { token = record { 0 = token } }

rise_same : (old new : Seen) → new ≡ old → Rise old new
rise_same old new same = subst (λ (seen : Seen). Rise old seen) (sym same) (λ t low high. omega arith)

among_same : (old new : List (ℕ × ℕ)) → new ≡ old → AreAmong old new
among_same old new same = λ p there. subst (λ (xs : List (ℕ × ℕ)). Contains xs p) (sym same) there

-- the arrival is the sender's last
own_last : (by : ℕ) (arrivals earlier : List (Arrival ReadLeaseOf)) (arrived : Arrival ReadLeaseOf) → arrived.actor.0 ≡ by → filter (is_sent_by by) earlier ≡ filter (is_sent_by by) arrivals → filter (is_sent_by by) (earlier ++ arrived ∷ []) ≡ filter (is_sent_by by) arrivals ++ arrived ∷ []
own_last by arrivals earlier arrived own same =
    let met : (arrived.actor.0 == by) ≡ true = eq-eqb arrived.actor.0 by own in
    filter-append (is_sent_by by) earlier (arrived ∷ []) ∙ ap (λ (xs : List (Arrival ReadLeaseOf)). xs ++ filter (is_sent_by by) (arrived ∷ [])) same ∙ (rw met refl)

-- an arrival behind others, as its sender is told of it
told_push : (tells : Bool) (arrivals : List (Arrival ReadLeaseOf)) (arrived : Arrival ReadLeaseOf)
    → arrivals_told tells (arrivals ++ arrived ∷ []) ≡ arrivals_told tells arrivals ++ record arrived { number = number_told tells arrived.number } ∷ []
told_push true arrivals arrived = refl
told_push false arrivals arrived = map-append (λ (a : Arrival ReadLeaseOf). record a { number = 0 }) arrivals (arrived ∷ [])

module _ {B : Type 0} where
  pub send_keeps : (pictures : ℕ → Picture) (actor : ActorOf B) (n token number : ℕ) (txn : Contents ReadLeaseOf) (home : DeskHome) (old new : DeskView B) → next_step actor ≡ Some (step.Apply n token) → ActorKept pictures actor (share_of actor.script.number (known_of home old)) → refusal_of pictures (past_of actor).holdings (step.Apply n token) ≡ None → n < length actor.parts.transactions → contents_in actor.parts n ≡ Some txn → MadeSend home old new actor.script.number (length actor.trace + 1) (under token txn) number → ActorKept pictures (stepped actor (record { step = step.Apply n token; answered = answered.Sent number }) (with_contents actor.parts n None)) (share_of actor.script.number (known_of home new))
  send_keeps pictures actor n token number txn home old new is_next is unrefused low there made =
      let by = actor.script.number in
      let s : Step = step.Apply n token in
      let done : Done = record { step = s; answered = answered.Sent number } in
      let at = at_end actor.trace done in
      let past = past_of actor in
      let before = share_of by (known_of home old) in
      let after = share_of by (known_of home new) in
      let same = made.same in
      let arrived : Arrival ReadLeaseOf = record { number = number; actor = record { 0 = by }; step = length actor.trace + 1; txn = under token txn } in
      let placed : Arrival ReadLeaseOf = record arrived { number = length made.earlier + 1 } in
      let sends : sent_by past.holdings s ≡ Some (addressed token (plain_txn txn)) = ap (option_map (addressed token)) (transactions_told pictures actor before n is ∙ ap (option_map plain_txn) there) in
      let calls : (queue : ℕ) → after.calls queue ≡ before.calls queue = λ queue. ap (λ (view : DeskView B). own_calls by (mark_among home.marks queue) (view.calls queue)) same in
      let rise = rise_same before.values after.values (ap (λ (view : DeskView B). (known_of home view).values) same) in
      let parts = with_contents actor.parts n None in
      let none : CallsNone pictures actor.trace at (arrived ∷ []) before after = record {
        unmade = sent_unmade at.place number None (source_in past.since (used_by s));
        overtakes = refl;
        answered =
            subst (λ (test : Option ℕ). AnswersTests pictures after.values past s (answered.Sent number) test) (sym unrefused)
            (tt, subst (λ (sent : Option (Contents FrameOf)). AnswersCall None sent (answered.Sent number)) (sym sends) (number, refl));
        calls = calls;
        arrivals =
            ap (arrivals_told home.tells)
            (ap (filter (is_sent_by by)) made.last
            ∙ own_last by old.arrivals made.earlier placed refl
            (ap (filter (is_sent_by by)) made.goes_on.joined ∙ own_arrivals by old.arrivals made.goes_on.later made.goes_on.none))
            ∙ told_push home.tells (filter (is_sent_by by) old.arrivals) placed
            ∙ ap (λ (n : ℕ). before.arrivals ++ record arrived { number = n } ∷ []) (sym made.told);
        sent = sym (ap (λ (sent : Option (Contents FrameOf)). sent_with at.place (answered.Sent number) sent) sends);
        sends = All-push (SendsAcquired before.calls) [] arrived (λ k d below. absurd (omega (arith, below))) (is.acquired n txn there);
        values = rise;
        signals = among_same old.times.signals new.times.signals (ap (λ (view : DeskView B). view.times.signals) same);
        signalled = λ p below. absurd (omega (arith, below.1));
        left = among_same old.turns.leaves new.turns.leaves (ap (λ (view : DeskView B). view.turns.leaves) same);
        counts = counts_same old.turns.seen new.turns.seen (ap (λ (view : DeskView B). view.turns.seen) same);
        pays = λ frame below. absurd (omega (arith, below.1));
        counted = λ place entered. absurd (no_place place entered);
        order = λ place entered. absurd (no_place place entered);
      } in
      actor_with pictures actor done parts before after is_next is (none_adds pictures actor.stock actor.trace at (arrived ∷ []) before after none)
      (number_moves pictures actor done n None before after (λ queue. []) is (record {
        calls = λ queue. calls queue ∙ sym (append-nil (before.calls queue));
        low = low;
        holdings = emptied past.holdings n token number;
        since = refl;
        acquired = λ now e. absurd (none_some now e);
        reached = still_reached actor before after rise is.reached;
        permits = permits_stay pictures actor done parts before after (λ queue. []) is refl (λ queue. calls queue ∙ sym (append-nil (before.calls queue))) (λ number queue made there makes. omega (arith, there.1));
      }))
    where
      no_place : (place : ℕ) → None ≡ Some place → ⊥
      no_place place e = cc

      none_some : (now : Contents ReadLeaseOf) → None ≡ Some now → ⊥
      none_some now e = cc

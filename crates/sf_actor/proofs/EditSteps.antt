-- What an actor keeps where it begins a transaction, and where it changes one in a place that shows no frame.
use Rattle.std.proofs.Common.{◌≡◌, ℕ, ◌+◌, ◌<◌, List, [], ◌∷◌, ◌++◌, length, arith, ap, ◌∙◌, sym, refl, subst, Option, Some, None}
use Rattle.std.specs.Prelude.{Contains, map}
use Rattle.std.specs.List.{All}
use Rattle.std.specs.Option.{option_map}
use Rattle.std.proofs.lemmas.List.{append-nil}
use Rattle.sf_base.specs.Fences.{Fence, IsSignalled, merged}
use Rattle.sf_script_scene.specs.sf_picture.declared.picture.Picture.{Picture}
use Rattle.sf_script_scene.specs.declared.change.Change.{Change}
use Rattle.sf_script_scene.specs.declared.step.Step.{Step}
use Rattle.sf_script_scene.specs.declared.step.Step.TheVariants as step
use Rattle.sf_surface.specs.Tokens.{ReadLeaseOf}
use Rattle.sf_token.specs.sf_txn.Transactions.{Contents, empty, set}
use Rattle.sf_actor.specs.declared.done.Answered.TheVariants as answered
use Rattle.sf_actor.specs.declared.done.Done.{Done}
use Rattle.sf_actor.specs.Asking.{Asked, call_of, overtaken_by}
use Rattle.sf_actor.specs.Known.{Share, plain_txn}
use Rattle.sf_actor.specs.Names.{FrameOf, Holdings, transaction_in, with_transaction}
use Rattle.sf_actor.specs.Points.{detached_fence, waited_fence}
use Rattle.sf_actor.specs.Rights.{HoldsAcquired}
use Rattle.sf_actor.specs.Scripts.{layer_of, op_of}
use Rattle.sf_actor.specs.Steps.{filled_by, holdings_next, sent_by, used_by}
use Rattle.sf_actor.specs.Tests.{refusal_of}
use Rattle.sf_actor.specs.Traces.{AnswersCall, AnswersTests, IsPassed, PassesFence, release_at, source_in}
use Rattle.sf_actor.specs.Tries.{ActorKept, ActorOf, contents_in, next_step, past_of}
use Rattle.sf_actor.specs.Written.{FrameNumber}
use Rattle.sf_actor.proofs.TraceGrowth.{at_end}
use Rattle.sf_actor.proofs.FilledNames.{still_reached}
use Rattle.sf_actor.proofs.Forms.{IsQuiet, plain_since}
use Rattle.sf_actor.proofs.StepKeepsActor.{CallsNone, actor_with, none_adds, own_unmade, permits_stay, stepped}
use Rattle.sf_actor.proofs.NumberChanges.{number_moves, transactions_told, with_contents}

-- the transaction after the step
begun : (holdings : Holdings) (n : ℕ) → holdings_next holdings (record { step = step.Tx n; answered = answered.Own 0 }) ≡ with_transaction holdings n (Some empty)
unfolding holdings_next
begun holdings n = refl

desired_then : (holdings : Holdings) (n time : ℕ) (txn : Contents ReadLeaseOf) → transaction_in holdings n ≡ Some (plain_txn txn) → holdings_next holdings (record { step = step.Desire n time; answered = answered.Own 0 }) ≡ with_transaction holdings n (Some (plain_txn (record txn { desired = Some time })))
unfolding holdings_next
desired_then holdings n time txn there = rw there refl

barred_then : (holdings : Holdings) (n layer frame : ℕ) (txn : Contents ReadLeaseOf) → transaction_in holdings n ≡ Some (plain_txn txn) → holdings_next holdings (record { step = step.Barrier n layer frame; answered = answered.Own 0 }) ≡ with_transaction holdings n (Some (plain_txn (record txn { barriers = txn.barriers ++ (layer_of layer, frame) ∷ [] })))
unfolding holdings_next
barred_then holdings n layer frame txn there = rw there refl

set_then : (holdings : Holdings) (n layer : ℕ) (change : Change) (txn : Contents ReadLeaseOf) → transaction_in holdings n ≡ Some (plain_txn txn) → holdings_next holdings (record { step = step.Set n layer change; answered = answered.Own 0 }) ≡ with_transaction holdings n (Some (plain_txn (set txn (layer_of layer, op_of change))))
unfolding holdings_next
set_then holdings n layer change txn there = rw there refl

module _ {B : Type 0} where
  -- a step that is done without a call, after which a number holds this transaction
  record IsEdit (pictures : ℕ → Picture) (actor : ActorOf B) (s : Step) (number : ℕ) (txn : Contents ReadLeaseOf) : Type 0 where
    pub test : refusal_of pictures (past_of actor).holdings s ≡ None
    pub fence : detached_fence (past_of actor).holdings s ≡ None
    pub waits : waited_fence (past_of actor).holdings s ≡ None
    pub asks : call_of pictures (past_of actor).holdings s ≡ None
    pub sends : sent_by (past_of actor).holdings s ≡ None
    pub overtakes : overtaken_by (past_of actor).holdings s ≡ []
    pub quiet : IsQuiet (at_end actor.trace (record { step = s; answered = answered.Own 0 }))
    pub fills : filled_by s ≡ None
    pub holdings : holdings_next (past_of actor).holdings (record { step = s; answered = answered.Own 0 }) ≡ with_transaction (past_of actor).holdings number (Some (plain_txn txn))

  edit_keeps : (pictures : ℕ → Picture) (actor : ActorOf B) (s : Step) (number : ℕ) (txn : Contents ReadLeaseOf) (share : Share B) → next_step actor ≡ Some s → ActorKept pictures actor share → IsEdit pictures actor s number txn → number < length actor.parts.transactions → All (HoldsAcquired share.calls) txn.buffers → ActorKept pictures (stepped actor (record { step = s; answered = answered.Own 0 }) (with_contents actor.parts number (Some txn))) share
  edit_keeps pictures actor s number txn share is_next is edit low acquired =
      let done : Done = record { step = s; answered = answered.Own 0 } in
      let at = at_end actor.trace done in
      let past = past_of actor in
      let parts = with_contents actor.parts number (Some txn) in
      let none : CallsNone pictures actor.trace at [] share share = record {
        unmade = own_unmade at.place 0 (call_of pictures past.holdings s) (source_in past.since (used_by s));
        overtakes = ap (map (release_at at.place)) edit.overtakes;
        answered =
            subst (λ (test : Option ℕ). AnswersTests pictures share.values past s (answered.Own 0) test) (sym edit.test)
            (subst (λ (f : Option Fence). PassesFence f share.values past.shown (answered.Own 0) (IsPassed (waited_fence past.holdings s) share.values × AnswersCall (call_of pictures past.holdings s) (sent_by past.holdings s) (answered.Own 0))) (sym edit.fence) (
              subst (λ (f : Option Fence). IsPassed f share.values) (sym edit.waits) tt,
              subst (λ (asking : Option Asked). AnswersCall asking (sent_by past.holdings s) (answered.Own 0)) (sym edit.asks)
                  (subst (λ (sent : Option (Contents FrameOf)). AnswersCall None sent (answered.Own 0)) (sym edit.sends) refl),
            ));
        calls = λ queue. refl;
        arrivals = sym (append-nil share.arrivals);
        sent = refl;
        sends = λ k d below. absurd (omega (arith, below));
        values = λ t low high. omega arith;
        signals = λ p there. there;
        signalled = λ p there. absurd (nil (subst (λ (xs : List (ℕ × ℕ)). Contains xs p) edit.quiet.signals there));
        left = λ p there. there;
        counts = λ b. omega arith;
        pays = λ frame there. absurd (nil (subst (λ (xs : List FrameNumber). Contains xs frame) edit.quiet.pays there));
        counted = λ place entered. absurd (no_place place (sym edit.quiet.enters ∙ entered));
        order = λ place entered. absurd (no_place place (sym edit.quiet.enters ∙ entered));
      } in
      actor_with pictures actor done parts share share is_next is (none_adds pictures actor.stock actor.trace at [] share share none)
      (number_moves pictures actor done number (Some txn) share share (λ queue. []) is (record {
        calls = λ queue. sym (append-nil (share.calls queue));
        low = low;
        holdings = edit.holdings;
        since = plain_since past.since (length actor.trace + 1) done edit.fills;
        acquired = λ now e. subst (λ (t : Contents ReadLeaseOf). All (HoldsAcquired share.calls) t.buffers) (one now e) acquired;
        reached = subst (λ (f : Fence). IsSignalled (merged past.shown f) share.values) (sym edit.quiet.shows) (still_reached actor share share (λ t low high. omega arith) is.reached);
        permits = permits_stay pictures actor done parts share share (λ queue. []) is refl (λ queue. sym (append-nil (share.calls queue))) (λ number queue made there makes. nil there);
      }))
    where
      nil : {A : Type 0} {x : A} → Contains [] x → ⊥
      nil there = omega (arith, there.1)

      no_place : (place : ℕ) → None ≡ Some place → ⊥
      no_place place e = cc

      one : (now : Contents ReadLeaseOf) → Some txn ≡ Some now → txn ≡ now
      one now e = cc

  pub begin_keeps : (pictures : ℕ → Picture) (actor : ActorOf B) (n : ℕ) (share : Share B) → next_step actor ≡ Some (step.Tx n) → ActorKept pictures actor share → refusal_of pictures (past_of actor).holdings (step.Tx n) ≡ None → n < length actor.parts.transactions → ActorKept pictures (stepped actor (record { step = step.Tx n; answered = answered.Own 0 }) (with_contents actor.parts n (Some empty))) share
  begin_keeps pictures actor n share is_next is unrefused low =
      edit_keeps pictures actor (step.Tx n) n empty share is_next is
      (record {
        test = unrefused;
        fence = refl;
        waits = refl;
        asks = refl;
        sends = refl;
        overtakes = refl;
        quiet = record { signals = refl; pays = refl; enters = refl; shows = refl };
        fills = refl;
        holdings = begun (past_of actor).holdings n;
      })
      low (λ k d below. absurd (omega (arith, below)))

  pub desire_keeps : (pictures : ℕ → Picture) (actor : ActorOf B) (n time : ℕ) (txn : Contents ReadLeaseOf) (share : Share B) → next_step actor ≡ Some (step.Desire n time) → ActorKept pictures actor share → refusal_of pictures (past_of actor).holdings (step.Desire n time) ≡ None → n < length actor.parts.transactions → contents_in actor.parts n ≡ Some txn → ActorKept pictures (stepped actor (record { step = step.Desire n time; answered = answered.Own 0 }) (with_contents actor.parts n (Some (record txn { desired = Some time })))) share
  desire_keeps pictures actor n time txn share is_next is unrefused low there =
      edit_keeps pictures actor (step.Desire n time) n (record txn { desired = Some time }) share is_next is
      (record {
        test = unrefused;
        fence = refl;
        waits = refl;
        asks = refl;
        sends = refl;
        overtakes = refl;
        quiet = record { signals = refl; pays = refl; enters = refl; shows = refl };
        fills = refl;
        holdings = desired_then (past_of actor).holdings n time txn (transactions_told pictures actor share n is ∙ ap (option_map plain_txn) there);
      })
      low (is.acquired n txn there)

  pub barrier_keeps : (pictures : ℕ → Picture) (actor : ActorOf B) (n layer frame : ℕ) (txn : Contents ReadLeaseOf) (share : Share B) → next_step actor ≡ Some (step.Barrier n layer frame) → ActorKept pictures actor share → refusal_of pictures (past_of actor).holdings (step.Barrier n layer frame) ≡ None → n < length actor.parts.transactions → contents_in actor.parts n ≡ Some txn → ActorKept pictures (stepped actor (record { step = step.Barrier n layer frame; answered = answered.Own 0 }) (with_contents actor.parts n (Some (record txn { barriers = txn.barriers ++ (layer_of layer, frame) ∷ [] })))) share
  barrier_keeps pictures actor n layer frame txn share is_next is unrefused low there =
      edit_keeps pictures actor (step.Barrier n layer frame) n (record txn { barriers = txn.barriers ++ (layer_of layer, frame) ∷ [] }) share is_next is
      (record {
        test = unrefused;
        fence = refl;
        waits = refl;
        asks = refl;
        sends = refl;
        overtakes = refl;
        quiet = record { signals = refl; pays = refl; enters = refl; shows = refl };
        fills = refl;
        holdings = barred_then (past_of actor).holdings n layer frame txn (transactions_told pictures actor share n is ∙ ap (option_map plain_txn) there);
      })
      low (is.acquired n txn there)

  pub set_keeps : (pictures : ℕ → Picture) (actor : ActorOf B) (n layer : ℕ) (change : Change) (txn : Contents ReadLeaseOf) (share : Share B) → next_step actor ≡ Some (step.Set n layer change) → ActorKept pictures actor share → refusal_of pictures (past_of actor).holdings (step.Set n layer change) ≡ None → n < length actor.parts.transactions → contents_in actor.parts n ≡ Some txn → ActorKept pictures (stepped actor (record { step = step.Set n layer change; answered = answered.Own 0 }) (with_contents actor.parts n (Some (set txn (layer_of layer, op_of change))))) share
  set_keeps pictures actor n layer change txn share is_next is unrefused low there =
      edit_keeps pictures actor (step.Set n layer change) n (set txn (layer_of layer, op_of change)) share is_next is
      (record {
        test = unrefused;
        fence = refl;
        waits = refl;
        asks = refl;
        sends = refl;
        overtakes = refl;
        quiet = record { signals = refl; pays = refl; enters = refl; shows = refl };
        fills = refl;
        holdings = set_then (past_of actor).holdings n layer change txn (transactions_told pictures actor share n is ∙ ap (option_map plain_txn) there);
      })
      low (is.acquired n txn there)

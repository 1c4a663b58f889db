-- An actor keeps what it keeps where it does one more step: what its trace adds, and how what it has moves.
use Rattle.std.proofs.Common.{◌≡◌, ℕ, ◌+◌, ◌≤◌, suc, zero, List, [], ◌∷◌, ◌++◌, length, inl, inr, arith, ap, ◌∙◌, sym, refl, subst, Option, Some, None}
use Rattle.std.specs.Prelude.{Contains, drop, get_or, map}
use Rattle.std.specs.List.{All, AllZip}
use Rattle.std.proofs.lemmas.Bool.{cases_Bool}
use Rattle.std.proofs.lemmas.List.{append-nil, length-append}
use Rattle.std.proofs.lemmas.List.Elements.{All-weaker, Contains-append_cases}
use Rattle.sf_base.specs.Fences.{IsSignalled}
use Rattle.sf_script_scene.specs.sf_picture.declared.picture.Picture.{Picture}
use Rattle.sf_script_scene.specs.declared.step.Step.{Step}
use Rattle.sf_surface.specs.Tokens.{ReadLeaseOf}
use Rattle.sf_token.specs.Pending.{Arrival}
use Rattle.sf_surface.specs.sf_turns.Counts.{stock_at}
use Rattle.sf_token.specs.sf_txn.Buffers.{Buffer}
use Rattle.sf_token.specs.sf_txn.Transactions.{Contents}
use Rattle.sf_actor.specs.declared.done.Answered.TheVariants as answered
use Rattle.sf_actor.specs.declared.done.Done.{Done}
use Rattle.sf_actor.specs.declared.holding.Holding.{Holding}
use Rattle.sf_actor.specs.Asking.{Asked, call_of}
use Rattle.sf_actor.specs.Draws.{EntersCounted, IsInOrder, entered_at, entered_in}
use Rattle.sf_actor.specs.Known.{AreAmong, Call, CountsRise, Rise, Share, plain_arrival}
use Rattle.sf_actor.specs.Holdings.{HoldingsOf, ShowsPictures, plain_of, turn_held}
use Rattle.sf_actor.specs.Points.{shown_next}
use Rattle.sf_actor.specs.Rights.{BringsGiven, HoldsAcquired, IsOfCall, MadeWith, SendsAcquired, WasGivenAt, WasPaid}
use Rattle.sf_actor.specs.Steps.{holdings_next, used_by}
use Rattle.sf_actor.specs.ScriptTraces.{IsMade, made_on, sent_as}
use Rattle.sf_actor.specs.Traces.{DoneAt, IsAnswered, MadeStep, Past, Source, made_at, overtaken, own_call, sent_at, since_next, source_in}
use Rattle.sf_actor.specs.Tries.{ActorKept, ActorOf, ArePermits, contents_in, dequeues_in, held_in, is_dequeue, next_step, past_of}
use Rattle.sf_actor.specs.Values.{reply_at}
use Rattle.sf_actor.specs.Written.{FrameNumber, paid_at, signal_of}
use Rattle.sf_actor.proofs.TraceGrowth.{Adds, taken_still, at_end, given_still, kept_with, of_call_still, past_with}

-- an own answer is no call's, and so is an arrival
pub own_unmade : (place status : ℕ) (asking : Option Asked) (source : Source) → own_call place asking (answered.Own status) source ≡ []
own_unmade place status None source = refl
own_unmade place status (Some asked) source = refl

pub sent_unmade : (place number : ℕ) (asking : Option Asked) (source : Source) → own_call place asking (answered.Sent number) source ≡ []
sent_unmade place number None source = refl
sent_unmade place number (Some asked) source = refl

-- one step less is to come
pub fewer_dequeues : (steps : List Step) (n : ℕ) → dequeues_in (drop (suc n) steps) ≤ dequeues_in (drop n steps)
fewer_dequeues [] zero = omega arith
fewer_dequeues [] (suc n) = omega arith
fewer_dequeues (step ∷ steps) zero = elim (cases_Bool (is_dequeue step)) [
  | inl met ↦ rw met (omega arith)
  | inr unmet ↦ rw unmet (omega arith)
]
fewer_dequeues (step ∷ steps) (suc n) = fewer_dequeues steps n

module _ {B : Type 0} where
  -- a step that makes no call: it sends what arrived, or nothing
  pub record CallsNone (pictures : ℕ → Picture) (trace : List Done) (at : DoneAt) (arrived : List (Arrival ReadLeaseOf)) (old new : Share B) : Type 0 where
    pub unmade : own_call at.place (call_of pictures at.past.holdings at.done.step) at.done.answered (source_in at.past.since (used_by at.done.step)) ≡ []
    pub overtakes : overtaken at.place at.past.holdings at.done ≡ []
    pub answered : IsAnswered pictures new.values at
    pub calls : (queue : ℕ) → new.calls queue ≡ old.calls queue
    pub arrivals : new.arrivals ≡ old.arrivals ++ arrived
    pub sent : map sent_as (map plain_arrival arrived) ≡ sent_at at
    pub sends : All (SendsAcquired old.calls) arrived
    pub values : Rise old.values new.values
    pub signals : AreAmong old.signals new.signals
    pub signalled : AreAmong (signal_of at.done.step) new.signals
    pub left : AreAmong old.left new.left
    pub counts : CountsRise old.counts new.counts
    pub pays : (frame : FrameNumber) → Contains (paid_at at) frame → WasPaid new.left new.calls frame
    pub counted : (place : ℕ) → entered_at at ≡ Some place → EntersCounted new place
    pub order : (place : ℕ) → entered_at at ≡ Some place → All (λ earlier. IsInOrder new.calls earlier place) (entered_in trace)

  nothing : {P : Type 0} (made : Call B) → Contains [] made → P
  nothing made there = absurd (omega (arith, there.1))

  pub none_adds : (pictures : ℕ → Picture) (stock : List ℕ) (trace : List Done) (at : DoneAt) (arrived : List (Arrival ReadLeaseOf)) (old new : Share B) → CallsNone pictures trace at arrived old new → Adds pictures stock trace at old new
  none_adds pictures stock trace at arrived old new none =
      let source = source_in at.past.since (used_by at.done.step) in
      let same : made_at pictures at ≡ [] = λ i. none.unmade i ++ none.overtakes i in
      record {
        added = λ queue. [];
        arrived = arrived;
        calls = λ queue. none.calls queue ∙ sym (append-nil (old.calls queue));
        arrivals = none.arrivals;
        answered = none.answered;
        made = λ queue. subst (λ (steps : List MadeStep). AllZip IsMade (made_on queue steps) []) (sym same) tt;
        sent = none.sent;
        values = none.values;
        signals = none.signals;
        signalled = none.signalled;
        left = none.left;
        counts = none.counts;
        shows = λ queue made there. nothing made there;
        tokens = λ queue. subst (λ (steps : List MadeStep). AllZip (BringsGiven old.calls) (made_on queue steps) []) (sym same) tt;
        sends = none.sends;
        permits = λ queue made permit there brings. nothing made there;
        new_ones = λ number queue other made earlier there before mine theirs. nothing made there;
        once = λ number queue other made later there too mine theirs. nothing made there;
        ends = λ queue made there. nothing made there;
        pays = none.pays;
        counted = none.counted;
        order = none.order;
      }

  -- the actor after one more step, with these parts
  abbrev pub stepped : ActorOf B → Done → HoldingsOf B → ActorOf B
  stepped actor done parts = record actor {
    parts = parts;
    trace = actor.trace ++ done ∷ [];
    replies = actor.replies ++ reply_at actor.script.number (at_end actor.trace done) ∷ [];
  }

  -- what the actor has after a step: what the step tells, each right being the one that was given
  pub record PartsMove (pictures : ℕ → Picture) (actor : ActorOf B) (done : Done) (parts : HoldingsOf B) (share : Share B) : Type 0 where
    pub has : plain_of parts ≡ holdings_next (past_of actor).holdings done
    pub given : (name : ℕ) (held : Holding B) → held_in parts name ≡ Some held → WasGivenAt share.calls (get_or (since_next (past_of actor).since (length actor.trace + 1) done) name 0) (Some (turn_held held))
    pub of_call : (name : ℕ) (held : Holding B) → held_in parts name ≡ Some held → IsOfCall share.calls held
    pub acquired : (number : ℕ) (txn : Contents ReadLeaseOf) → contents_in parts number ≡ Some txn → All (HoldsAcquired share.calls) txn.buffers
    pub shows : (name : ℕ) (held : Holding B) → held_in parts name ≡ Some held → ShowsPictures pictures held
    pub reached : IsSignalled (shown_next (past_of actor).holdings (past_of actor).shown done) share.values
    pub permits : ArePermits (stepped actor done parts) share

  -- so the actor keeps what it keeps
  pub actor_with : (pictures : ℕ → Picture) (actor : ActorOf B) (done : Done) (parts : HoldingsOf B) (old new : Share B) → next_step actor ≡ Some done.step → ActorKept pictures actor old → Adds pictures actor.stock actor.trace (at_end actor.trace done) old new → PartsMove pictures actor done parts new → ActorKept pictures (stepped actor done parts) new
  actor_with pictures actor done parts old new is_next is adds move =
      let past = past_with actor.trace done in
      record {
        kept = kept_with pictures actor.script actor.stock actor.trace actor.replies done old new is_next is.kept adds;
        has = move.has ∙ ap (λ (p : Past). p.holdings) (sym past);
        given = λ name held there. subst (λ (p : Past). WasGivenAt new.calls (get_or p.since name 0) (Some (turn_held held))) (sym past) (move.given name held there);
        of_call = move.of_call;
        acquired = move.acquired;
        shows = move.shows;
        reached = subst (λ (p : Past). IsSignalled p.shown new.values) (sym past) move.reached;
        permits = move.permits;
      }

  -- a step that moves nothing of what the actor has, and uses no permit
  pub record PartsStay (actor : ActorOf B) (done : Done) (old new : Share B) (added : ℕ → List (Call B)) : Type 0 where
    pub calls : (queue : ℕ) → new.calls queue ≡ old.calls queue ++ added queue
    pub holdings : holdings_next (past_of actor).holdings done ≡ (past_of actor).holdings
    pub since : since_next (past_of actor).since (length actor.trace + 1) done ≡ (past_of actor).since
    pub reached : IsSignalled (shown_next (past_of actor).holdings (past_of actor).shown done) new.values
    pub unused : (number queue : ℕ) (made : Call B) → Contains (added queue) made → MadeWith number made → ⊥

  -- the permits of a step that uses none stay
  pub permits_stay : (pictures : ℕ → Picture) (actor : ActorOf B) (done : Done) (parts : HoldingsOf B) (old new : Share B) (added : ℕ → List (Call B)) → ActorKept pictures actor old → parts.stock ≡ actor.parts.stock → ((queue : ℕ) → new.calls queue ≡ old.calls queue ++ added queue) → ((number queue : ℕ) (made : Call B) → Contains (added queue) made → MadeWith number made → ⊥) → ArePermits (stepped actor done parts) new
  permits_stay pictures actor done parts old new added is same calls unused = record {
    own = λ number there. is.permits.own number (subst (λ (stock : List ℕ). Contains stock number) same there);
    once = λ number. subst (λ (stock : List ℕ). stock_at number stock ≤ 1) (sym same) (is.permits.once number);
    unused = λ number queue made there called makes.
        elim (Contains-append_cases (old.calls queue) (added queue) made (subst (λ (xs : List (Call B)). Contains xs made) (calls queue) called)) [
          | inl c ↦ is.permits.unused number queue made (subst (λ (stock : List ℕ). Contains stock number) same there) c makes
          | inr c ↦ unused number queue made c makes
        ];
    enough =
        let fewer = fewer_dequeues actor.script.steps (length actor.trace) in
        let enough = is.permits.enough in
        let lengths = ap (λ (stock : List ℕ). length stock) same in
        subst (λ (n : ℕ). dequeues_in (drop n actor.script.steps) ≤ length parts.stock) (longer (length-append actor.trace (done ∷ []))) (omega (arith, fewer, enough, lengths));
  }
    where
      longer : length (actor.trace ++ done ∷ []) ≡ length actor.trace + 1 → suc (length actor.trace) ≡ length (actor.trace ++ done ∷ [])
      longer e = omega (arith, e)

  pub stays : (pictures : ℕ → Picture) (actor : ActorOf B) (done : Done) (old new : Share B) (added : ℕ → List (Call B)) → ActorKept pictures actor old → PartsStay actor done old new added → PartsMove pictures actor done actor.parts new
  stays pictures actor done old new added is stay = record {
    has = is.has ∙ sym stay.holdings;
    given = λ name held there.
        subst (λ (since : List ℕ). WasGivenAt new.calls (get_or since name 0) (Some (turn_held held))) (sym stay.since)
        (given_still old.calls new.calls added stay.calls (get_or (past_of actor).since name 0) (Some (turn_held held)) (is.given name held there));
    of_call = λ name held there. of_call_still old.calls new.calls added stay.calls held (is.of_call name held there);
    acquired = λ number txn there.
        All-weaker (HoldsAcquired old.calls) (HoldsAcquired new.calls)
        (λ (buffer : Buffer ReadLeaseOf). taken_still old.calls new.calls added stay.calls buffer.lease)
        txn.buffers (is.acquired number txn there);
    shows = is.shows;
    reached = stay.reached;
    permits = permits_stay pictures actor done actor.parts old new added is refl stay.calls stay.unused;
  }

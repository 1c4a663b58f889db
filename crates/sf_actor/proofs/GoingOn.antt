-- An actor's trace keeps what it keeps where what is known grows without an entry of it.
use Rattle.std.proofs.Common.{◌≡◌, ℕ, false, ◌==◌, Bool, List, [], ◌∷◌, ◌++◌, inl, inr, length, filter, arith, ap, ◌∙◌, sym, refl, subst, Option, Some, None}
use Rattle.std.specs.Prelude.{map, get_or, Contains}
use Rattle.std.specs.List.{All, AllPairs, AllZip, list_any}
use Rattle.std.proofs.lemmas.Bool.{cases_Bool, or_parts}
use Rattle.std.proofs.lemmas.List.Elements.{All-weaker}
use Rattle.std.proofs.lemmas.List.{append-nil, length-append, nil_from_length}
use Rattle.sf_base.specs.Fences.{Fence, IsSignalled}
use Rattle.sf_base.specs.declared.fences.Seen.{Seen}
use Rattle.sf_script_scene.specs.sf_picture.declared.picture.Picture.{Picture}
use Rattle.sf_token.specs.sf_calls.Histories.{GoesOnWithout, calls_by}
use Rattle.sf_surface.specs.declared.mark.QueueMark.{QueueMark}
use Rattle.sf_surface.specs.Histories.{Made}
use Rattle.sf_surface.specs.Tokens.{EndingOf, ReadLeaseOf}
use Rattle.sf_token.specs.Pending.{Arrival}
use Rattle.sf_actor.specs.declared.done.Answered.{Answered}
use Rattle.sf_actor.specs.declared.done.Done.{Done}
use Rattle.sf_script_scene.specs.declared.step.Step.{Step}
use Rattle.sf_script_scene.specs.declared.step.ActorScript.{ActorScript}
use Rattle.sf_actor.specs.declared.tried.Reply.{Reply}
use Rattle.sf_actor.specs.Asking.{call_of}
use Rattle.sf_actor.specs.Draws.{EntersCounted, IsInOrder, entered_in}
use Rattle.sf_actor.specs.Keeping.{TraceKept}
use Rattle.sf_actor.specs.Known.{AreAmong, Call, GoesOn, Known, Rise, Share, ShareGoesOn, arrivals_told, is_sent_by, own_calls, plain_arrival, share_of, told_by}
use Rattle.sf_actor.specs.Points.{detached_fence, waited_fence}
use Rattle.sf_actor.specs.Rights.{BringsGiven, EndsIn, HoldsAcquired, IsOfCall, SendsAcquired, Turn, WasGivenAt, WasPaid, issued_turn}
use Rattle.sf_actor.specs.Holdings.{turn_held}
use Rattle.sf_actor.specs.Steps.{sent_by}
use Rattle.sf_actor.specs.ScriptTraces.{IsMade, made_on, sent_as}
use Rattle.sf_actor.specs.Tests.{refusal_of}
use Rattle.sf_actor.specs.Traces.{AnswersCall, AnswersTests, AreAnswered, DoneAt, IsAnswered, IsPassed, Past, PassesFence, made_by, places_of, sends_of}
use Rattle.sf_actor.specs.Tries.{ActorKept, ActorOf, past_of}
use Rattle.sf_actor.specs.Written.{FrameNumber}

-- a fence that is signalled stays so
pub signalled_on : (fence : Fence) (old new : Seen) → Rise old new → IsSignalled fence old → IsSignalled fence new
signalled_on fence old new rise signalled t low high =
    let a = signalled t low high in
    let b = rise t low high in
    omega (arith, a, b)

passed_on : (fence : Option Fence) (old new : Seen) → Rise old new → IsPassed fence old → IsPassed fence new
passed_on None old new rise passed = tt
passed_on (Some fence) old new rise passed = signalled_on fence old new rise passed

fence_on : (fence : Option Fence) (old new : Seen) (shown : Fence) (answer : Answered) (P Q : Type 0) → Rise old new → (P → Q) → PassesFence fence old shown answer P → PassesFence fence new shown answer Q
fence_on None old new shown answer P Q rise goes passes = goes passes
fence_on (Some fence) old new shown answer P Q rise goes passes = elim passes [
  | inl refused ↦ inl refused
  | inr done ↦ inr (signalled_on fence old new rise done.0, goes done.1)
]

tests_on : (pictures : ℕ → Picture) (old new : Seen) (past : Past) (s : Step) (answer : Answered) (refusal : Option ℕ) → Rise old new → AnswersTests pictures old past s answer refusal → AnswersTests pictures new past s answer refusal
tests_on pictures old new past s answer (Some status) rise is = is
tests_on pictures old new past s answer None rise is =
    fence_on (detached_fence past.holdings s) old new past.shown answer
    (IsPassed (waited_fence past.holdings s) old × AnswersCall (call_of pictures past.holdings s) (sent_by past.holdings s) answer)
    (IsPassed (waited_fence past.holdings s) new × AnswersCall (call_of pictures past.holdings s) (sent_by past.holdings s) answer)
    rise (λ done. (passed_on (waited_fence past.holdings s) old new rise done.0, done.1)) is

pub answered_on : (pictures : ℕ → Picture) (old new : Seen) (trace : List Done) → Rise old new → AreAnswered pictures old trace → AreAnswered pictures new trace
answered_on pictures old new trace rise is =
    All-weaker (IsAnswered pictures old) (IsAnswered pictures new)
    (λ (at : DoneAt). tests_on pictures old new at.past at.done.step at.done.answered (refusal_of pictures at.past.holdings at.done.step) rise)
    (places_of trace) is

pub ends_there : (old new : List Turn) (ends : Option EndingOf) → AreAmong old new → EndsIn old ends → EndsIn new ends
ends_there old new None among is = tt
ends_there old new (Some ending) among is = among (ending.turn.buffer, ending.turn.number) is

-- arrivals of others are none of the actor's
none_sent : (actor : ℕ) (more : List (Arrival ReadLeaseOf)) → list_any (is_sent_by actor) more ≡ false → filter (is_sent_by actor) more ≡ []
none_sent actor [] none = refl
none_sent actor (a ∷ later) none =
    let parts = or_parts (is_sent_by actor a) (list_any (is_sent_by actor) later) none in
    rw parts.0 (none_sent actor later parts.1)

pub own_arrivals : (actor : ℕ) (arrivals more : List (Arrival ReadLeaseOf)) → list_any (is_sent_by actor) more ≡ false → filter (is_sent_by actor) (arrivals ++ more) ≡ filter (is_sent_by actor) arrivals
own_arrivals actor [] more none = none_sent actor more none
own_arrivals actor (a ∷ later) more none =
    let rest = own_arrivals actor later more none in
    elim (cases_Bool (is_sent_by actor a)) [
      | inl met ↦ rw met (ap (λ (xs : List (Arrival ReadLeaseOf)). a ∷ xs) rest)
      | inr unmet ↦ rw unmet rest
    ]

module _ {B : Type 0} where
  paid_there : (old new : Share B) (frame : FrameNumber) → ShareGoesOn old new → WasPaid old.left old.calls frame → WasPaid new.left new.calls frame
  paid_there old new frame goes was =
      (was.0, was.1, was.2, subst (λ (xs : List (Call B)). Contains xs was.1) (sym (goes.calls was.0)) was.3, was.4, was.5, goes.left (issued_turn was.2.turn) was.6)

  -- what was given at a place stays given there, and what was counted stays counted
  counted_on : (old new : Share B) (place : ℕ) → ShareGoesOn old new → EntersCounted old place → EntersCounted new place
  counted_on old new place goes counted =
      let was = counted.1 in
      let count = counted.2 in (
        counted.0,
        (was.0, was.1, subst (λ (xs : List (Call B)). Contains xs was.1) (sym (goes.calls was.0)) was.2, was.3, was.4),
        (let rise = goes.counts counted.0.0 in omega (arith, rise, count)),
      )

  -- the calls of one caller among more calls, made later
  calls_joined : (actor : ℕ) (more calls : List (Made B)) → calls_by actor (more ++ calls) ≡ calls_by actor more ++ calls_by actor calls
  calls_joined actor [] calls = refl
  calls_joined actor (made ∷ more) calls =
      let rest = calls_joined actor more calls in
      elim (cases_Bool (made.by == actor)) [
        | inl met ↦ rw met (ap (λ (xs : List (Made B)). made ∷ xs) rest)
        | inr unmet ↦ rw unmet rest
      ]

  -- where a caller has as many calls as before, none of the later ones is its
  none_later : (actor : ℕ) (more calls : List (Made B)) → calls_by actor (more ++ calls) ≡ calls_by actor calls → calls_by actor more ≡ []
  none_later actor more calls same =
      let joined = ap (λ (xs : List (Made B)). length xs) (sym (calls_joined actor more calls) ∙ same) in
      let sum = length-append (calls_by actor more) (calls_by actor calls) in
      nil_from_length (calls_by actor more) (omega (arith, joined, sum))

  -- calls of others add none of the actor's
  own_on : (actor : ℕ) (mark : QueueMark) (more calls : List (Made B)) → calls_by actor more ≡ [] → own_calls actor mark (more ++ calls) ≡ own_calls actor mark calls
  own_on actor mark [] calls none = refl
  own_on actor mark (made ∷ more) calls none =
      elim (cases_Bool (made.by == actor)) [
        | inl met ↦ let no : made ∷ calls_by actor more ≡ [] = rw met at none in cc
        | inr unmet ↦ rw unmet (append-nil (own_calls actor mark (more ++ calls)) ∙ own_on actor mark more calls (rw unmet at none))
      ]

  -- where a history goes on without a caller, the caller's calls in it stay
  pub own_same : (actor : ℕ) (mark : QueueMark) (old new : List (Made B)) → GoesOnWithout actor old new → own_calls actor mark new ≡ own_calls actor mark old
  own_same actor mark old new goes =
      ap (own_calls actor mark) goes.begins.1
      ∙ own_on actor mark goes.begins.0 old (none_later actor goes.begins.0 old (subst (λ (xs : List (Made B)). calls_by actor xs ≡ calls_by actor old) goes.begins.1 goes.calls))

  -- a share of which the calls and arrivals stay, and the rest grows
  pub share_on : (actor : ℕ) (old new : Known B) → GoesOn actor old new → ShareGoesOn (share_of actor old) (share_of actor new)
  share_on actor old new goes = record {
    calls = λ queue.
        ap (λ (m : QueueMark). own_calls actor m (new.calls queue)) (goes.marks queue)
        ∙ own_same actor (old.marks queue) (old.calls queue) (new.calls queue) (goes.calls queue);
    arrivals =
        ap (λ (tells : Bool). arrivals_told tells (filter (is_sent_by actor) new.arrivals)) goes.tells
        ∙ ap (arrivals_told old.tells)
        (ap (λ (xs : List (Arrival ReadLeaseOf)). filter (is_sent_by actor) xs) goes.arrivals.joined ∙ own_arrivals actor old.arrivals goes.arrivals.later goes.arrivals.none);
    values = goes.values;
    signals = goes.signals;
    left = goes.left;
    counts = goes.counts;
  }

  -- the law: what a trace keeps stays true
  pub kept_on : (pictures : ℕ → Picture) (script : ActorScript) (stock : List ℕ) (trace : List Done) (replies : List Reply) (old new : Share B) → ShareGoesOn old new → TraceKept pictures script stock trace replies old → TraceKept pictures script stock trace replies new
  kept_on pictures script stock trace replies old new goes kept =
      let calls : old.calls ≡ new.calls = λ i queue. sym (goes.calls queue) i in
      let before : (queue : ℕ) (made : Call B) → Contains (new.calls queue) made → Contains (old.calls queue) made = λ queue made there. subst (λ (xs : List (Call B)). Contains xs made) (goes.calls queue) there in
      record {
        is = record {
          first = kept.is.first;
          answered = answered_on pictures old.values new.values trace goes.values kept.is.answered;
          replied = kept.is.replied;
          made = λ queue. subst (λ (cs : ℕ → List (Call B)). AllZip IsMade (made_on queue (made_by pictures trace)) (map told_by (cs queue))) calls (kept.is.made queue);
          sent = subst (λ (xs : List (Arrival ReadLeaseOf)). map sent_as (map plain_arrival xs) ≡ sends_of trace) (sym goes.arrivals) kept.is.sent;
        };
        shows = λ queue made there. kept.shows queue made (before queue made there);
        tokens = λ queue. subst (λ (cs : ℕ → List (Call B)). AllZip (BringsGiven cs) (made_on queue (made_by pictures trace)) (cs queue)) calls (kept.tokens queue);
        sends =
            subst (λ (xs : List (Arrival ReadLeaseOf)). All (SendsAcquired new.calls) xs) (sym goes.arrivals)
            (subst (λ (cs : ℕ → List (Call B)). All (SendsAcquired cs) old.arrivals) calls kept.sends);
        permits = λ queue made permit there brings. kept.permits queue made permit (before queue made there) brings;
        once = λ number queue other made later there too mine theirs. kept.once number queue other made later (before queue made there) (before other later too) mine theirs;
        signals = λ p there. goes.signals p (kept.signals p there);
        ends = λ queue made there. ends_there old.left new.left made.made.reply.ends goes.left (kept.ends queue made (before queue made there));
        pays = λ frame there. paid_there old new frame goes (kept.pays frame there);
        turns = record {
          counted = All-weaker (EntersCounted old) (EntersCounted new) (λ (place : ℕ). counted_on old new place goes) (entered_in trace) kept.turns.counted;
          order = subst (λ (cs : ℕ → List (Call B)). AllPairs (IsInOrder cs) (entered_in trace)) calls kept.turns.order;
        };
      }

  -- the law, as a desk's user has it
  pub trace_on : (actor : ℕ) (pictures : ℕ → Picture) (script : ActorScript) (stock : List ℕ) (trace : List Done) (replies : List Reply) (old new : Known B) → GoesOn actor old new → TraceKept pictures script stock trace replies (share_of actor old) → TraceKept pictures script stock trace replies (share_of actor new)
  trace_on actor pictures script stock trace replies old new goes kept = kept_on pictures script stock trace replies (share_of actor old) (share_of actor new) (share_on actor old new goes) kept

  -- all that an actor keeps stays true
  pub actor_on : (pictures : ℕ → Picture) (actor : ActorOf B) (old new : Share B) → ShareGoesOn old new → ActorKept pictures actor old → ActorKept pictures actor new
  actor_on pictures actor old new goes is =
      let calls : old.calls ≡ new.calls = λ i queue. sym (goes.calls queue) i in
      record {
        kept = kept_on pictures actor.script actor.stock actor.trace actor.replies old new goes is.kept;
        has = is.has;
        given = λ name held there. subst (λ (cs : ℕ → List (Call B)). WasGivenAt cs (get_or (past_of actor).since name 0) (Some (turn_held held))) calls (is.given name held there);
        of_call = λ name held there. subst (λ (cs : ℕ → List (Call B)). IsOfCall cs held) calls (is.of_call name held there);
        acquired = λ number txn there. subst (λ (cs : ℕ → List (Call B)). All (HoldsAcquired cs) txn.buffers) calls (is.acquired number txn there);
        shows = is.shows;
        reached = signalled_on (past_of actor).shown old.values new.values goes.values is.reached;
        permits = record {
          own = is.permits.own;
          once = is.permits.once;
          unused = λ number queue made there called makes. is.permits.unused number queue made there (subst (λ (xs : List (Call B)). Contains xs made) (goes.calls queue) called) makes;
          enough = is.permits.enough;
        };
      }

  -- the law, as a desk's user has it
  pub keeps_on : (pictures : ℕ → Picture) (actor : ActorOf B) (old new : Known B) → GoesOn actor.script.number old new → ActorKept pictures actor (share_of actor.script.number old) → ActorKept pictures actor (share_of actor.script.number new)
  keeps_on pictures actor old new goes is = actor_on pictures actor (share_of actor.script.number old) (share_of actor.script.number new) (share_on actor.script.number old new goes) is

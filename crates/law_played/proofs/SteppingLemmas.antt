-- An actor's step, put together: a run in which it did one step more is the state after its next transition.
use Rattle.std.proofs.Common.{◌≡◌, ℕ, zero, suc, ◌+◌, ◌-◌, ◌<◌, ◌≤◌, Bool, true, false, List, [], ◌∷◌, ◌++◌, length, map, filter, get_or, max, replicate, take, Option, Some, None, refl, ap, sym, ◌∙◌, subst, true≢false, inl, inr, arith}
use Rattle.std.specs.Prelude.{◌==◌, ◌⊎◌, ◌&&◌, Contains, is_none, is_some, if◌then◌else◌, reverse}
use Rattle.std.specs.List.{All, AllZip, find, flat_map, list_any, range_with_len}
use Rattle.std.specs.Option.{option_map_or}
use Rattle.std.proofs.lemmas.Bool.{cases_eq, eq-eqb, eqb-true, le-leb, le-ltb, ltb-false, ne_eqb}
use Rattle.std.proofs.lemmas.List.{append-nil, append_cancel_left, get_or-reverse, length-reverse, length-set, map-append, reverse-append, reverse-reverse}
use Rattle.std.proofs.lemmas.List.Concat.{flat_map-append}
use Rattle.std.proofs.lemmas.List.Elements.{All-append, All-cons, All-filter, All-head, All-nil, All-tail, All-weaker, filter-append}
use Rattle.std.proofs.lemmas.List.Folds.{list_any_none}
use Rattle.std.proofs.lemmas.Option.{none-some}
use Rattle.sf_base.specs.Fences.{Fence, IsSignalled, first_open_of, no_points, open_from, value_of, with_point}
use Rattle.sf_base.specs.declared.fences.Seen.{Seen}
use Rattle.sf_script_scene.specs.sf_picture.declared.picture.Picture.{Picture}
use Rattle.sf_actor.specs.sf_slots.Replies.{reply_after}
use Rattle.sf_actor.specs.sf_slots.Tells.{AreReplies}
use Rattle.sf_actor.specs.sf_slots.declared.calls.Entry.{Entry}
use Rattle.sf_actor.specs.sf_slots.declared.calls.PlainReply.{PlainReply}
use Rattle.sf_actor.specs.sf_slots.declared.calls.PlainReply.TheVariants as reply
use Rattle.sf_commit.specs.sf_token.Pending.{Arrival}
use Rattle.sf_commit.specs.sf_txn.Transactions.{Contents}
use Rattle.sf_script_scene.specs.Scene.{SceneValue}
use Rattle.sf_script_scene.specs.declared.declarations.QueueDecl.{QueueDecl}
use Rattle.sf_script_scene.specs.declared.step.ActorScript.{ActorScript}
use Rattle.sf_script_scene.specs.declared.step.Step.{Step}
use Rattle.sf_script_scene.specs.declared.step.Step.TheVariants as step
use Rattle.sf_actor.specs.declared.done.Answered.{Answered}
use Rattle.sf_actor.specs.declared.done.Answered.TheVariants as answered
use Rattle.sf_actor.specs.declared.done.Done.{Done}
use Rattle.sf_actor.specs.Asking.{Asked, call_of, dequeue_of, may_wait, overtaken_by}
use Rattle.sf_actor.specs.Makers.{Run}
use Rattle.sf_actor.specs.Names.{FrameOf, Holdings}
use Rattle.sf_actor.specs.Points.{detached_fence, reached_by, waited_fence}
use Rattle.sf_actor.specs.Scripts.{picture_at, with_points}
use Rattle.sf_actor.specs.Steps.{sent_by, used_by, was_done}
use Rattle.sf_actor.specs.ScriptTraces.{IsMade, made_on, sent_as, step_done}
use Rattle.sf_actor.specs.Tests.{bad_value, refusal_of}
use Rattle.sf_actor.specs.Traces.{AnswersCall, AnswersTests, DoneAt, IsAnswered, IsPassed, is_blocked, MadeStep, PassesFence, SentStep, Source, made_at, made_by, overtaken, own_call, places_of, release_at, sends_of, sent_at, sent_with, source_in}
use Rattle.sf_actor.specs.Values.{reply_at}
use Rattle.sf_actor.specs.Written.{signal_of, signals_of}
use Rattle.sf_record.specs.declared.event.Event.TheVariants as event
use Rattle.law_played.proofs.OrderLemmas.{found_has, found_passes, kept_whole, numbers_behind}
use Rattle.law_played.proofs.StepLemmas.{each_with, last_has, made_so, other_calls, places_with, put_on, queue_calls, replies_front, step_is_next, zip_later, zip_none}
use Rattle.law_played.specs.Arrivals.{number_of}
use Rattle.law_played.specs.Replies.{reply_shown}
use Rattle.law_played.specs.Runs.{calls_of, final_values, is_sent_by, rising_actors}
use Rattle.law_played.specs.Stepping.{DoesOneMore, DrawsInTime}
use Rattle.law_played.specs.Stuck.{IsNotReady, call_blocks, has_open_point, holdings_at_end, is_blocked_on, next_step, step_waits}
use Rattle.law_played.specs.RunStates.{RunState, actor_transition, after_step, answer_by, answer_tested, arrival_by, asked_by, at_now, done_now, idle, is_open, is_open_at, reply_now, reply_on, script_transition, step_transition, waits_now, with_call, with_calls, with_list}

all_reverse : {X : Type 0} (P : X → Type 0) (xs : List X) → All P xs → All P (reverse xs)
all_reverse P xs all k d in' =
    let size = length-reverse xs in
    let inside : k < length xs = omega (arith, size, in') in
    subst P (sym (get_or-reverse xs k d inside)) (all (length xs - 1 - k) d (omega (arith, inside)))

put-on-reverse : (calls entries : List Entry) → put_on calls entries ≡ reverse entries ++ calls
put-on-reverse calls [] = refl
put-on-reverse calls (e ∷ es) =
    put-on-reverse (e ∷ calls) es ∙ (sym (append-step (reverse es) e calls) ∙ ap (λ (xs : List Entry). xs ++ calls) (sym (reverse-append (e ∷ []) es)))
  where
    append-step : (xs : List Entry) (x : Entry) (ys : List Entry) → (xs ++ x ∷ []) ++ ys ≡ xs ++ x ∷ ys
    append-step [] x ys = refl
    append-step (a ∷ xs) x ys = ap (λ (r : List Entry). a ∷ r) (append-step xs x ys)

-- what is not found is not there
not_there : {X : Type 0} (p : X → Bool) (xs : List X) → find p xs ≡ None → list_any p xs ≡ false
not_there p [] e = refl
not_there p (x ∷ xs) e = by_test (not_there p xs) (p x) refl e
  where
    by_test : (find p xs ≡ None → list_any p xs ≡ false) → (b : Bool) → p x ≡ b → find p (x ∷ xs) ≡ None → list_any p (x ∷ xs) ≡ false
    by_test rest true h none = absurd (none-some x (sym (rw h at none)))
    by_test rest false h none = rw h (rest (rw h at none))

-- a fence whose points are reached is not open, and one that is not has an open point
within_64 : (a n : ℕ) → 1 ≤ a → a + n ≤ 65 → All (λ t. (1 ≤ t) × (t ≤ 64)) (range_with_len a n)
within_64 a zero least most = All-nil (λ t. (1 ≤ t) × (t ≤ 64))
within_64 a (suc n) least most =
    All-cons (λ t. (1 ≤ t) × (t ≤ 64)) a (range_with_len (a + 1) n) (least, omega (arith, most)) (within_64 (a + 1) n (omega arith) (omega (arith, most)))

pub is_closed : (fence : Fence) (seen : Seen) → IsSignalled fence seen → list_any (is_open_at seen fence) (range_with_len 1 64) ≡ false
is_closed fence seen signalled =
    list_any_none (is_open_at seen fence) (range_with_len 1 64)
    (All-weaker (λ t. (1 ≤ t) × (t ≤ 64)) (λ t. is_open_at seen fence t ≡ false) (λ t is. le-ltb (value_of seen.values t) (value_of fence.values t) (signalled t is.0 is.1))
    (range_with_len 1 64) (within_64 1 64 (omega arith) (omega arith)))

any_false : (p : ℕ → Bool) (a n t : ℕ) → list_any p (range_with_len a n) ≡ false → a ≤ t → t < a + n → p t ≡ false
any_false p a zero t none least most = absurd (omega (arith, least, most))
any_false p a (suc n) t none least most = by_test (any_false p (a + 1) n t) (p a) refl none
  where
    by_test : (list_any p (range_with_len (a + 1) n) ≡ false → a + 1 ≤ t → t < a + 1 + n → p t ≡ false) → (b : Bool) → p a ≡ b → list_any p (range_with_len a (suc n)) ≡ false → p t ≡ false
    by_test rest true h none = absurd (true≢false (rw h at none))
    by_test rest false h none = elim (cases_eq a t) [
      | inl same ↦ subst (λ k. p k ≡ false) same h
      | inr apart ↦ rest (rw h at none) (omega (arith, least, apart)) (omega (arith, most))
    ]

pub is_opened : (fence : Fence) (seen : Seen) → (IsSignalled fence seen → ⊥) → list_any (is_open_at seen fence) (range_with_len 1 64) ≡ true
is_opened fence seen open' = by_test (list_any (is_open_at seen fence) (range_with_len 1 64)) refl
  where
    by_test : (b : Bool) → list_any (is_open_at seen fence) (range_with_len 1 64) ≡ b → list_any (is_open_at seen fence) (range_with_len 1 64) ≡ true
    by_test true e = e
    by_test false e = absurd (open' (λ t least most. ltb-false (value_of seen.values t) (value_of fence.values t) (any_false (is_open_at seen fence) 1 64 t e least (omega (arith, most)))))

-- a fence of 64 values whose points are reached has no open point
none_from : (t : ℕ) (vs ss : List ℕ) → ((k : ℕ) → k < length vs → get_or vs k 0 ≤ get_or ss k 0) → open_from t vs ss ≡ None
unfolding open_from
none_from t [] ss less = refl
none_from t (v ∷ vs) [] less = refl
none_from t (v ∷ vs) (s ∷ ss) less =
    let here : v ≤ s = less 0 (omega arith) in
    rw (le-leb v s here) (none_from (t + 1) vs ss (λ k in'. less (suc k) (omega (arith, in'))))

pub not_open : (fence : Fence) (seen : Seen) → length fence.values ≡ 64 → IsSignalled fence seen → has_open_point seen fence ≡ false
unfolding first_open_of
not_open fence seen long signalled =
    ap (λ o. is_some o) (none_from 1 fence.values seen.values (λ k in'.
    (let at : k + 1 - 1 ≡ k = omega arith in
    subst (λ n. get_or fence.values n 0 ≤ get_or seen.values n 0) at (signalled (k + 1) (omega arith) (omega (arith, long, in'))))))

-- nor has one, where 64 values are seen
none_seen : (t : ℕ) (vs ss : List ℕ) → ((k : ℕ) → k < length ss → get_or vs k 0 ≤ get_or ss k 0) → open_from t vs ss ≡ None
unfolding open_from
none_seen t [] ss less = refl
none_seen t (v ∷ vs) [] less = refl
none_seen t (v ∷ vs) (s ∷ ss) less =
    let here : v ≤ s = less 0 (omega arith) in
    rw (le-leb v s here) (none_seen (t + 1) vs ss (λ k in'. less (suc k) (omega (arith, in'))))

pub none_open : (fence : Fence) (seen : Seen) → length seen.values ≡ 64 → IsSignalled fence seen → has_open_point seen fence ≡ false
unfolding first_open_of
none_open fence seen long signalled =
    ap (λ o. is_some o) (none_seen 1 fence.values seen.values (λ k in'.
    (let at : k + 1 - 1 ≡ k = omega arith in
    subst (λ n. get_or fence.values n 0 ≤ get_or seen.values n 0) at (signalled (k + 1) (omega arith) (omega (arith, long, in'))))))

one_long : (t v : ℕ) → length (with_point no_points t v).values ≡ 64
unfolding with_point no_points
one_long t v = length-set (replicate 64 0) (t - 1) (max (get_or (replicate 64 0) (t - 1) 0) v)

-- a step that takes a buffer out of its queue signals nothing
no_signal : (holdings : Holdings) (s : Step) (fence : Fence) → detached_fence holdings s ≡ Some fence → signal_of s ≡ []
no_signal holdings (step.Signal t v) fence e = absurd (none-some fence e)
no_signal holdings s fence e = refl

-- all calls of a step are made at its place
own_at : (place : ℕ) (o : Option Asked) (a : Answered) (source : Source) → All (λ (m : MadeStep). m.step ≡ place) (own_call place o a source)
own_at place (Some asked) (answered.Called replied) source =
    All-cons (λ (m : MadeStep). m.step ≡ place) (record { step = place; asked = asked; told = Some replied; brings = source }) [] refl (All-nil (λ (m : MadeStep). m.step ≡ place))
own_at place o a source = All-nil (λ (m : MadeStep). m.step ≡ place)

released_at : (place : ℕ) (frames : List FrameOf) → All (λ (m : MadeStep). m.step ≡ place) (map (release_at place) frames)
released_at place [] = All-nil (λ (m : MadeStep). m.step ≡ place)
released_at place (f ∷ fs) = All-cons (λ (m : MadeStep). m.step ≡ place) (release_at place f) (map (release_at place) fs) refl (released_at place fs)

overtaken_at : (place : ℕ) (holdings : Holdings) (done : Done) → All (λ (m : MadeStep). m.step ≡ place) (overtaken place holdings done)
overtaken_at place holdings done = by_test (was_done done.answered)
  where
    by_test : (b : Bool) → All (λ (m : MadeStep). m.step ≡ place) (if b then map (release_at place) (overtaken_by holdings done.step) else [])
    by_test true = released_at place (overtaken_by holdings done.step)
    by_test false = All-nil (λ (m : MadeStep). m.step ≡ place)

made_there : (pictures : ℕ → Picture) (at : DoneAt) → All (λ (m : MadeStep). m.step ≡ at.place) (made_at pictures at)
made_there pictures at =
    All-append (λ (m : MadeStep). m.step ≡ at.place) (own_call at.place (call_of pictures at.past.holdings at.done.step) at.done.answered (source_in at.past.since (used_by at.done.step)))
    (overtaken at.place at.past.holdings at.done)
    (own_at at.place (call_of pictures at.past.holdings at.done.step) at.done.answered (source_in at.past.since (used_by at.done.step))) (overtaken_at at.place at.past.holdings at.done)

pub traces_kept : (scene : SceneValue) (by place : ℕ) (run : Run) (asked : List Asked) (actor : ℕ) → (with_calls scene by place run asked).trace actor ≡ run.trace actor
unfolding with_calls
traces_kept scene by place run [] actor = refl
traces_kept scene by place run (a ∷ later) actor = traces_kept scene by place (with_call scene by place run a) later actor

-- arrivals of one actor, as they were sent
sent_back : (actor : ℕ) (arrived : List (Arrival FrameOf)) → All (λ (a : Arrival FrameOf). a.actor.0 ≡ actor) arrived → map (arrival_by actor) (map sent_as arrived) ≡ arrived
sent_back actor [] all = refl
sent_back actor (a ∷ later) all =
    let own = All-head (λ (a : Arrival FrameOf). a.actor.0 ≡ actor) a later all in
    λ i. record { number = a.number; actor = record { 0 = sym own i }; step = a.step; txn = a.txn } ∷ sent_back actor later (All-tail (λ (a : Arrival FrameOf). a.actor.0 ≡ actor) a later all) i

module _ (scene : SceneValue) (state : RunState) (script : ActorScript) (done : Done) (later : Run) (arrived : List (Arrival FrameOf)) (d : DoesOneMore scene state script done later arrived) where
  abbrev by : ℕ
  by = script.number

  abbrev trace : List Done
  trace = state.run.trace script.number

  abbrev at : DoneAt
  at = at_now state script done

  abbrev pictures : ℕ → Picture
  pictures = picture_at scene.pictures

  abbrev made : List MadeStep
  made = made_at pictures at

  abbrev own_run : Run
  own_run = record state.run { trace = with_list state.run.trace script.number (trace ++ done ∷ []) }

  traced : later.trace script.number ≡ trace ++ done ∷ []
  traced = d.traces script.number ∙ rw (eq-eqb script.number script.number refl) refl

  pub next_is : next_step state.run script ≡ Some done.step
  next_is = step_is_next trace done script.steps (subst (λ t. map step_done t ≡ take (length t) script.steps) traced d.after.first)

  -- what was called since on a queue, the oldest call first
  abbrev newer : ℕ → List Entry
  newer queue = reverse (d.calls queue).more

  newer_own : (queue : ℕ) → All (λ (e : Entry). e.caller.0 ≡ by) (newer queue)
  newer_own queue = all_reverse (λ (e : Entry). e.caller.0 ≡ by) (d.calls queue).more (d.calls queue).own

  own_calls : (queue : ℕ) → calls_of by (later.calls queue) ≡ calls_of by (state.run.calls queue) ++ newer queue
  own_calls queue =
      ap (λ (es : List Entry). calls_of by es) (d.calls queue).joined
      ∙ (ap (filter (λ (e : Entry). e.caller.0 == by)) (reverse-append (d.calls queue).more (state.run.calls queue))
      ∙ (filter-append (λ (e : Entry). e.caller.0 == by) (reverse (state.run.calls queue)) (newer queue)
      ∙ ap (λ (es : List Entry). calls_of by (state.run.calls queue) ++ es) (kept_whole (λ (e : Entry). e.caller.0 == by) (newer queue)
      (All-weaker (λ (e : Entry). e.caller.0 ≡ by) (λ (e : Entry). (e.caller.0 == by) ≡ true) (λ e own. eq-eqb e.caller.0 by own) (newer queue) (newer_own queue)))))

  -- they are what the step made
  made_newer : (queue : ℕ) → AllZip IsMade (made_on queue made) (newer queue)
  made_newer queue =
      zip_later IsMade (made_on queue (made_by pictures trace)) (made_on queue made) (calls_of by (state.run.calls queue)) (newer queue) (d.before.made queue)
      (subst (λ ms. AllZip IsMade ms (calls_of by (state.run.calls queue) ++ newer queue))
      (ap (made_on queue) (ap (made_by pictures) traced ∙ each_with (made_at pictures) trace done) ∙ filter-append (λ (m : MadeStep). m.asked.0.0 == queue) (made_by pictures trace) made)
      (subst (λ es. AllZip IsMade (made_on queue (made_by pictures (later.trace script.number))) es) (own_calls queue) (d.after.made queue)))

  put_newer : (queue : ℕ) → put_on (state.run.calls queue) (newer queue) ≡ later.calls queue
  put_newer queue =
      put-on-reverse (state.run.calls queue) (newer queue)
      ∙ (ap (λ (es : List Entry). es ++ state.run.calls queue) (reverse-reverse (d.calls queue).more) ∙ sym (d.calls queue).joined)

  -- nothing was called on a queue that is not declared
  undeclared : (queue : ℕ) → find (λ (q : QueueDecl). q.number == queue) scene.queues ≡ None → (later.calls queue ≡ []) × (state.run.calls queue ≡ []) × (made_on queue made ≡ [])
  undeclared queue none =
      let empty = no_calls (later.calls queue) refl in
      let both : (d.calls queue).more ++ state.run.calls queue ≡ [] = sym (d.calls queue).joined ∙ empty in
      let no_more = first_empty (d.calls queue).more (state.run.calls queue) both in (
        empty,
        ap (λ (xs : List Entry). xs ++ state.run.calls queue) (sym no_more) ∙ both,
        zip_none IsMade (made_on queue made) (subst (λ (es : List Entry). AllZip IsMade (made_on queue made) es) (ap reverse no_more) (made_newer queue)),
      )
    where
      no_calls : (es : List Entry) → later.calls queue ≡ es → later.calls queue ≡ []
      no_calls [] e = e
      no_calls (x ∷ es) e =
          absurd (true≢false (sym (d.declared queue x (subst (λ (xs : List Entry). Contains xs x) (sym e) (zero, omega arith, refl))) ∙ not_there (λ (q : QueueDecl). q.number == queue) scene.queues none))

      first_empty : (xs ys : List Entry) → xs ++ ys ≡ [] → xs ≡ []
      first_empty [] ys e = refl
      first_empty (x ∷ xs) ys e = absurd (cc (e))

  declared_replies : (queue : QueueDecl) (number : ℕ) → find (λ (q : QueueDecl). q.number == number) scene.queues ≡ Some queue → AreReplies queue.width queue.height (later.calls queue.number)
  declared_replies queue number found = found_has (λ (q : QueueDecl). AreReplies q.width q.height (later.calls q.number)) (λ (q : QueueDecl). q.number == number) scene.queues queue d.replies found

  -- the calls on each queue
  calls_are : (queue : ℕ) → later.calls queue ≡ (with_calls scene by at.place own_run (map asked_by made)).calls queue
  calls_are queue = by_found (find (λ (q : QueueDecl). q.number == queue) scene.queues) refl
    where
      on_declared : (q : QueueDecl) → find (λ (o : QueueDecl). o.number == q.number) scene.queues ≡ Some q → later.calls q.number ≡ (with_calls scene by at.place own_run (map asked_by made)).calls q.number
      on_declared q found =
          sym (put_newer q.number)
          ∙ (made_so q.width q.height by at.place (state.run.calls q.number) (made_on q.number made) (newer q.number) (made_newer q.number)
          (All-filter (λ (m : MadeStep). m.asked.0.0 == q.number) (λ (m : MadeStep). m.step ≡ at.place) made (made_there pictures at)) (newer_own q.number)
          (subst (AreReplies q.width q.height) (sym (put_newer q.number)) (declared_replies q q.number found))
          ∙ sym (queue_calls scene by at.place q made own_run found))

      by_found : (o : Option QueueDecl) → find (λ (q : QueueDecl). q.number == queue) scene.queues ≡ o → later.calls queue ≡ (with_calls scene by at.place own_run (map asked_by made)).calls queue
      by_found None none =
          let empty = undeclared queue none in
          empty.0 ∙ (sym empty.1 ∙ sym (other_calls scene by at.place queue made own_run empty.2))
      by_found (Some q) found =
          let same : q.number ≡ queue = eqb-true q.number queue (found_passes (λ (o : QueueDecl). o.number == queue) scene.queues q found) in
          subst (λ n. later.calls n ≡ (with_calls scene by at.place own_run (map asked_by made)).calls n) same
          (on_declared q (subst (λ n. find (λ (o : QueueDecl). o.number == n) scene.queues ≡ Some q) (sym same) found))

  pub run_is : later ≡ with_calls scene by at.place own_run (map asked_by made)
  run_is = λ i. record {
    trace = λ actor. (d.traces actor ∙ sym (traces_kept scene by at.place own_run (map asked_by made) actor)) i;
    calls = λ queue. calls_are queue i;
  }

  -- what arrived
  sent_is : map sent_as arrived ≡ sent_at at
  sent_is =
      append_cancel_left (sends_of trace) (map sent_as arrived) (sent_at at)
      (ap (λ (xs : List SentStep). xs ++ map sent_as arrived) (sym d.before.sent)
      ∙ (sym (map-append sent_as (filter (is_sent_by by) state.arrivals) arrived)
      ∙ (ap (λ xs. map sent_as (filter (is_sent_by by) state.arrivals ++ xs)) (sym own_arrived)
      ∙ (ap (map sent_as) (sym (filter-append (is_sent_by by) state.arrivals arrived))
      ∙ (d.after.sent ∙ (ap sends_of traced ∙ each_with sent_at trace done))))))
    where
      own_arrived : filter (is_sent_by by) arrived ≡ arrived
      own_arrived = kept_whole (is_sent_by by) arrived
          (All-weaker (λ (a : Arrival FrameOf). a.actor.0 ≡ by) (λ (a : Arrival FrameOf). is_sent_by by a ≡ true) (λ a own. eq-eqb a.actor.0 by own) arrived d.sent)

  pub arrived_is : arrived ≡ map (arrival_by by) (sent_at at)
  arrived_is = sym (sent_back by arrived d.sent) ∙ ap (map (arrival_by by)) sent_is

  -- a step that signals nothing leaves the values as they are
  values_stay : signal_of done.step ≡ [] → final_values scene later ≡ final_values scene state.run
  values_stay none = ap (λ points. reached_by (with_points no_points points)) (λ i. flat_map (λ (s : ActorScript). each s.number i) (rising_actors scene))
    where
      each : (actor : ℕ) → signals_of (later.trace actor) ≡ signals_of (state.run.trace actor)
      each actor = ap signals_of (d.traces actor) ∙ by_actor (cases_eq actor by)
        where
          by_actor : (actor ≡ by) ⊎ (actor ≡ by → ⊥) → signals_of (with_list state.run.trace by (trace ++ done ∷ []) actor) ≡ signals_of (state.run.trace actor)
          by_actor (inl same) =
              rw (eq-eqb actor by same) (flat_map-append (λ (x : Done). signal_of x.step) trace (done ∷ [])
              ∙ (ap (λ (rest : List (ℕ × ℕ)). signals_of trace ++ (rest ++ [])) none ∙ (append-nil (signals_of trace) ∙ ap (λ n. signals_of (state.run.trace n)) (sym same))))
          by_actor (inr apart) = rw (ne_eqb actor by apart) refl

  abbrev holdings : Holdings
  holdings = holdings_at_end state.run script

  -- the reply of its own call is what the calls before it say
  replied_is : (asked : Asked) (replied : PlainReply) → call_of pictures holdings done.step ≡ Some asked → done.answered ≡ answered.Called replied → replied ≡ reply_now scene state.run by asked
  replied_is asked replied call answer =
      by_found (find (λ (q : QueueDecl). q.number == asked.0.0) scene.queues) refl
    where
      rest : List MadeStep
      rest = overtaken at.place at.past.holdings at.done

      first : MadeStep
      first = record { step = at.place; asked = asked; told = Some replied; brings = source_in at.past.since (used_by done.step) }

      made_is : made ≡ first ∷ rest
      made_is = λ i. own_call at.place (call i) (answer i) (source_in at.past.since (used_by done.step)) ++ rest

      on_queue : made_on asked.0.0 made ≡ first ∷ made_on asked.0.0 rest
      on_queue = ap (made_on asked.0.0) made_is ∙ rw (eq-eqb asked.0.0 asked.0.0 refl) refl

      by_entries : (q : QueueDecl) → q.number ≡ asked.0.0 → AreReplies q.width q.height (later.calls q.number) → (es : List Entry) → newer asked.0.0 ≡ es
          → replied ≡ reply_after q.width q.height (state.run.calls q.number) (record { 0 = by }) asked.1
      by_entries q same replies [] e =
          absurd (subst (λ (es : List Entry). AllZip IsMade (first ∷ made_on asked.0.0 rest) es) e (subst (λ ms. AllZip IsMade ms (newer asked.0.0)) on_queue (made_newer asked.0.0)))
      by_entries q same replies (x ∷ es) e =
          let zip = subst (λ (zs : List Entry). AllZip IsMade (first ∷ made_on asked.0.0 rest) zs) e (subst (λ ms. AllZip IsMade ms (newer asked.0.0)) on_queue (made_newer asked.0.0)) in
          let own = All-head (λ (z : Entry). z.caller.0 ≡ by) x es (subst (All (λ (z : Entry). z.caller.0 ≡ by)) e (newer_own asked.0.0)) in
          let put : put_on (state.run.calls asked.0.0) (x ∷ es) ≡ later.calls asked.0.0 = ap (put_on (state.run.calls asked.0.0)) (sym e) ∙ put_newer asked.0.0 in
          let legal = (replies_front q.width q.height (x ∷ state.run.calls asked.0.0) es
          (subst (AreReplies q.width q.height) (ap later.calls same ∙ sym put) replies)).0 in
          zip.0.reply ∙ (legal ∙ (λ i. reply_after q.width q.height (state.run.calls (sym same i)) (record { 0 = own i }) (zip.0.call i)))

      by_found : (o : Option QueueDecl) → find (λ (q : QueueDecl). q.number == asked.0.0) scene.queues ≡ o → replied ≡ reply_now scene state.run by asked
      by_found None none =
          absurd (cons_is_some (sym on_queue ∙ (undeclared asked.0.0 none).2))
        where
          cons_is_some : (first ∷ made_on asked.0.0 rest) ≡ [] → ⊥
          cons_is_some e = cc
      by_found (Some q) found =
          let same : q.number ≡ asked.0.0 = eqb-true q.number asked.0.0 (found_passes (λ (o : QueueDecl). o.number == asked.0.0) scene.queues q found) in
          by_entries q same (declared_replies q asked.0.0 found) (newer asked.0.0) refl
          ∙ sym (ap (λ o. option_map_or (reply_on state.run by asked) o reply.Done) found)

  -- the number of what it sent is the next one
  number_is : (txn : Contents FrameOf) (number : ℕ) → sent_by holdings done.step ≡ Some txn → done.answered ≡ answered.Sent number → number ≡ length state.arrivals + 1
  number_is txn number sent answer =
      let sends : map sent_as arrived ≡ record { step = at.place; number = number; txn = txn } ∷ [] = sent_is ∙ (λ i. sent_with at.place (answer i) (sent i)) in
      by_arrived arrived refl sends
    where
      by_arrived : (got : List (Arrival FrameOf)) → arrived ≡ got → map sent_as got ≡ record { step = at.place; number = number; txn = txn } ∷ [] → number ≡ length state.arrivals + 1
      by_arrived [] e sends = absurd (cc (sends))
      by_arrived (a ∷ rest) e sends =
          let numbers : map number_of (a ∷ rest) ≡ range_with_len (0 + length state.arrivals + 1) (length (a ∷ rest)) =
          subst (λ (got : List (Arrival FrameOf)). map number_of got ≡ range_with_len (0 + length state.arrivals + 1) (length got)) e (numbers_behind 0 state.arrivals arrived d.numbered) in
          let first : a.number ≡ 0 + length state.arrivals + 1 = ap (λ ns. get_or ns 0 0) numbers in
          let told : a.number ≡ number = (let same : sent_as a ≡ record { step = at.place; number = number; txn = txn } = cc in ap (λ (s : SentStep). s.number) same) in
          omega (arith, first, told)

  -- the answer of a step that no own test refuses
  answer_made : (call : Option Asked) (sent : Option (Contents FrameOf)) → call_of pictures holdings done.step ≡ call → sent_by holdings done.step ≡ sent → AnswersCall call sent done.answered
      → done.answered ≡ answer_by scene state by call sent
  answer_made (Some asked) sent call sends answers = answers.1 ∙ ap (λ r. answered.Called r) (replied_is asked answers.0 call answers.1)
  answer_made None (Some txn) call sends answers = answers.1 ∙ ap (λ n. answered.Sent n) (number_is txn answers.0 sends answers.1)
  answer_made None None call sends answers = answers

  answer_passed : (fence : Option Fence) (refusal : refusal_of pictures holdings done.step ≡ None) → detached_fence holdings done.step ≡ fence
      → PassesFence fence (final_values scene later) at.past.shown done.answered
      (IsPassed (waited_fence holdings done.step) (final_values scene later) × AnswersCall (call_of pictures holdings done.step) (sent_by holdings done.step) done.answered)
      → done.answered ≡ (if is_open scene state.run fence then answered.Own bad_value else answer_by scene state by (call_of pictures holdings done.step) (sent_by holdings done.step))
  answer_passed None refusal fence passes = answer_made (call_of pictures holdings done.step) (sent_by holdings done.step) refl refl passes.1
  answer_passed (Some fence) refusal detached passes = elim passes [
    | inl refused ↦ rw (is_opened fence (final_values scene state.run) (d.refused fence detached refusal refused.0)) refused.0
    | inr done' ↦
        let stay = values_stay (no_signal holdings done.step fence detached) in
        rw (is_closed fence (final_values scene state.run) (subst (IsSignalled fence) stay done'.0))
        (answer_made (call_of pictures holdings done.step) (sent_by holdings done.step) refl refl done'.1.1)
  ]

  answer_by_tests : (refusal : Option ℕ) → refusal_of pictures holdings done.step ≡ refusal → AnswersTests pictures (final_values scene later) at.past done.step done.answered refusal
      → done.answered ≡ answer_tested scene state script done.step refusal
  answer_by_tests (Some status) refusal answers = answers
  answer_by_tests None refusal answers = answer_passed (detached_fence holdings done.step) refusal refl answers

  answered_so : IsAnswered pictures (final_values scene later) at
  answered_so =
      last_has (IsAnswered pictures (final_values scene later)) (places_of trace) at
      (subst (All (IsAnswered pictures (final_values scene later))) (ap places_of traced ∙ places_with trace done) d.after.answered)

  -- what none of its own tests refused, and that takes no buffer out of its queue, was made
  was_made : refusal_of pictures holdings done.step ≡ None → detached_fence holdings done.step ≡ None
      → IsPassed (waited_fence holdings done.step) (final_values scene later) × AnswersCall (call_of pictures holdings done.step) (sent_by holdings done.step) done.answered
  was_made unrefused attached =
      subst (λ o. PassesFence o (final_values scene later) at.past.shown done.answered
      (IsPassed (waited_fence holdings done.step) (final_values scene later) × AnswersCall (call_of pictures holdings done.step) (sent_by holdings done.step) done.answered)) attached
      (subst (AnswersTests pictures (final_values scene later) at.past done.step done.answered) unrefused answered_so)

  -- a dequeue that waits was not refused for want of a slot
  slot_free : (asked : Asked) → call_of pictures holdings done.step ≡ Some asked → may_wait asked.1 ≡ true
      → AnswersCall (Some asked) (sent_by holdings done.step) done.answered → call_blocks scene state.run script (Some asked) ≡ false
  slot_free asked call waits answers = by_found (find (λ (q : QueueDecl). q.number == asked.0.0) scene.queues) refl
    where
      free : is_blocked (reply_now scene state.run by asked) ≡ false
      free = ap is_blocked (sym (replied_is asked answers.0 call answers.1)) ∙ rw waits at answers.2

      by_found : (o : Option QueueDecl) → find (λ (q : QueueDecl). q.number == asked.0.0) scene.queues ≡ o → call_blocks scene state.run script (Some asked) ≡ false
      by_found None none = ap (λ o. option_map_or (is_blocked_on state.run script asked) o false) none
      by_found (Some q) found =
          ap (λ o. option_map_or (is_blocked_on state.run script asked) o false) found
          ∙ (ap (λ o. is_blocked (option_map_or (reply_on state.run by asked) o reply.Done)) (sym found) ∙ free)

  -- it was time for the step, where it was for a draw
  in_time_by : (s : Step) → done.step ≡ s → DrawsInTime scene state script s → refusal_of pictures holdings s ≡ None → step_waits scene state.run script holdings s ≡ false
  in_time_by (step.Wait t v) same draws unrefused =
      let passed = (was_made (ap (refusal_of pictures holdings) same ∙ unrefused) (ap (detached_fence holdings) same)).0 in
      let signalled = subst (λ o. IsPassed o (final_values scene later)) (ap (waited_fence holdings) same) passed in
      not_open (with_point no_points t v) (final_values scene state.run) (one_long t v) (subst (IsSignalled (with_point no_points t v)) (values_stay (ap signal_of same)) signalled)
  in_time_by (step.Draw name picture) same draws unrefused = draws unrefused
  in_time_by (step.DequeueWait q name size) same draws unrefused =
      let answers = (was_made (ap (refusal_of pictures holdings) same ∙ unrefused) (ap (detached_fence holdings) same)).1 in
      let call = ap (call_of pictures holdings) same in
      slot_free (dequeue_of q size true) call refl (subst (λ o. AnswersCall o (sent_by holdings done.step) done.answered) call answers)
  in_time_by s same draws unrefused = refl

  pub in_time : DrawsInTime scene state script done.step → waits_now scene state script done.step ≡ false
  unfolding waits_now
  in_time draws = by_refusal (refusal_of pictures holdings done.step) refl
    where
      by_refusal : (o : Option ℕ) → refusal_of pictures holdings done.step ≡ o → (is_none (refusal_of pictures holdings done.step) && step_waits scene state.run script holdings done.step) ≡ false
      by_refusal None e = (λ i. is_none (e i) && in_time_by done.step refl draws e i)
      by_refusal (Some status) e = ap (λ o. is_none o && step_waits scene state.run script holdings done.step) e

  pub done_is : done_now scene state script done.step ≡ done
  unfolding done_now
  done_is = λ i. record { step = done.step; answered = sym (answer_by_tests (refusal_of pictures holdings done.step) refl answered_so) i }

  -- the transition of the actor
  pub transition_is : find (λ (s : ActorScript). s.number == by) scene.actors ≡ Some script → waits_now scene state script done.step ≡ false
      → actor_transition scene by state ≡ record { events = event.Reply (reply_shown (reply_at by at)) ∷ []; state = record state { run = later; arrivals = state.arrivals ++ arrived } }
  unfolding actor_transition
  transition_is found in_time =
      ap (script_transition scene state) found
      ∙ (ap (step_transition scene state script) next_is
      ∙ (ap (λ b. if b then idle state else after_step scene state script (done_now scene state script done.step)) in_time
      ∙ (ap (after_step scene state script) done_is
      ∙ (λ i. record {
        events = event.Reply (reply_shown (reply_at by at)) ∷ [];
        state = record state { run = sym run_is i; arrivals = state.arrivals ++ sym arrived_is i };
      }))))

-- a transition in which an actor does nothing: it has ended, or it is not time for its next step
pub idle_ended : (scene : SceneValue) (state : RunState) (script : ActorScript) → find (λ (s : ActorScript). s.number == script.number) scene.actors ≡ Some script
    → next_step state.run script ≡ None → actor_transition scene script.number state ≡ idle state
unfolding actor_transition
idle_ended scene state script found none = ap (script_transition scene state) found ∙ ap (step_transition scene state script) none

pub idle_waits : (scene : SceneValue) (state : RunState) (script : ActorScript) (s : Step) → find (λ (s : ActorScript). s.number == script.number) scene.actors ≡ Some script
    → next_step state.run script ≡ Some s → IsNotReady scene state.run script (Some s) → actor_transition scene script.number state ≡ idle state
unfolding actor_transition waits_now
idle_waits scene state script s found is not_ready =
    ap (script_transition scene state) found
    ∙ (ap (step_transition scene state script) is
    ∙ ap (λ b. if b then idle state else after_step scene state script (done_now scene state script s))
    ((λ i. is_none (not_ready.0 i) && step_waits scene state.run script (holdings_at_end state.run script) s) ∙ not_ready.1))

-- The turns of a play make the log of its state longer.
use Rattle.std.proofs.Common.{◌≡◌, ℕ, suc, zero, ◌+◌, ◌≤◌, Bool, true, false, ◌==◌, List, [], ◌∷◌, ◌++◌, length, reverse, Option, Some, None, refl, sym, ap, subst, ◌∙◌, inl, inr, arith}
use Rattle.std.proofs.lemmas.Bool.{cases_Bool}
use Rattle.std.proofs.lemmas.Bool.Decides.{nat_tests}
use Rattle.std.proofs.lemmas.List.{append-nil, reverse-append}
use Rattle.std.specs.Prelude.{◌⊎◌, if◌then◌else◌}
use Rattle.std.specs.List.{AllByRecursion}
use Rattle.law_played.specs.sf_actor.Asking.{Asked, call_of}
use Rattle.law_played.specs.sf_actor.Makers.{Run}
use Rattle.law_played.specs.sf_actor.Names.{FrameOf}
use Rattle.law_played.specs.sf_actor.Scripts.{picture_at}
use Rattle.law_played.specs.sf_actor.Steps.{sent_by}
use Rattle.law_played.specs.sf_actor.Traces.{SentStep, sent_with}
use Rattle.law_played.specs.sf_actor.declared.done.Answered.{Answered}
use Rattle.law_played.specs.sf_actor.declared.done.Answered.TheVariants as answered
use Rattle.law_played.specs.sf_actor.sf_slots.declared.calls.Entry.{Entry}
use Rattle.law_played.specs.sf_script_scene.Scene.{SceneValue}
use Rattle.law_played.specs.sf_script_scene.declared.step.ActorScript.{ActorScript}
use Rattle.law_played.specs.sf_script_scene.declared.step.Step.{Step}
use Rattle.law_played.specs.sf_txn.Transactions.{Contents}
use Rattle.law_played.specs.Stuck.{holdings_at_end}
use Rattle.law_played.specs.sf_actor.Points.{detached_fence}
use Rattle.law_played.specs.sf_actor.Tests.{bad_value}
use Rattle.law_played.specs.RunStates.{RunState, answer_by, answer_tested, is_open, reply_now, with_call, with_calls}
use Rattle.law_play_order.proofs.Logs.{AreNumbered, Arrived, Called, Follows, IsEnd, IsTimely, Moment, Vsynced, arrival_in, count, is_vsync, items, on, owner, step_of}
use Rattle.law_play_order.proofs.OrderOfTransitions.{IsCommitted, IsWithin, Tells}

-- nothing of an owner is of a later step
abbrev pub IsOlder : ℕ → ℕ → Moment → Type 0
IsOlder by place m = owner m ≡ by → step_of m ≤ place

-- what is known of a log to which calls of one owner's step were added
pub record Adds (by place most : ℕ) (log now : List Moment) : Type 0 where
  pub timely : IsTimely now
  pub older : AllByRecursion (IsOlder by place) now
  pub numbered : AreNumbered now
  pub within : AllByRecursion (IsWithin most) now
  pub arrivals : items arrival_in now ≡ items arrival_in log
  pub many : count is_vsync now ≡ count is_vsync log
  pub keeps : (a : Moment) (xs : List Moment) → IsEnd (a ∷ xs) log → IsEnd (a ∷ xs) now

-- the log after calls of one step
pub log_with : SceneValue → ℕ → ℕ → Run → List Asked → List Moment → List Moment
log_with scene by place run [] log = log
log_with scene by place run (asked ∷ later) log =
    log_with scene by place (with_call scene by place run asked) later
    (Called asked.0.0 (record { caller = record { 0 = by }; step = place; call = asked.1; reply = reply_now scene run by asked }) ∷ log)

follow_all : (by place : ℕ) (m : Moment) (log : List Moment) → ((older : Moment) → IsOlder by place older → Follows m older) → AllByRecursion (IsOlder by place) log → AllByRecursion (Follows m) log
follow_all by place m [] follows all = tt
follow_all by place m (x ∷ log) follows all = (follows x all.0, follow_all by place m log follows all.1)

pub calls_added : (scene : SceneValue) (by place most : ℕ) (run : Run) (asked : List Asked) (log : List Moment) → (by ≡ 0 → (1 ≤ place) × (place ≤ most))
    → IsTimely log → AllByRecursion (IsOlder by place) log → AreNumbered log → AllByRecursion (IsWithin most) log → Adds by place most log (log_with scene by place run asked log)
unfolding log_with
calls_added scene by place most run [] log low timely older numbered within =
    record { timely = timely; older = older; numbered = numbered; within = within; arrivals = refl; many = refl; keeps = λ a xs e. e }
calls_added scene by place most run (asked ∷ later) log low timely older numbered within =
    let m : Moment = Called asked.0.0 (record { caller = record { 0 = by }; step = place; call = asked.1; reply = reply_now scene run by asked }) in
    let rest = calls_added scene by place most (with_call scene by place run asked) later (m ∷ log) low
    (follow_all by place m log (λ older is. is) older, timely) ((λ same. omega arith), older) (tt, numbered) (low, within) in
    record {
      timely = rest.timely;
      older = rest.older;
      numbered = rest.numbered;
      within = rest.within;
      arrivals = rest.arrivals ∙ append-nil (items arrival_in log);
      many = rest.many ∙ plus_0 (count is_vsync log);
      keeps = λ a xs e. rest.keeps a xs (inr e);
    }
  where
    plus_0 : (n : ℕ) → 0 + n ≡ n
    plus_0 n = omega arith

-- a list with one more in front, reversed
reverse_more : {X : Type 0} (x : X) (xs : List X) → reverse (x ∷ xs) ≡ reverse xs ++ x ∷ []
reverse_more x xs = reverse-append (x ∷ []) xs

one_call : (scene : SceneValue) (by place : ℕ) (run : Run) (asked : Asked) (log : List Moment) (e : Entry) → e ≡ record { caller = record { 0 = by }; step = place; call = asked.1; reply = reply_now scene run by asked }
    → ((queue : ℕ) → items (on queue) log ≡ reverse (run.calls queue)) → (queue : ℕ) → items (on queue) (Called asked.0.0 e ∷ log) ≡ reverse ((with_call scene by place run asked).calls queue)
one_call scene by place run asked log e is told queue = by_queue (asked.0.0 == queue) refl
  where
    by_queue : (b : Bool) → (asked.0.0 == queue) ≡ b → items (on queue) (Called asked.0.0 e ∷ log) ≡ reverse ((with_call scene by place run asked).calls queue)
    by_queue true same =
        let number : asked.0.0 ≡ queue = grind (arith, nat_tests, same) in
        let back : (queue == asked.0.0) ≡ true = grind (arith, nat_tests, same) in
        rw (same, back) (ap (λ (l : List Entry). l ++ e ∷ []) (told queue) ∙ sym (reverse_more e (run.calls queue)) ∙ (λ i. reverse (is i ∷ run.calls (sym number i))))
    by_queue false unlike =
        let back : (queue == asked.0.0) ≡ false = grind (arith, nat_tests, unlike) in
        rw (unlike, back) (append-nil (items (on queue) log) ∙ told queue)

pub calls_told : (scene : SceneValue) (by place : ℕ) (run : Run) (asked : List Asked) (log : List Moment)
    → ((queue : ℕ) → items (on queue) log ≡ reverse (run.calls queue)) → (queue : ℕ) → items (on queue) (log_with scene by place run asked log) ≡ reverse ((with_calls scene by place run asked).calls queue)
unfolding log_with with_calls
calls_told scene by place run [] log told queue = told queue
calls_told scene by place run (asked ∷ later) log told queue =
    calls_told scene by place (with_call scene by place run asked) later
    (Called asked.0.0 (record { caller = record { 0 = by }; step = place; call = asked.1; reply = reply_now scene run by asked }) ∷ log)
    (one_call scene by place run asked log _ refl told) queue

pub same_trace : (scene : SceneValue) (by place : ℕ) (run : Run) (asked : List Asked) → (with_calls scene by place run asked).trace ≡ run.trace
unfolding with_calls
same_trace scene by place run [] = refl
same_trace scene by place run (asked ∷ later) = same_trace scene by place (with_call scene by place run asked) later

-- what a step sent: nothing, or one transaction
pub record SendsOne (place number : ℕ) (sent : List SentStep) : Type 0 where
  pub one : SentStep
  pub is : sent ≡ one ∷ []
  pub step : one.step ≡ place
  pub numbered : one.number ≡ number

pub sends : (place number : ℕ) (answer : Answered) (txn : Option (Contents FrameOf)) → ((n : ℕ) → answer ≡ answered.Sent n → n ≡ number) → (sent_with place answer txn ≡ []) ⊎ SendsOne place number (sent_with place answer txn)
sends place number (answered.Own status) txn only = inl refl
sends place number (answered.Called reply) txn only = inl refl
sends place number (answered.Sent n) None only = inl refl
sends place number (answered.Sent n) (Some txn) only = inr (record { one = record { step = place; number = n; txn = txn }; is = refl; step = refl; numbered = only n refl })

-- a step that sends is answered by the number that comes next
number_in : Answered → ℕ
number_in (answered.Own status) = 0
number_in (answered.Called reply) = 0
number_in (answered.Sent n) = n

number_sent : (n m : ℕ) → answered.Sent n ≡ answered.Sent m → n ≡ m
unfolding number_in
number_sent n m e = ap number_in e

pub answered_next : (scene : SceneValue) (state : RunState) (script : ActorScript) (s : Step) (refusal : Option ℕ) (n : ℕ) → answer_tested scene state script s refusal ≡ answered.Sent n → n ≡ length state.arrivals + 1
answered_next scene state script s (Some status) n e = absurd (cc (e))
answered_next scene state script s None n e = tested (is_open scene state.run (detached_fence (holdings_at_end state.run script) s)) e
  where
    called : (asked : Option Asked) (txn : Option (Contents FrameOf)) → answer_by scene state script.number asked txn ≡ answered.Sent n → n ≡ length state.arrivals + 1
    called (Some asked) txn e = absurd (cc (e))
    called None (Some txn) e = sym (number_sent (length state.arrivals + 1) n e)
    called None None e = absurd (cc (e))

    tested : (b : Bool) → (if b then answered.Own bad_value else answer_by scene state script.number (call_of (picture_at scene.pictures) (holdings_at_end state.run script) s) (sent_by (holdings_at_end state.run script) s)) ≡ answered.Sent n
        → n ≡ length state.arrivals + 1
    tested true e = absurd (cc (e))
    tested false e = called (call_of (picture_at scene.pictures) (holdings_at_end state.run script) s) (sent_by (holdings_at_end state.run script) s) e

-- how far each owner has come
abbrev pub progress : RunState → ℕ → ℕ
progress state zero = state.vsyncs
progress state (suc actor) = length (state.run.trace (suc actor))

abbrev pub IsDone : RunState → Moment → Type 0
IsDone state m = step_of m ≤ progress state (owner m)

-- what is known of a state along a play
pub record Keeps (state : RunState) (log : List Moment) : Type 0 where
  pub tells : Tells state log
  pub done : AllByRecursion (IsDone state) log

pub older_now : (state : RunState) (by place : ℕ) (log : List Moment) → progress state by ≤ place → AllByRecursion (IsDone state) log → AllByRecursion (IsOlder by place) log
older_now state by place [] low done = tt
older_now state by place (m ∷ log) low done =
    ((λ same. let here = subst (λ of. step_of m ≤ progress state of) same done.0 in omega (arith, here, low)), older_now state by place log low done.1)

absurd_by : (of by : ℕ) → of ≡ by → (of == by) ≡ false → ⊥
absurd_by of by same unlike = grind (arith, nat_tests, same, unlike)

-- after a step of an owner, who alone came further
pub done_after : (state now : RunState) (by place : ℕ) (log : List Moment) → progress now by ≡ place → ((of : ℕ) → progress state of ≤ progress now of) → AllByRecursion (IsOlder by place) log
    → AllByRecursion (λ m. (owner m ≡ by → ⊥) → step_of m ≤ progress state (owner m)) log → AllByRecursion (IsDone now) log
done_after state now by place [] is rises older others = tt
done_after state now by place (m ∷ log) is rises older others = (here, done_after state now by place log is rises older.1 others.1)
  where
    here : step_of m ≤ progress now (owner m)
    here = elim (cases_Bool (owner m == by)) [
      | inl met ↦ let same : owner m ≡ by = grind (arith, nat_tests, met) in let low = older.0 same in subst (λ n. step_of m ≤ n) (sym (ap (progress now) same ∙ is)) low
      | inr unmet ↦ let low = others.0 (λ same. absurd_by (owner m) by same unmet) in let rise = rises (owner m) in omega (arith, low, rise)
    ]

-- what holds of a log holds with calls of a step, where it holds of these
pub all_added : (scene : SceneValue) (by place : ℕ) (run : Run) (asked : List Asked) (log : List Moment) (P : Moment → Type 0) → ((queue : ℕ) (entry : Entry) → entry.caller.0 ≡ by → P (Called queue entry))
    → AllByRecursion P log → AllByRecursion P (log_with scene by place run asked log)
unfolding log_with
all_added scene by place run [] log P new all = all
all_added scene by place run (asked ∷ later) log P new all =
    all_added scene by place (with_call scene by place run asked) later
    (Called asked.0.0 (record { caller = record { 0 = by }; step = place; call = asked.1; reply = reply_now scene run by asked }) ∷ log) P new (new asked.0.0 _ refl, all)

pub others_of : (state : RunState) (by : ℕ) (log : List Moment) → AllByRecursion (IsDone state) log → AllByRecursion (λ m. (owner m ≡ by → ⊥) → step_of m ≤ progress state (owner m)) log
others_of state by [] done = tt
others_of state by (m ∷ log) done = ((λ apart. done.0), others_of state by log done.1)

pub wider : (most more : ℕ) (log : List Moment) → most ≤ more → AllByRecursion (IsWithin most) log → AllByRecursion (IsWithin more) log
wider most more [] low all = tt
wider most more (Called queue entry ∷ log) low all = ((λ same. let w = all.0 same in let high = w.1 in (w.0, omega (arith, high, low))), wider most more log low all.1)
wider most more (Arrived arrived ∷ log) low all = (tt, wider most more log low all.1)
wider most more (Vsynced number ∷ log) low all = (tt, wider most more log low all.1)

-- a commit stays in a log that has more
pub still_committed : (log now : List Moment) (vsync number : ℕ) → ((a : Moment) (xs : List Moment) → IsEnd (a ∷ xs) log → IsEnd (a ∷ xs) now) → IsCommitted log vsync number → IsCommitted now vsync number
still_committed log now vsync number keeps c = record { older = c.older; end = keeps (Vsynced vsync) c.older c.end; arrival = c.arrival; before = c.before; there = c.there; numbered = c.numbered }

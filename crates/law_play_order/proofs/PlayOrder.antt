-- Each turn of a play, and so a whole play, has a log.
use Rattle.std.proofs.Common.{◌≡◌, ℕ, suc, zero, ◌+◌, ◌*◌, ◌≤◌, Bool, true, false, ◌==◌, List, [], ◌∷◌, ◌++◌, length, map, reverse, Option, Some, None, refl, sym, ap, subst, ◌∙◌, inl, inr, arith, Contains}
use Rattle.std.proofs.lemmas.Bool.Decides.{nat_tests}
use Rattle.std.proofs.lemmas.List.{append-nil, length-append}
use Rattle.std.proofs.lemmas.List.Concat.{flat_map-append}
use Rattle.std.proofs.lemmas.List.Elements.{All-from_recursion, Contains-append_cases}
use Rattle.std.specs.Prelude.{All, ◌⊎◌, if◌then◌else◌, find}
use Rattle.std.specs.List.{AllByRecursion, flat_map}
use Rattle.law_order.specs.Order.{InOneOrder}
use Rattle.law_played.specs.sf_commit.Rounds.{Leads, Round, committed, facts_of}
use Rattle.law_played.specs.sf_commit.declared.vsync.Commit.{Commit}
use Rattle.law_played.specs.sf_actor.Asking.{Asked}
use Rattle.law_played.specs.sf_actor.Makers.{Run}
use Rattle.law_played.specs.sf_actor.Names.{FrameOf}
use Rattle.law_played.specs.sf_actor.Scripts.{picture_at}
use Rattle.law_played.specs.sf_actor.Traces.{SentStep, made_at, sent_at}
use Rattle.law_played.specs.sf_actor.declared.done.Done.{Done}
use Rattle.law_played.specs.sf_record.declared.event.Event.{Event}
use Rattle.law_played.specs.sf_record.declared.event.Event.TheVariants as event
use Rattle.law_played.specs.sf_record.declared.event.VsyncRecords.{VsyncRecords}
use Rattle.law_played.specs.sf_record.declared.record.CommitRecord.{CommitRecord}
use Rattle.law_played.specs.sf_script_scene.Scene.{SceneValue}
use Rattle.law_played.specs.sf_script_scene.declared.step.ActorScript.{ActorScript}
use Rattle.law_played.specs.sf_script_scene.declared.step.Step.{Step}
use Rattle.law_played.specs.sf_token.Pending.{Arrival}
use Rattle.law_played.specs.Arrivals.{entry_of}
use Rattle.law_played.specs.Histories.{history_shown, rising_queues}
use Rattle.law_played.specs.Plays.{Comes, GoesOnWith, IsBegun, IsPlay, Playing, TakesTransition, first_playing, goes, stays}
use Rattle.law_played.specs.Vsyncs.{vsync_in, vsyncs_in}
use Rattle.sf_commit.proofs.DecideLemmas.{all_left}
use Rattle.law_played.proofs.OrderLemmas.{found_has}
use Rattle.law_played.proofs.PathLemmas.{commits_along, ready_next, told_along}
use Rattle.std.proofs.lemmas.List.Elements.{All-filter}
use Rattle.sf_base.specs.declared.fences.Seen.{Seen}
use Rattle.law_played.specs.sf_actor.Steps.{sent_by}
use Rattle.law_played.specs.sf_actor.Tests.{refusal_of}
use Rattle.law_played.specs.sf_token.Pending.{is_of}
use Rattle.law_played.specs.Commits.{commit_shown, is_written}
use Rattle.law_played.specs.Holds.{is_uncommitted, uncommitted}
use Rattle.law_played.specs.Progress.{released_by}
use Rattle.law_played.specs.Runs.{final_values, written_in}
use Rattle.law_played.specs.Stuck.{holdings_at_end, next_step}
use Rattle.law_played.specs.Vsyncs.{commits_in}
use Rattle.law_played.specs.RunStates.{DecidesNow, release_asked, report_of, reports_if, reports_of, round_now, Transition, VsyncTransition, RunState, actor_transition, after_step, after_vsync, arrival_by, asked_by, at_now, done_now, idle, script_transition, step_transition, waits_now, with_calls, with_list}
use Rattle.law_play_order.proofs.Logs.{Arrived, Called, Follows, IsEnd, Moment, Vsynced, arrival_in, count, is_vsync, items, on, owner, step_of}
use Rattle.law_play_order.proofs.InOrder.{in_order}
use Rattle.law_play_order.proofs.OrderOfTransitions.{IsCommitted, happened, items_long, some_is}
use Rattle.law_play_order.proofs.Turns.{Adds, all_added, others_of, still_committed, wider, IsOlder, Keeps, SendsOne, answered_next, calls_added, calls_told, done_after, log_with, older_now, progress, same_trace, sends}

-- a turn leads to a state that has a log, and shows the vsyncs that this state has more
pub record GoesOn (state : RunState) (turn : Transition) : Type 0 where
  pub log : List Moment
  pub keeps : Keeps turn.state log
  pub reports : turn.state.reports ≡ state.reports ++ vsyncs_in turn.events

idle_on : (state : RunState) (log : List Moment) → Keeps state log → GoesOn state (idle state)
unfolding vsyncs_in
idle_on state log keeps = record { log = log; keeps = keeps; reports = sym (append-nil state.reports) }

-- the state after a step, as far as calls go
abbrev pub run_with : RunState → ℕ → Done → Run
run_with state by done = record state.run { trace = with_list state.run.trace by (state.run.trace by ++ done ∷ []) }

trace_here : (state : RunState) (by : ℕ) (done : Done) → length (with_list state.run.trace by (state.run.trace by ++ done ∷ []) by) ≡ length (state.run.trace by) + 1
trace_here state by done = let same : (by == by) ≡ true = grind (arith, nat_tests) in rw same (length-append (state.run.trace by) (done ∷ []))

trace_rises : (state : RunState) (by : ℕ) (done : Done) (of : ℕ) → length (state.run.trace of) ≤ length (with_list state.run.trace by (state.run.trace by ++ done ∷ []) of)
trace_rises state by done of = at (of == by) refl
  where
    at : (b : Bool) → (of == by) ≡ b → length (state.run.trace of) ≤ length (with_list state.run.trace by (state.run.trace by ++ done ∷ []) of)
    at true e = let same : of ≡ by = grind (arith, nat_tests, e) in let long = length-append (state.run.trace by) (done ∷ []) in rw e (subst (λ n. length (state.run.trace n) ≤ length (state.run.trace by ++ done ∷ [])) (sym same) (omega (arith, long)))
    at false e = rw e (omega arith)

progress_of : (state : RunState) (by actor : ℕ) → by ≡ suc actor → progress state by ≡ length (state.run.trace by)
progress_of state by actor e = subst (λ n. progress state n ≡ length (state.run.trace n)) (sym e) refl

-- a step of an actor was done
module _ (scene : SceneValue) (state : RunState) (script : ActorScript) (s : Step) (actor : ℕ) (log : List Moment) (number : script.number ≡ suc actor) (keeps : Keeps state log) where
  done_here : Done
  done_here = done_now scene state script s

  place_here : ℕ
  place_here = length (state.run.trace script.number) + 1

  asked_here : List Asked
  asked_here = map asked_by (made_at (picture_at scene.pictures) (at_now state script done_here))

  run_here : Run
  run_here = run_with state script.number done_here

  called : List Moment
  called = log_with scene script.number place_here run_here asked_here log

  old_ones : AllByRecursion (IsOlder script.number place_here) log
  unfolding place_here
  old_ones = let own = progress_of state script.number actor number in older_now state script.number place_here log (omega (arith, own)) keeps.done

  adds : Adds script.number place_here state.vsyncs log called
  unfolding called
  adds = calls_added scene script.number place_here state.vsyncs run_here asked_here log (λ none. absurd (cc (sym none ∙ number))) keeps.tells.timely old_ones keeps.tells.numbered keeps.tells.within

  others : AllByRecursion (λ m. (owner m ≡ script.number → ⊥) → step_of m ≤ progress state (owner m)) called
  unfolding called
  others = all_added scene script.number place_here run_here asked_here log (λ m. (owner m ≡ script.number → ⊥) → step_of m ≤ progress state (owner m)) (λ queue entry same apart. absurd (apart same)) (others_of state script.number log keeps.done)

  next_state : RunState
  next_state = (after_step scene state script done_here).state

  own_progress : progress next_state script.number ≡ place_here
  unfolding next_state place_here done_here run_here with_calls done_now asked_here
  own_progress =
      progress_of next_state script.number actor number
      ∙ ap (λ (trace : ℕ → List Done). length (trace script.number)) (same_trace scene script.number place_here run_here asked_here)
      ∙ trace_here state script.number done_here

  all_rise : (of : ℕ) → progress state of ≤ progress next_state of
  unfolding next_state done_here place_here asked_here run_here
  all_rise zero = omega arith
  all_rise (suc other) =
      subst (λ (trace : ℕ → List Done). length (state.run.trace (suc other)) ≤ length (trace (suc other))) (sym (same_trace scene script.number place_here run_here asked_here)) (trace_rises state script.number done_here (suc other))

  commits_stay : (now : List Moment) → ((a : Moment) (xs : List Moment) → IsEnd (a ∷ xs) log → IsEnd (a ∷ xs) now)
      → (at : VsyncRecords) (commit : CommitRecord) → Contains state.reports at → Contains at.commits commit → IsCommitted now at.number commit.arrival
  commits_stay now keep at commit there has = still_committed log now at.number commit.arrival keep (keeps.tells.commits at commit there has)

  nothing_sent : sent_at (at_now state script done_here) ≡ [] → Keeps next_state called
  unfolding next_state called done_here place_here asked_here run_here
  nothing_sent none = record {
    tells = record {
      timely = adds.timely;
      numbered = adds.numbered;
      calls = calls_told scene script.number place_here run_here asked_here log keeps.tells.calls;
      arrivals = adds.arrivals ∙ keeps.tells.arrivals ∙ sym (ap (λ (sent : List SentStep). state.arrivals ++ map (arrival_by script.number) sent) none ∙ append-nil state.arrivals);
      many = adds.many ∙ keeps.tells.many;
      within = adds.within;
      commits = commits_stay called adds.keeps;
    };
    done = done_after state next_state script.number place_here called own_progress all_rise adds.older others;
  }

  arrived_here : SentStep → Moment
  arrived_here sent = Arrived (arrival_by script.number sent)

  follow_them : (sent : SentStep) → sent.step ≡ place_here → (older : List Moment) → AllByRecursion (IsOlder script.number place_here) older → AllByRecursion (Follows (arrived_here sent)) older
  unfolding arrived_here
  follow_them sent step [] all = tt
  follow_them sent step (m ∷ older) all = ((λ same. let low = all.0 same in subst (λ n. step_of m ≤ n) (sym step) low), follow_them sent step older all.1)

  one_sent : (one : SendsOne place_here (length state.arrivals + 1) (sent_at (at_now state script done_here))) → Keeps next_state (arrived_here one.one ∷ called)
  unfolding arrived_here next_state called done_here place_here asked_here run_here
  one_sent one =
      let log_now = called in
      let many = items_long arrival_in called in
      let same = ap length (adds.arrivals ∙ keeps.tells.arrivals) in
      let its = one.numbered in
      record {
        tells = record {
          timely = (follow_them one.one one.step called adds.older, adds.timely);
          numbered = (omega (arith, many, same, its), adds.numbered);
          calls = λ queue. append-nil (items (on queue) called) ∙ calls_told scene script.number place_here run_here asked_here log keeps.tells.calls queue;
          arrivals = ap (λ (l : List (Arrival FrameOf)). l ++ arrival_by script.number one.one ∷ []) (adds.arrivals ∙ keeps.tells.arrivals)
              ∙ sym (ap (λ (sent : List SentStep). state.arrivals ++ map (arrival_by script.number) sent) one.is);
          many = plus_0 (count is_vsync called) ∙ adds.many ∙ keeps.tells.many;
          within = (tt, adds.within);
          commits = commits_stay (arrived_here one.one ∷ called) (λ a xs e. inr (adds.keeps a xs e));
        };
        done = done_after state next_state script.number place_here (arrived_here one.one ∷ called) own_progress all_rise
            ((λ is. let step = one.step in omega (arith, step)), adds.older) ((λ apart. absurd (apart refl)), others);
      }
    where
      plus_0 : (n : ℕ) → 0 + n ≡ n
      plus_0 n = omega arith

  step_on : GoesOn state (after_step scene state script (done_now scene state script s))
  unfolding next_state done_here done_now place_here vsyncs_in
  step_on = by (sends place_here (length state.arrivals + 1) done_here.answered (sent_by (at_now state script done_here).past.holdings s)
      (λ n e. answered_next scene state script s (refusal_of (picture_at scene.pictures) (holdings_at_end state.run script) s) n e))
    where
      by : (sent_at (at_now state script done_here) ≡ []) ⊎ SendsOne place_here (length state.arrivals + 1) (sent_at (at_now state script done_here)) → GoesOn state (after_step scene state script done_here)
      by (inl none) = record { log = called; keeps = nothing_sent none; reports = sym (append-nil state.reports) }
      by (inr one) = record { log = arrived_here one.one ∷ called; keeps = one_sent one; reports = sym (append-nil state.reports) }

found_has_test : {X : Type 0} (p : X → Bool) (xs : List X) (x : X) → find p xs ≡ Some x → p x ≡ true
found_has_test p [] x e = absurd (cc (e))
found_has_test {X} p (y ∷ xs) x e = by (p y) refl (found_has_test p xs x)
  where
    by : (b : Bool) → p y ≡ b → (find p xs ≡ Some x → p x ≡ true) → p x ≡ true
    by true t rest = let same : y ≡ x = some_is y x (rw t at e) in subst (λ (z : X). p z ≡ true) same t
    by false t rest = rest (rw t at e)

actor_on : (scene : SceneValue) (actor : ℕ) (state : RunState) (log : List Moment) → Keeps state log → GoesOn state (actor_transition scene (suc actor) state)
unfolding actor_transition
actor_on scene actor state log keeps = by (find (λ (script : ActorScript). script.number == suc actor) scene.actors) refl
  where
    stepped : (script : ActorScript) (next : Option Step) → script.number ≡ suc actor → GoesOn state (step_transition scene state script next)
    stepped script None number = idle_on state log keeps
    stepped script (Some s) number = waits (waits_now scene state script s)
      where
        waits : (b : Bool) → GoesOn state (if b then idle state else after_step scene state script (done_now scene state script s))
        waits true = idle_on state log keeps
        waits false = step_on scene state script s actor log number keeps

    is_of_number : (script : ActorScript) → find (λ (script : ActorScript). script.number == suc actor) scene.actors ≡ Some script → script.number ≡ suc actor
    is_of_number script e =
        let met : (script.number == suc actor) ≡ true = found_has_test (λ (script : ActorScript). script.number == suc actor) scene.actors script e in
        grind (arith, nat_tests, met)

    by : (o : Option ActorScript) → find (λ (script : ActorScript). script.number == suc actor) scene.actors ≡ o → GoesOn state (script_transition scene state o)
    by None e = idle_on state log keeps
    by (Some script) e = stepped script (next_step state.run script) (is_of_number script e)

-- an arrival is in the log
record InLog (log : List Moment) (a : Arrival FrameOf) : Type 0 where
  older : List Moment
  end : IsEnd (Arrived a ∷ older) log

both_all : {X : Type 0} (P : X → Type 0) (xs ys : List X) → AllByRecursion P xs → AllByRecursion P ys → AllByRecursion P (xs ++ ys)
both_all P [] ys p q = q
both_all P (x ∷ xs) ys p q = (p.0, both_all P xs ys p.1 q)

weaker_all : {X : Type 0} (P Q : X → Type 0) (xs : List X) → ((x : X) → P x → Q x) → AllByRecursion P xs → AllByRecursion Q xs
weaker_all P Q [] f all = tt
weaker_all P Q (x ∷ xs) f all = (f x all.0, weaker_all P Q xs f all.1)

arrivals_there : (log : List Moment) → AllByRecursion (InLog log) (items arrival_in log)
arrivals_there [] = tt
arrivals_there (Called queue entry ∷ log) =
    subst (AllByRecursion (InLog (Called queue entry ∷ log))) (sym (append-nil (items arrival_in log)))
    (weaker_all (InLog log) (InLog (Called queue entry ∷ log)) (items arrival_in log) (λ a i. record { older = i.older; end = inr i.end }) (arrivals_there log))
arrivals_there (Vsynced number ∷ log) =
    subst (AllByRecursion (InLog (Vsynced number ∷ log))) (sym (append-nil (items arrival_in log)))
    (weaker_all (InLog log) (InLog (Vsynced number ∷ log)) (items arrival_in log) (λ a i. record { older = i.older; end = inr i.end }) (arrivals_there log))
arrivals_there (Arrived arrived ∷ log) =
    both_all (InLog (Arrived arrived ∷ log)) (items arrival_in log) (arrived ∷ [])
    (weaker_all (InLog log) (InLog (Arrived arrived ∷ log)) (items arrival_in log) (λ a i. record { older = i.older; end = inr i.end }) (arrivals_there log))
    (record { older = log; end = inl refl }, tt)

-- what is told of a commit is of an arrival in the log
record OfArrival (log : List Moment) (told : Commit) : Type 0 where
  arrival : Arrival FrameOf
  there : InLog log arrival
  number : arrival.number ≡ told.number

all_told : (drawn : FrameOf → Bool) (seen : Seen) (expected : ℕ) (log : List Moment) (r end : Round FrameOf) (taken : List (Arrival FrameOf)) → All (InLog log) r.pending → Leads drawn seen expected r taken end
    → AllByRecursion (OfArrival log) (told_along r taken)
all_told drawn seen expected log r end [] pending leads = tt
all_told drawn seen expected log r end (a ∷ later) pending leads =
    let next = ready_next drawn seen expected (facts_of r) r.pending a leads.0.0 in (
      record { arrival = a; there = found_has (InLog log) (is_of a.txn.token) r.pending a pending next.head; number = refl },
      all_told drawn seen expected log (committed r a) end later (all_left (InLog log) (is_of a.txn.token) r.pending pending) leads.1,
    )

-- one that was told is shown
record ShownOf {X Y : Type 0} (P : X → Type 0) (f : X → Y) (y : Y) : Type 0 where
  from : X
  has : P from
  is : f from ≡ y

shown_of : {X Y : Type 0} (P : X → Type 0) (f : X → Y) (xs : List X) (y : Y) → AllByRecursion P xs → Contains (map f xs) y → ShownOf P f y
shown_of P f [] y all c = absurd (omega (arith, c.1))
shown_of P f (x ∷ xs) y all (zero, low, e) = record { from = x; has = all.0; is = e }
shown_of P f (x ∷ xs) y all (suc k, low, e) = shown_of P f xs y all.1 (k, omega (arith, low), e)

only_vsyncs : (reports : List VsyncRecords) → flat_map vsync_in (map event.Vsync reports) ≡ reports
only_vsyncs [] = refl
only_vsyncs (report ∷ reports) = ap (λ (later : List VsyncRecords). report ∷ later) (only_vsyncs reports)

-- the report of a vsync, if there is one
reported : (report at : VsyncRecords) (commits : List CommitRecord) → Contains (reports_if report commits) at → report ≡ at
reported report at [] c = absurd (omega (arith, c.1))
reported report at (commit ∷ commits) (zero, low, e) = e
reported report at (commit ∷ commits) (suc k, low, e) = absurd (omega (arith, low))

module _ (scene : SceneValue) (state : RunState) (end : Round FrameOf) (log : List Moment) (decides : DecidesNow scene state ((state.vsyncs + 1) * scene.period) end) (keeps : Keeps state log) where
  begun_here : List Moment
  begun_here = Vsynced (state.vsyncs + 1) ∷ log

  asked_back : List Asked
  asked_back = map release_asked (released_by (report_of scene state end) end.stage.gone)

  given_back : List Moment
  given_back = log_with scene 0 (state.vsyncs + 1) state.run asked_back begun_here

  next_one : RunState
  next_one = (after_vsync scene state end).state

  vsync_follows : (older : List Moment) → AllByRecursion (IsOlder 0 state.vsyncs) older → AllByRecursion (Follows (Vsynced (state.vsyncs + 1))) older
  vsync_follows [] all = tt
  vsync_follows (m ∷ older) all = ((λ same. let low = all.0 same in omega (arith, low)), vsync_follows older all.1)

  one_more : (older : List Moment) → AllByRecursion (IsOlder 0 state.vsyncs) older → AllByRecursion (IsOlder 0 (state.vsyncs + 1)) older
  one_more [] all = tt
  one_more (m ∷ older) all = ((λ same. let low = all.0 same in omega (arith, low)), one_more older all.1)

  gives : Adds 0 (state.vsyncs + 1) (state.vsyncs + 1) begun_here given_back
  unfolding begun_here given_back
  gives =
      let old = older_now state 0 state.vsyncs log (omega arith) keeps.done in
      let many = keeps.tells.many in
      calls_added scene 0 (state.vsyncs + 1) (state.vsyncs + 1) state.run asked_back begun_here (λ zero_by. (omega arith, omega arith))
      (vsync_follows log old, keeps.tells.timely) ((λ same. omega arith), one_more log old) (omega (arith, many), keeps.tells.numbered)
      (tt, wider state.vsyncs (state.vsyncs + 1) log (omega arith) keeps.tells.within)

  calls_then : (queue : ℕ) → items (on queue) given_back ≡ reverse ((with_calls scene 0 (state.vsyncs + 1) state.run asked_back).calls queue)
  unfolding begun_here given_back
  calls_then queue = calls_told scene 0 (state.vsyncs + 1) state.run asked_back begun_here (λ queue. append-nil (items (on queue) log) ∙ keeps.tells.calls queue) queue

  told_here : AllByRecursion (OfArrival log) end.stage.commits
  unfolding round_now
  told_here =
      let there : All (InLog log) state.arrivals = subst (All (InLog log)) keeps.tells.arrivals (All-from_recursion (InLog log) (items arrival_in log) (arrivals_there log)) in
      let pending : All (InLog log) (uncommitted state.arrivals (commits_in state.reports)) = All-filter (is_uncommitted (commits_in state.reports)) (InLog log) state.arrivals there in
      let commits = commits_along (is_written (written_in scene state.run)) (final_values scene state.run) ((state.vsyncs + 1) * scene.period) (round_now scene state) end decides.taken decides.leads in
      subst (AllByRecursion (OfArrival log)) (sym commits)
      (all_told (is_written (written_in scene state.run)) (final_values scene state.run) ((state.vsyncs + 1) * scene.period) log (round_now scene state) end decides.taken pending decides.leads)

  committed_here : (at : VsyncRecords) (commit : CommitRecord) → Contains (reports_of scene state end) at → Contains at.commits commit → IsCommitted given_back at.number commit.arrival
  unfolding begun_here
  committed_here at commit there has =
      let same = reported (report_of scene state end) at (map commit_shown end.stage.commits) there in
      let shown = shown_of (OfArrival log) commit_shown end.stage.commits commit told_here (subst (λ (v : VsyncRecords). Contains v.commits commit) (sym same) has) in
      subst (λ (v : VsyncRecords). IsCommitted given_back v.number commit.arrival) same (record {
        older = log;
        end = gives.keeps (Vsynced (state.vsyncs + 1)) log (inl refl);
        arrival = shown.has.arrival;
        before = shown.has.there.older;
        there = shown.has.there.end;
        numbered = shown.has.number ∙ ap (λ (c : CommitRecord). c.arrival) shown.is;
      })

  others_then : AllByRecursion (λ m. (owner m ≡ 0 → ⊥) → step_of m ≤ progress state (owner m)) given_back
  unfolding begun_here given_back
  others_then = all_added scene 0 (state.vsyncs + 1) state.run asked_back begun_here (λ m. (owner m ≡ 0 → ⊥) → step_of m ≤ progress state (owner m)) (λ queue entry same apart. absurd (apart same))
      ((λ apart. absurd (apart refl)), others_of state 0 log keeps.done)

  rises_then : (of : ℕ) → progress state of ≤ progress next_one of
  unfolding next_one asked_back
  rises_then zero = omega arith
  rises_then (suc other) = subst (λ (trace : ℕ → List Done). length (state.run.trace (suc other)) ≤ length (trace (suc other))) (sym (same_trace scene 0 (state.vsyncs + 1) state.run asked_back)) (omega arith)

  own_then : progress next_one 0 ≡ state.vsyncs + 1
  unfolding next_one
  own_then = refl

  vsync_keeps : Keeps next_one given_back
  unfolding next_one asked_back begun_here
  vsync_keeps =
      let more = gives.many in
      let many = keeps.tells.many in
      record {
        tells = record {
          timely = gives.timely;
          numbered = gives.numbered;
          calls = calls_then;
          arrivals = gives.arrivals ∙ append-nil (items arrival_in log) ∙ keeps.tells.arrivals;
          many = more ∙ omega (arith, many);
          within = gives.within;
          commits = λ at commit there has. elim (Contains-append_cases state.reports (reports_of scene state end) at there) [
            | inl old ↦ still_committed log given_back at.number commit.arrival (λ a xs e. gives.keeps a xs (inr e)) (keeps.tells.commits at commit old has)
            | inr new ↦ committed_here at commit new has
          ];
        };
        done = done_after state next_one 0 (state.vsyncs + 1) given_back own_then rises_then gives.older others_then;
      }

  after_on : GoesOn state (after_vsync scene state end)
  unfolding next_one vsyncs_in
  after_on = record { log = given_back; keeps = vsync_keeps; reports = ap (λ (more : List VsyncRecords). state.reports ++ more) (sym (only_vsyncs (reports_of scene state end))) }

vsync_on : (scene : SceneValue) (state : RunState) (turn : Transition) (log : List Moment) → VsyncTransition scene state turn → Keeps state log → GoesOn state turn
vsync_on scene state turn log is keeps = subst (GoesOn state) (sym is.is) (after_on scene state is.end log is.decides keeps)

turn_on : (scene : SceneValue) (pick : ℕ) (state : RunState) (turn : Transition) (log : List Moment) → TakesTransition scene pick state turn → Keeps state log → GoesOn state turn
turn_on scene zero state turn log takes keeps = vsync_on scene state turn log takes keeps
turn_on scene (suc actor) state turn log takes keeps = subst (GoesOn state) (sym takes) (actor_on scene actor state log keeps)

-- a play so far has a log, and shows the vsyncs of its state
pub record HasLog (playing : Playing) : Type 0 where
  pub log : List Moment
  pub keeps : Keeps playing.state log
  pub reports : vsyncs_in playing.events ≡ playing.state.reports

begun_log : (scene : SceneValue) → HasLog (first_playing scene)
unfolding vsyncs_in
begun_log scene = record {
  log = [];
  keeps = record {
    tells = record { timely = tt; numbered = tt; calls = λ queue. refl; arrivals = refl; many = refl; within = tt; commits = λ at commit there. absurd (omega (arith, there.1)) };
    done = tt;
  };
  reports = refl;
}

goes_on : (scene : SceneValue) (playing next : Playing) (left : List ℕ) (before : Option RunState) → HasLog playing → GoesOnWith scene playing left before next → HasLog next
unfolding vsyncs_in
goes_on scene playing next (pick ∷ left) before has on =
    let leads = turn_on scene pick playing.state on.transition has.log on.takes has.keeps in
    subst HasLog (sym on.is) (record {
      log = leads.log;
      keeps = leads.keeps;
      reports = flat_map-append vsync_in playing.events on.transition.events ∙ ap (λ (reports : List VsyncRecords). reports ++ flat_map vsync_in on.transition.events) has.reports ∙ sym leads.reports;
    })
goes_on scene playing next [] None has on = subst HasLog (sym on) (record { log = has.log; keeps = has.keeps; reports = has.reports })
goes_on scene playing next [] (Some before) has on = subst HasLog (sym on.1) (record { log = has.log; keeps = has.keeps; reports = has.reports })

comes : (scene : SceneValue) (playing end : Playing) → HasLog playing → Comes scene playing end → HasLog end
comes scene playing _ has stays = has
comes scene playing end has (goes {next = next} step later) = comes scene next end (goes_on scene playing next playing.left playing.before has step) later

-- what a begun play showed are the reports of its state
pub reports_along : (scene : SceneValue) (playing : Playing) → IsBegun scene playing → vsyncs_in playing.events ≡ playing.state.reports
reports_along scene playing begun = (comes scene (first_playing scene) playing (begun_log scene) begun).reports

pub play_in_order : (scene : SceneValue) (events : List Event) (state : RunState) → IsPlay scene events state
    → InOneOrder true (record { histories = map (history_shown state.run) (rising_queues scene); arrived = map entry_of state.arrivals; vsyncs = vsyncs_in events })
play_in_order scene events state play =
    let has = comes scene (first_playing scene) play.playing (begun_log scene) play.begun in
    let order = in_order scene play.playing.state has.log has.keeps.tells in
    let shown : vsyncs_in events ≡ state.reports = ap vsyncs_in (sym play.shows) ∙ has.reports ∙ ap (λ (w : RunState). w.reports) play.ends in
    subst (λ vsyncs. InOneOrder true (record { histories = map (history_shown state.run) (rising_queues scene); arrived = map entry_of state.arrivals; vsyncs = vsyncs })) (sym shown)
    (subst (λ w. InOneOrder true (happened scene w)) play.ends order)

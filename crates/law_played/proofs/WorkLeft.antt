-- The work that is left of a play, and how its transitions lessen it.
use Rattle.std.proofs.Common.{◌≡◌, ℕ, zero, suc, ◌+◌, ◌-◌, ◌*◌, ◌<◌, ◌≤◌, ◌==◌, Bool, true, false, not, ◌&&◌, ◌||◌, List, [], ◌∷◌, ◌++◌, length, filter, map, Option, Some, None, refl, sym, ap, ◌∙◌, subst, inl, inr, arith}
use Rattle.std.specs.Prelude.{◌⊎◌, Contains, find, if◌then◌else◌}
use Rattle.std.specs.List.{list_all, list_any, sum_by}
use Rattle.std.proofs.lemmas.Bool.{cases_Bool, eq-eqb, eqb-true}
use Rattle.std.proofs.lemmas.List.{append-nil, length-append}
use Rattle.std.proofs.lemmas.List.Concat.{flat_map-append}
use Rattle.std.proofs.lemmas.List.Elements.{filter-append}
use Rattle.std.proofs.lemmas.List.Folds.{list_any-append}
use Rattle.std.proofs.lemmas.List.Sums.{sum_by-append}
use Rattle.std.proofs.lemmas.Option.{slice_get_within}
use Rattle.sf_commit.specs.sf_ready.declared.hold.Hold.{Hold}
use Rattle.sf_commit.specs.sf_token.Pending.{Arrival, is_of}
use Rattle.sf_commit.specs.sf_txn.Transactions.{Contents}
use Rattle.sf_commit.specs.Rounds.{Leads, Round, facts_of, held}
use Rattle.sf_commit.specs.declared.vsync.Commit.{Commit}
use Rattle.sf_script_scene.specs.Scene.{SceneValue}
use Rattle.sf_script_scene.specs.declared.step.ActorScript.{ActorScript}
use Rattle.sf_script_scene.specs.declared.step.Step.{Step}
use Rattle.sf_actor.specs.declared.done.Answered.{Answered}
use Rattle.sf_actor.specs.declared.done.Answered.TheVariants as answered
use Rattle.sf_actor.specs.declared.done.Done.{Done}
use Rattle.sf_actor.specs.Makers.{Run}
use Rattle.sf_actor.specs.Names.{FrameOf}
use Rattle.sf_actor.specs.Scripts.{picture_at}
use Rattle.sf_actor.specs.Steps.{sent_by}
use Rattle.sf_actor.specs.Traces.{DoneAt, SentStep, made_at, sent_at, sent_with}
use Rattle.sf_record.specs.declared.event.VsyncRecords.{VsyncRecords}
use Rattle.sf_record.specs.declared.record.CommitRecord.{CommitRecord}
use Rattle.law_played.proofs.OrderLemmas.{kept_twice}
use Rattle.law_played.proofs.PathLemmas.{commits_along, ready_next, told_along}
use Rattle.law_played.proofs.RoundEnd.{begins_bare, round_same, state_bare}
use Rattle.law_played.proofs.SteppingLemmas.{traces_kept}
use Rattle.law_played.proofs.TransactionWeights.{WaitsFor, few_weigh, found_there, kept_le, kept_less, sums_less, to_commit, waits_there, weight, weights_later, weights_less}
use Rattle.law_played.specs.Commits.{commit_shown, is_written}
use Rattle.law_played.specs.Holds.{is_uncommitted, uncommitted}
use Rattle.law_played.specs.Plays.{TakesTransition, is_quiet, waits_for_time}
use Rattle.law_played.specs.Progress.{is_time, released_by}
use Rattle.law_played.specs.Runs.{final_values, written_in}
use Rattle.law_played.specs.Stuck.{next_step}
use Rattle.law_played.specs.Vsyncs.{commits_in}
use Rattle.law_played.specs.RunStates.{IsPlaysVsync, Transition, VsyncTransition, RunState, actor_transition, after_step, after_vsync, arrival_by, asked_by, at_now, done_now, idle, release_asked, report_of, reports_if, reports_of, round_now, script_transition, step_transition, waits_now, with_list}

-- the steps that actors have left
abbrev pub steps_left : SceneValue → Run → ℕ
steps_left scene run = sum_by (λ (script : ActorScript). length script.steps - length (run.trace script.number)) scene.actors

-- the arrivals without a commit
abbrev pub waiting : RunState → List (Arrival FrameOf)
waiting state = uncommitted state.arrivals (commits_in state.reports)

-- The work that is left: steps, each of which may send a transaction, and transactions that are not committed.
abbrev pub work : SceneValue → RunState → ℕ
work scene state = 2002 * steps_left scene state.run + to_commit (state.vsyncs * scene.period) (waiting state)

-- no step was done since, and nothing was committed
pub record IsAsFar (old new : RunState) : Type 0 where
  pub traces : (actor : ℕ) → length (new.run.trace actor) ≡ length (old.run.trace actor)
  pub reports : length new.reports ≡ length old.reports

-- less is left, or as much where nothing was done
abbrev pub HasGone : SceneValue → RunState → RunState → Type 0
HasGone scene old new = (work scene new + 1 ≤ work scene old) ⊎ ((work scene new ≤ work scene old) × IsAsFar old new)

module _ (scene : SceneValue) where
  pub gone_not : (state : RunState) → HasGone scene state state
  gone_not state = inr (omega arith, record { traces = λ actor. refl; reports = refl })

  pub gone_on : (a b c : RunState) → HasGone scene a b → HasGone scene b c → HasGone scene a c
  gone_on a b c (inl less) (inl more) = inl (omega (arith, less, more))
  gone_on a b c (inl less) (inr kept) = (let more = kept.0 in inl (omega (arith, less, more)))
  gone_on a b c (inr kept) (inl more) = (let less = kept.0 in inl (omega (arith, less, more)))
  gone_on a b c (inr kept) (inr also) =
      let less = kept.0 in
      let more = also.0 in
      inr (omega (arith, less, more), record { traces = λ actor. also.1.traces actor ∙ kept.1.traces actor; reports = also.1.reports ∙ kept.1.reports })

  -- a round is quiet in which nothing was done, where nothing waits for a time
  pub is_quiet_then : (before now : RunState) → IsAsFar before now → waits_for_time scene now ≡ false → is_quiet scene before now ≡ true
  is_quiet_then before now kept none =
      let count : (length now.reports == length before.reports) ≡ true = eq-eqb (length now.reports) (length before.reports) kept.reports in
      (λ i. none_did scene.actors i && (count i && not (none i)))
    where
      none_did : (scripts : List ActorScript) → list_all (λ (script : ActorScript). length (now.run.trace script.number) == length (before.run.trace script.number)) scripts ≡ true
      none_did [] = refl
      none_did (script ∷ scripts) = (λ i. eq-eqb (length (now.run.trace script.number)) (length (before.run.trace script.number)) (kept.traces script.number) i && none_did scripts i)

-- a step sends one transaction at most
one_sent : (place : ℕ) (answer : Answered) (sent : Option (Contents FrameOf)) → length (sent_with place answer sent) ≤ 1
one_sent place (answered.Sent number) (Some txn) = omega arith
one_sent place answer sent = omega arith

one_arrives : (actor : ℕ) (at : DoneAt) → length (map (arrival_by actor) (sent_at at)) ≤ 1
one_arrives actor at =
    let many = same_length (sent_at at) in
    let one = one_sent at.place at.done.answered (sent_by at.past.holdings at.done.step) in
    omega (arith, many, one)
  where
    same_length : (sent : List SentStep) → length (map (arrival_by actor) sent) ≡ length sent
    same_length [] = refl
    same_length (s ∷ sent) = ap (λ (n : ℕ). suc n) (same_length sent)

module _ (scene : SceneValue) (state : RunState) (script : ActorScript) (done : Done) where
  abbrev stepped : RunState
  stepped = (after_step scene state script done).state

  abbrev trace : List Done
  trace = state.run.trace script.number

  -- the trace of the actor is longer by one step, and the others stay
  traces_now : (actor : ℕ) → stepped.run.trace actor ≡ with_list state.run.trace script.number (trace ++ done ∷ []) actor
  traces_now actor =
      traces_kept scene script.number (length trace + 1) (record state.run { trace = with_list state.run.trace script.number (trace ++ done ∷ []) })
      (map asked_by (made_at (picture_at scene.pictures) (at_now state script done))) actor

  longer : (actor : ℕ) → length (state.run.trace actor) ≤ length (stepped.run.trace actor)
  longer actor = elim (cases_Bool (actor == script.number)) [
    | inl met ↦
        let now : stepped.run.trace actor ≡ trace ++ done ∷ [] = traces_now actor ∙ (rw met refl) in
        let many = ap (λ (t : List Done). length t) now ∙ length-append trace (done ∷ []) in
        let same = ap (λ (n : ℕ). length (state.run.trace n)) (eqb-true actor script.number met) in
        omega (arith, many, same)
    | inr unmet ↦
        let now : stepped.run.trace actor ≡ state.run.trace actor = traces_now actor ∙ (rw unmet refl) in
        let many = ap (λ (t : List Done). length t) now in
        omega (arith, many)
  ]

  one_longer : length (stepped.run.trace script.number) ≡ length trace + 1
  one_longer =
      let now : stepped.run.trace script.number ≡ trace ++ done ∷ [] = traces_now script.number ∙ (rw (eq-eqb script.number script.number refl) refl) in
      ap (λ (t : List Done). length t) now ∙ length-append trace (done ∷ [])

  -- a done step lessens the work by more than what it sends
  step_less : Contains scene.actors script → length trace < length script.steps → work scene stepped + 1 ≤ work scene state
  step_less there left =
      let one = one_longer in
      let steps : steps_left scene stepped.run + 1 ≤ steps_left scene state.run =
      sums_less (λ (s : ActorScript). length s.steps - length (stepped.run.trace s.number)) (λ (s : ActorScript). length s.steps - length (state.run.trace s.number))
      scene.actors script there (λ s. let more = longer s.number in omega (arith, more)) (omega (arith, one, left)) in
      let more = map (arrival_by script.number) (sent_at (at_now state script done)) in
      let kept = is_uncommitted (commits_in state.reports) in
      let now : ℕ = state.vsyncs * scene.period in
      let split = ap (to_commit now) (filter-append kept state.arrivals more) ∙ sum_by-append (weight now) (waiting state) (filter kept more) in
      let new = kept_le (weight now) kept more in
      let few = few_weigh now more in
      let single = one_arrives script.number (at_now state script done) in
      omega (arith, steps, split, new, few, single)

module _ (scene : SceneValue) (state : RunState) where
  -- the transition of an actor
  pub gone_step : (number : ℕ) → HasGone scene state (actor_transition scene number state).state
  unfolding actor_transition
  gone_step number = by_found (find (λ (script : ActorScript). script.number == number) scene.actors) refl
    where
      by_found : (found : Option ActorScript) → find (λ (script : ActorScript). script.number == number) scene.actors ≡ found → HasGone scene state (script_transition scene state found).state
      by_found None e = gone_not scene state
      by_found (Some script) e = by_step (next_step state.run script) refl
        where
          by_step : (next : Option Step) → next_step state.run script ≡ next → HasGone scene state (step_transition scene state script next).state
          by_step None n = gone_not scene state
          by_step (Some s) n = by_wait (waits_now scene state script s)
            where
              by_wait : (waits : Bool) → HasGone scene state (if waits then idle state else after_step scene state script (done_now scene state script s)).state
              by_wait true = gone_not scene state
              by_wait false =
                  inl (step_less scene state script (done_now scene state script s) (found_there (λ (script : ActorScript). script.number == number) scene.actors script e)
                  (slice_get_within script.steps (length (state.run.trace script.number)) s n))

-- the commits of a vsync, which has no report where it has none
reported : (report : VsyncRecords) (commits : List CommitRecord) → report.commits ≡ commits → commits_in (reports_if report commits) ≡ commits
unfolding commits_in
reported report [] e = refl
reported report (commit ∷ commits) e = append-nil report.commits ∙ e

commits_more : (reports more : List VsyncRecords) → commits_in (reports ++ more) ≡ commits_in reports ++ commits_in more
unfolding commits_in
commits_more reports more = flat_map-append (λ (report : VsyncRecords). report.commits) reports more

-- what has no commit then had none before
uncommitted_then : (arrivals : List (Arrival FrameOf)) (old new : List CommitRecord) → uncommitted arrivals (old ++ new) ≡ filter (is_uncommitted new) (uncommitted arrivals old)
uncommitted_then arrivals old new =
    (λ i. filter (λ (a : Arrival FrameOf). neither a i) arrivals) ∙ kept_twice (is_uncommitted old) (is_uncommitted new) arrivals
  where
    by_tests : (a b : Bool) → not (a || b) ≡ (not a && not b)
    by_tests true b = refl
    by_tests false b = refl

    neither : (a : Arrival FrameOf) → is_uncommitted (old ++ new) a ≡ (is_uncommitted old a && is_uncommitted new a)
    neither a =
        ap not (list_any-append (λ (commit : CommitRecord). commit.arrival == a.number) old new)
        ∙ by_tests (list_any (λ (commit : CommitRecord). commit.arrival == a.number) old) (list_any (λ (commit : CommitRecord). commit.arrival == a.number) new)

pending_now : (scene : SceneValue) (state : RunState) → (round_now scene state).pending ≡ waiting state
unfolding round_now
pending_now scene state = refl

next_time : (vsyncs period : ℕ) → (vsyncs + 1) * period ≡ vsyncs * period + period
next_time vsyncs period = grind arith

module _ (scene : SceneValue) (state : RunState) (transition : Transition) (v : VsyncTransition scene state transition) where
  abbrev told : List CommitRecord
  told = map commit_shown v.end.stage.commits

  abbrev now : ℕ
  now = state.vsyncs * scene.period

  abbrev later_state : RunState
  later_state = (after_vsync scene state v.end).state

  -- no step is done
  steps_same : steps_left scene later_state.run ≡ steps_left scene state.run
  steps_same = λ i. sum_by (λ (s : ActorScript). length s.steps - length (traces s.number i)) scene.actors
    where
      traces : (actor : ℕ) → later_state.run.trace actor ≡ state.run.trace actor
      traces actor = traces_kept scene 0 (state.vsyncs + 1) state.run (map release_asked (released_by (report_of scene state v.end) v.end.stage.gone)) actor

  waiting_then : waiting later_state ≡ filter (is_uncommitted told) (waiting state)
  waiting_then =
      ap (uncommitted state.arrivals) (commits_more state.reports (reports_of scene state v.end)
      ∙ ap (λ (cs : List CommitRecord). commits_in state.reports ++ cs) (reported (report_of scene state v.end) told refl))
      ∙ uncommitted_then state.arrivals (commits_in state.reports) told

  -- as much is left at most
  abbrev sooner : ℕ
  sooner = to_commit now (filter (is_uncommitted told) (waiting state))

  work_then : work scene later_state ≤ 2002 * steps_left scene state.run + sooner
  work_then =
      let steps = steps_same in
      let at = ap (λ (n : ℕ). to_commit n (waiting later_state)) (next_time state.vsyncs scene.period) ∙ ap (to_commit (now + scene.period)) waiting_then in
      let later = weights_later now scene.period (filter (is_uncommitted told) (waiting state)) in
      omega (arith, steps, at, later)

  -- what is committed first was waiting
  first_waits : (taken : List (Arrival FrameOf)) → Leads (is_written (written_in scene state.run)) (final_values scene state.run) ((state.vsyncs + 1) * scene.period) (round_now scene state) taken v.end
      → told_along (round_now scene state) taken ≡ v.end.stage.commits → (c : Commit) (cs : List Commit) → v.end.stage.commits ≡ c ∷ cs
      → (a : Arrival FrameOf) × Contains (waiting state) a × (is_uncommitted told a ≡ false)
  first_waits [] leads are c cs e = absurd (cc (are, e))
  first_waits (a ∷ later) leads are c cs e =
      let next = ready_next (is_written (written_in scene state.run)) (final_values scene state.run) ((state.vsyncs + 1) * scene.period)
      (facts_of (round_now scene state)) (round_now scene state).pending a leads.0.0 in
      let there = subst (λ (xs : List (Arrival FrameOf)). Contains xs a) (pending_now scene state)
      (found_there (is_of a.txn.token) (round_now scene state).pending a next.head) in
      let goes : is_uncommitted (map commit_shown (told_along (round_now scene state) (a ∷ later))) a ≡ false = rw (eq-eqb a.number a.number refl) refl in
      (a, there, subst (λ (ds : List Commit). is_uncommitted (map commit_shown ds) a ≡ false) are goes)

  commit_less : (c : Commit) (cs : List Commit) → v.end.stage.commits ≡ c ∷ cs → work scene later_state + 1 ≤ work scene state
  commit_less c cs e =
      let are = commits_along (is_written (written_in scene state.run)) (final_values scene state.run) ((state.vsyncs + 1) * scene.period) (round_now scene state) v.end v.decides.taken v.decides.leads
      ∙ ap (λ (ds : List Commit). ds ++ told_along (round_now scene state) v.decides.taken) (begins_bare scene state) in
      let first = first_waits v.decides.taken v.decides.leads (sym are) c cs e in
      let less = kept_less (weight now) (is_uncommitted told) (waiting state) first.0 first.1 first.2 in
      let most = work_then in
      omega (arith, less, most)

  as_much : work scene later_state ≤ work scene state
  as_much =
      let less = kept_le (weight now) (is_uncommitted told) (waiting state) in
      let most = work_then in
      omega (arith, less, most)

  abbrev plays : IsPlaysVsync scene state v.end.stage.commits v.end.stage.tree v.end.stage.gone
      (held (is_written (written_in scene state.run)) (final_values scene state.run) ((state.vsyncs + 1) * scene.period) v.end)
  plays = record { end = v.end; decides = v.decides; commits_are = refl; leaves = refl; goes = refl; holds_are = refl }

  bare_then : v.end.stage.commits ≡ [] → later_state ≡ record state { vsyncs = state.vsyncs + 1 }
  bare_then none = state_bare scene state v.end.stage.commits v.end.stage.tree v.end.stage.gone
      (held (is_written (written_in scene state.run)) (final_values scene state.run) ((state.vsyncs + 1) * scene.period) v.end) plays none

  pub gone_vsync : HasGone scene state later_state
  gone_vsync = by_commits v.end.stage.commits refl
    where
      by_commits : (commits : List Commit) → v.end.stage.commits ≡ commits → HasGone scene state later_state
      by_commits [] e =
          let same = bare_then e in
          inr (as_much, record { traces = λ actor. ap (λ (w : RunState). length (w.run.trace actor)) same; reports = ap (λ (w : RunState). length w.reports) same })
      by_commits (c ∷ cs) e = inl (commit_less c cs e)

  -- less is left where something waits for its time then
  pub time_less : 1000000 ≤ scene.period → scene.period ≤ 1000000000 → waits_for_time scene later_state ≡ true → work scene later_state + 1 ≤ work scene state
  time_less low high waits = by_commits v.end.stage.commits refl
    where
      by_commits : (commits : List Commit) → v.end.stage.commits ≡ commits → work scene later_state + 1 ≤ work scene state
      by_commits [] e =
          let drawn = is_written (written_in scene state.run) in
          let seen = final_values scene state.run in
          let expected : ℕ = (state.vsyncs + 1) * scene.period in
          let any : list_any (λ (h : ℕ × Hold). is_time h.1) (held drawn seen expected (round_now scene state)) ≡ true =
          ap (λ (r : Round FrameOf). list_any (λ (h : ℕ × Hold). is_time h.1) (held drawn seen expected r)) (sym (round_same scene state (state.vsyncs + 1)))
          ∙ (ap (waits_for_time scene) (sym (bare_then e)) ∙ waits) in
          let it = waits_there drawn seen expected (round_now scene state) (round_now scene state).pending any in
          let there = subst (λ (xs : List (Arrival FrameOf)). Contains xs it.0) (pending_now scene state) it.1 in
          let at = subst (λ (n : ℕ). WaitsFor n it.0) (next_time state.vsyncs scene.period) it.2 in
          let less = weights_less now scene.period (waiting state) it.0 low high there at in
          let time = ap (λ (n : ℕ). to_commit n (waiting state)) (next_time state.vsyncs scene.period) in
          let same = ap (work scene) (bare_then e) in
          omega (arith, less, time, same)
      by_commits (c ∷ cs) e = commit_less c cs e

-- each transition lessens the work, or does nothing
pub gone_transition : (scene : SceneValue) (pick : ℕ) (state : RunState) (transition : Transition) → TakesTransition scene pick state transition → HasGone scene state transition.state
gone_transition scene zero state transition v = subst (λ (t : Transition). HasGone scene state t.state) (sym v.is) (gone_vsync scene state transition v)
gone_transition scene (suc n) state transition e = subst (λ (t : Transition). HasGone scene state t.state) (sym e) (gone_step scene state (suc n))

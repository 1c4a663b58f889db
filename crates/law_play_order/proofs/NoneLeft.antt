-- Each transition of a play, and so a whole play, passes nobody over.
use Rattle.std.proofs.Common.{◌≡◌, ℕ, suc, zero, ◌+◌, ◌*◌, Bool, true, false, ◌==◌, List, [], ◌∷◌, ◌++◌, length, map, Option, Some, None, refl, sym, ap, subst, ◌∙◌, inl, inr, arith}
use Rattle.std.proofs.lemmas.Bool.Decides.{nat_tests}
use Rattle.std.proofs.lemmas.List.{append-nil, length-append}
use Rattle.std.proofs.lemmas.List.Elements.{All-append, All-cons, All-nil, All-weaker}
use Rattle.std.proofs.lemmas.Option.{get_or_from_slice_get, slice_get_within}
use Rattle.std.specs.Prelude.{All, ◌⊎◌, if◌then◌else◌, find, slice_get}
use Rattle.std.specs.Option.{unwrap_or}
use Rattle.sf_base.specs.declared.fences.Seen.{Seen}
use Rattle.sf_commit.proofs.DecideLemmas.{all_left}
use Rattle.law_played.specs.sf_actor.Names.{FrameOf}
use Rattle.law_played.specs.sf_actor.Scripts.{picture_at}
use Rattle.law_played.specs.sf_actor.Steps.{sent_by}
use Rattle.law_played.specs.sf_actor.Tests.{refusal_of}
use Rattle.law_played.specs.sf_actor.Traces.{SentStep, made_at, sent_at}
use Rattle.law_played.specs.sf_actor.Written as written
use Rattle.law_played.specs.sf_actor.declared.done.Done.{Done}
use Rattle.sf_commit.specs.inner.Deciding.{DecidesSame}
use Rattle.law_played.specs.sf_commit.Rounds.{IsNext, Leads, Round, committed, facts_of}
use Rattle.law_played.specs.sf_ready.Facts.{FactsOf}
use Rattle.law_played.specs.sf_record.declared.event.Event.{Event}
use Rattle.law_played.specs.sf_record.declared.event.VsyncRecords.{VsyncRecords}
use Rattle.law_played.specs.sf_record.declared.record.CommitRecord.{CommitRecord}
use Rattle.law_played.specs.sf_script_scene.Limits.{EachStep, IsWithinLimits}
use Rattle.law_played.specs.sf_script_scene.Named.{KnowsTimelines}
use Rattle.law_played.specs.sf_script_scene.Scene.{SceneValue}
use Rattle.law_played.specs.sf_script_scene.declared.step.ActorScript.{ActorScript}
use Rattle.law_played.specs.sf_script_scene.declared.step.Step.{Step}
use Rattle.law_played.specs.sf_token.Pending.{Arrival, IsRisingFrom, has_number, is_of}
use Rattle.law_played.specs.sf_txn.Buffers.{Buffer}
use Rattle.law_played.specs.sf_txn.Transactions.{without_first}
use Rattle.law_played.proofs.OrderLemmas.{found_has, order_more, waiting_found}
use Rattle.law_played.proofs.PathLemmas.{IsReadyNext, WaitsAfter, commits_along, ready_next, told_along, waits_along}
use Rattle.law_played.proofs.StageLemmas.{commits_more, told_stays, vsync_at}
use Rattle.law_played.specs.Commits.{commit_shown, is_written, seen_by}
use Rattle.law_played.specs.Framing.{framed_arrival, framed_buffer}
use Rattle.law_played.specs.Holds.{uncommitted}
use Rattle.law_played.specs.Plays.{Comes, GoesOnWith, IsPlay, Playing, TakesTransition, first_playing, goes, stays}
use Rattle.law_played.specs.Played.{vsyncs_told}
use Rattle.law_played.specs.Progress.{AreInOrder, IsOfArrival, released_by}
use Rattle.law_played.specs.Runs.{final_values, written_in}
use Rattle.law_played.specs.RunStates.{DecidesNow, RunState, Transition, actor_transition, after_step, after_vsync, arrival_by, asked_by, at_now, done_now, first_state, idle, release_asked, report_of, reports_if, round_now, script_transition, step_transition, waits_now, with_list}
use Rattle.law_played.specs.Stages.{VsyncAt, arrival_at, bare_round, begun, no_arrival, round_after, round_at_end, told_from, told_of}
use Rattle.law_played.specs.Stuck.{holdings_at_end, next_step}
use Rattle.law_played.specs.Vsyncs.{commits_in, vsyncs_in}
use Rattle.law_waits.specs.Leaving.{LeavesNone, LeavesNoneAt}
use Rattle.law_waits.proofs.LeavingLemmas.{IsUpTo, commits_low, none_arrived, none_more}
use Rattle.law_waits.proofs.LeavingVsync.{leaves_none}
use Rattle.law_play_order.proofs.PlayOrder.{reports_along}
use Rattle.law_play_order.proofs.Signals.{NamesKnown, saw_all}
use Rattle.law_play_order.proofs.Turns.{SendsOne, answered_next, same_trace, sends}

-- what is known of a state along a play
pub record HasLeftNone (scene : SceneValue) (state : RunState) : Type 0 where
  pub order : AreInOrder state.arrivals (length state.arrivals) (commits_in state.reports)
  pub knows : (actor : ℕ) → All (NamesKnown scene) (state.run.trace actor)
  pub none : LeavesNone state.arrivals (told_of scene state.arrivals state.reports)

-- a trace stays, or has one more done step
abbrev GrowsBy : Done → List Done → List Done → Type 0
GrowsBy done trace later = (later ≡ trace) ⊎ (later ≡ trace ++ done ∷ [])

-- a step was done, and nothing or one transaction arrived
module _ (scene : SceneValue) (state next : RunState) (more : List (Arrival FrameOf)) (arrived : next.arrivals ≡ state.arrivals ++ more) (rises : IsRisingFrom (length state.arrivals) more (length next.arrivals))
    (reports : next.reports ≡ state.reports) (has : HasLeftNone scene state) where
  low : All (IsUpTo (length state.arrivals)) (commits_in state.reports)
  low = commits_low state.arrivals (length state.arrivals) (commits_in state.reports) has.order.rising has.order.of_arrivals

  none_on : LeavesNone (state.arrivals ++ more) (told_of scene (state.arrivals ++ more) state.reports)
  none_on =
      subst (LeavesNone (state.arrivals ++ more)) (sym (told_stays state.arrivals more (bare_round scene) state.reports has.order.of_arrivals))
      (none_arrived state.arrivals more (length state.arrivals) (length next.arrivals) rises (bare_round scene) [] state.reports (All-nil (IsUpTo (length state.arrivals))) low has.none)

  step_leaves : ((actor : ℕ) → All (NamesKnown scene) (next.run.trace actor)) → HasLeftNone scene next
  step_leaves knows = record {
    order = subst (λ (xs : List (Arrival FrameOf)). AreInOrder xs (length next.arrivals) (commits_in next.reports)) (sym arrived)
        (subst (λ (rs : List VsyncRecords). AreInOrder (state.arrivals ++ more) (length next.arrivals) (commits_in rs)) (sym reports)
        (order_more state.arrivals more (length state.arrivals) (length next.arrivals) (commits_in state.reports) has.order rises));
    knows = knows;
    none = subst (λ (xs : List (Arrival FrameOf)). LeavesNone xs (told_of scene xs next.reports)) (sym arrived)
        (subst (λ (rs : List VsyncRecords). LeavesNone (state.arrivals ++ more) (told_of scene (state.arrivals ++ more) rs)) (sym reports) none_on);
  }

-- the step of an actor
module _ (scene : SceneValue) (state : RunState) (script : ActorScript) (s : Step) (names : KnowsTimelines scene.timelines s) (has : HasLeftNone scene state) where
  done_here : Done
  done_here = done_now scene state script s

  next_state : RunState
  next_state = (after_step scene state script done_here).state

  trace_is : (actor : ℕ) → next_state.run.trace actor ≡ with_list state.run.trace script.number (state.run.trace script.number ++ done_here ∷ []) actor
  unfolding next_state
  trace_is actor =
      let at = at_now state script done_here in
      ap (λ (trace : ℕ → List Done). trace actor)
      (same_trace scene script.number at.place (record state.run { trace = with_list state.run.trace script.number (state.run.trace script.number ++ done_here ∷ []) })
      (map asked_by (made_at (picture_at scene.pictures) at)))

  grows : (actor : ℕ) → GrowsBy done_here (state.run.trace actor) (next_state.run.trace actor)
  grows actor = by_number (actor == script.number) refl
    where
      by_number : (b : Bool) → (actor == script.number) ≡ b → GrowsBy done_here (state.run.trace actor) (next_state.run.trace actor)
      by_number true e =
          let same : actor ≡ script.number = grind (arith, nat_tests, e) in
          let with_it : with_list state.run.trace script.number (state.run.trace script.number ++ done_here ∷ []) actor ≡ state.run.trace script.number ++ done_here ∷ [] = rw e refl in
          inr (trace_is actor ∙ with_it ∙ ap (λ (n : ℕ). state.run.trace n ++ done_here ∷ []) (sym same))
      by_number false e =
          let without_it : with_list state.run.trace script.number (state.run.trace script.number ++ done_here ∷ []) actor ≡ state.run.trace actor = rw e refl in
          inl (trace_is actor ∙ without_it)

  knows_then : (actor : ℕ) → All (NamesKnown scene) (next_state.run.trace actor)
  unfolding done_here done_now
  knows_then actor = by_growth (grows actor)
    where
      by_growth : GrowsBy done_here (state.run.trace actor) (next_state.run.trace actor) → All (NamesKnown scene) (next_state.run.trace actor)
      by_growth (inl same) = subst (All (NamesKnown scene)) (sym same) (has.knows actor)
      by_growth (inr more) = subst (All (NamesKnown scene)) (sym more)
          (All-append (NamesKnown scene) (state.run.trace actor) (done_here ∷ []) (has.knows actor) (All-cons (NamesKnown scene) done_here [] names (All-nil (NamesKnown scene))))

  sent_here : List SentStep
  sent_here = sent_at (at_now state script done_here)

  arrivals_are : next_state.arrivals ≡ state.arrivals ++ map (arrival_by script.number) sent_here
  unfolding next_state sent_here
  arrivals_are = refl

  reports_are : next_state.reports ≡ state.reports
  unfolding next_state
  reports_are = refl

  leaves_by : (sent_here ≡ []) ⊎ SendsOne (length (state.run.trace script.number) + 1) (length state.arrivals + 1) sent_here → HasLeftNone scene next_state
  leaves_by (inl nothing) =
      let all_arrived : next_state.arrivals ≡ state.arrivals ++ [] = arrivals_are ∙ ap (λ (xs : List SentStep). state.arrivals ++ map (arrival_by script.number) xs) nothing in
      let long : length next_state.arrivals ≡ length state.arrivals = ap length (all_arrived ∙ append-nil state.arrivals) in
      step_leaves scene state next_state [] all_arrived (omega (arith, long)) reports_are has knows_then
  leaves_by (inr one) =
      let arrival = arrival_by script.number one.one in
      let all_arrived : next_state.arrivals ≡ state.arrivals ++ arrival ∷ [] = arrivals_are ∙ ap (λ (xs : List SentStep). state.arrivals ++ map (arrival_by script.number) xs) one.is in
      let long : length next_state.arrivals ≡ length state.arrivals + 1 = ap length all_arrived ∙ length-append state.arrivals (arrival ∷ []) in
      let number = one.numbered in
      step_leaves scene state next_state (arrival ∷ []) all_arrived (omega (arith, number), omega (arith, number, long)) reports_are has knows_then

  pub step_keeps : HasLeftNone scene (after_step scene state script (done_now scene state script s)).state
  unfolding done_now next_state done_here sent_here
  step_keeps = leaves_by (sends (length (state.run.trace script.number) + 1) (length state.arrivals + 1) (done_now scene state script s).answered (sent_by (holdings_at_end state.run script) s)
      (λ n e. answered_next scene state script s (refusal_of (picture_at scene.pictures) (holdings_at_end state.run script) s) n e))

-- what all steps of a script keep, the next one keeps
step_has : (P : Step → Type 0) (steps : List Step) (n : ℕ) (s : Step) → All P steps → slice_get steps n ≡ Some s → P s
step_has P steps n s all e = subst P (get_or_from_slice_get steps n s s e) (all n s (slice_get_within steps n s e))

actor_keeps : (scene : SceneValue) (limits : IsWithinLimits scene) (number : ℕ) (state : RunState) → HasLeftNone scene state → HasLeftNone scene (actor_transition scene number state).state
unfolding actor_transition
actor_keeps scene limits number state has = by (find (λ (script : ActorScript). script.number == number) scene.actors) refl
  where
    stepped : (script : ActorScript) (next : Option Step) → next_step state.run script ≡ next → EachStep (KnowsTimelines scene.timelines) script → HasLeftNone scene (step_transition scene state script next).state
    stepped script None e knows = has
    stepped script (Some s) e knows = waits (waits_now scene state script s)
      where
        waits : (b : Bool) → HasLeftNone scene (if b then idle state else after_step scene state script (done_now scene state script s)).state
        waits true = has
        waits false = step_keeps scene state script s (step_has (KnowsTimelines scene.timelines) script.steps (length (state.run.trace script.number)) s knows e) has

    by : (o : Option ActorScript) → find (λ (script : ActorScript). script.number == number) scene.actors ≡ o → HasLeftNone scene (script_transition scene state o).state
    by None e = has
    by (Some script) e =
        stepped script (next_step state.run script) refl
        (found_has (EachStep (KnowsTimelines scene.timelines)) (λ (script : ActorScript). script.number == number) scene.actors script limits.known_timelines e)

-- over plain frames nothing is told another way
buffers_plain : (buffers : List (Buffer FrameOf)) → map (framed_buffer (λ (f : FrameOf). f)) buffers ≡ buffers
buffers_plain [] = refl
buffers_plain (b ∷ bs) = ap (λ rest. b ∷ rest) (buffers_plain bs)

arrival_plain : (a : Arrival FrameOf) → framed_arrival (λ (f : FrameOf). f) a ≡ a
arrival_plain a = λ i. record a { txn = record a.txn { buffers = buffers_plain a.txn.buffers i } }

arrivals_plain : (xs : List (Arrival FrameOf)) → map (framed_arrival (λ (f : FrameOf). f)) xs ≡ xs
arrivals_plain [] = refl
arrivals_plain (x ∷ xs) = λ i. arrival_plain x i ∷ arrivals_plain xs i

-- the commits of a vsync of a play, from what was pending before it
module _ (looked : List written.FrameNumber) (report : VsyncRecords) (arrivals : List (Arrival FrameOf)) where
  abbrev Found : Arrival FrameOf → Type 0
  Found a = find (has_number a.number) arrivals ≡ Some a

  abbrev from : Round FrameOf → List (Arrival FrameOf) → Round FrameOf
  from round pending = record round { pending = pending }

  next_is : (round : Round FrameOf) (pending : List (Arrival FrameOf)) (a : Arrival FrameOf) → IsNext (is_written looked) (seen_by report) report.expected (from round pending) (Some a)
      → IsReadyNext (is_written looked) (seen_by report) report.expected (facts_of round) pending a
  next_is round pending a next = ready_next (is_written looked) (seen_by report) report.expected (facts_of round) pending a next.0

  arrival_is : (round : Round FrameOf) (pending : List (Arrival FrameOf)) (a : Arrival FrameOf) → All Found pending
      → IsNext (is_written looked) (seen_by report) report.expected (from round pending) (Some a) → arrival_at arrivals a.number ≡ a
  unfolding arrival_at
  arrival_is round pending a found next = ap (λ o. unwrap_or o no_arrival) (found_has Found (is_of a.txn.token) pending a found (next_is round pending a next).head)

  -- it ends as its records tell
  ends_along : (round : Round FrameOf) (pending : List (Arrival FrameOf)) (end : Round FrameOf) (taken : List (Arrival FrameOf)) → All Found pending
      → Leads (is_written looked) (seen_by report) report.expected (from round pending) taken end
      → end ≡ from (round_after arrivals round (map commit_shown (told_along (from round pending) taken))) end.pending
  unfolding round_after
  ends_along round pending end [] found leads = leads ∙ (λ i. from round (sym (ap (λ (r : Round FrameOf). r.pending) leads) i))
  ends_along round pending end (a ∷ later) found leads =
      let same = arrival_is round pending a found leads.0 in
      ends_along (committed round a) (without_first (is_of a.txn.token) pending) end later (all_left Found (is_of a.txn.token) pending found) leads.1
      ∙ (λ i. from (round_after arrivals (committed round (sym same i)) (map commit_shown (told_along (committed (from round pending) a) later))) end.pending)

module _ (scene : SceneValue) (limits : IsWithinLimits scene) (state : RunState) (end : Round FrameOf) (decides : DecidesNow scene state ((state.vsyncs + 1) * scene.period) end)
    (has : HasLeftNone scene state) where
  abbrev looked : List written.FrameNumber
  looked = written_in scene state.run

  abbrev report : VsyncRecords
  report = report_of scene state end

  abbrev before : Round FrameOf
  before = round_at_end (bare_round scene) (told_of scene state.arrivals state.reports)

  abbrev commits : List CommitRecord
  commits = commits_in state.reports

  abbrev pending : List (Arrival FrameOf)
  pending = uncommitted state.arrivals commits

  abbrev start : Round FrameOf
  start = record (begun before) { pending = pending }

  saw : seen_by report ≡ final_values scene state.run
  saw = saw_all scene limits state.run has.knows report refl

  leads : Leads (is_written looked) (seen_by report) report.expected start decides.taken end
  unfolding round_now
  leads = subst (λ (seen : Seen). Leads (is_written looked) seen report.expected start decides.taken end) (sym saw) decides.leads

  rests : IsNext (is_written looked) (seen_by report) report.expected end None
  rests = subst (λ (seen : Seen). IsNext (is_written looked) seen report.expected end None) (sym saw) decides.rests

  abbrev made : List CommitRecord
  made = map commit_shown (told_along start decides.taken)

  made_is : report.commits ≡ made
  made_is = ap (map commit_shown) (commits_along (is_written looked) (seen_by report) report.expected start end decides.taken leads)

  found : All (λ (a : Arrival FrameOf). find (has_number a.number) state.arrivals ≡ Some a) pending
  found = All-weaker (λ (a : Arrival FrameOf). find (has_number a.number) state.arrivals ≡ Some (framed_arrival (λ (f : FrameOf). f) a))
      (λ (a : Arrival FrameOf). find (has_number a.number) state.arrivals ≡ Some a) (λ a e. e ∙ ap (λ x. Some x) (arrival_plain a)) pending
      (waiting_found (λ (f : FrameOf). f) state.arrivals (length state.arrivals) commits pending has.order.rising (arrivals_plain pending))

  waits_then : WaitsAfter (λ (f : FrameOf). f) (is_written looked) (seen_by report) report.expected state.arrivals (length state.arrivals) (commits ++ report.commits) end.pending
  waits_then =
      subst (λ (cs : List CommitRecord). WaitsAfter (λ (f : FrameOf). f) (is_written looked) (seen_by report) report.expected state.arrivals (length state.arrivals) (commits ++ cs) end.pending) (sym made_is)
      (waits_along (λ (f : FrameOf). f) (is_written looked) (seen_by report) report.expected state.arrivals (length state.arrivals) start end decides.taken commits leads
      (record { order = has.order; waits = arrivals_plain pending }))

  abbrev told : VsyncAt
  told = vsync_at state.arrivals before report

  facts_are : facts_of told.round ≡ facts_of end
  facts_are =
      ap (λ (cs : List CommitRecord). facts_of (round_after state.arrivals (begun before) cs)) made_is
      ∙ sym (ap (λ (r : Round FrameOf). facts_of r) (ends_along looked report state.arrivals (begun before) pending end decides.taken found leads))

  leaves : LeavesNoneAt state.arrivals (commits ++ report.commits) told
  leaves = leaves_none (λ (f : FrameOf). f) (is_written looked) state.arrivals (length state.arrivals) (commits ++ report.commits) told end
      (subst (λ (f : FactsOf). DecidesSame (facts_of told.round) f) facts_are (record { frames = λ barrier. refl; fresh = λ layer. refl; pressed = λ layer. refl }))
      has.order.rising waits_then.waits rests

  abbrev pub later_state : RunState
  later_state = (after_vsync scene state end).state

  trace_stays : later_state.run.trace ≡ state.run.trace
  trace_stays = same_trace scene 0 (state.vsyncs + 1) state.run (map release_asked (released_by report end.stage.gone))

  -- what is kept of reports
  record Kept (reports : List VsyncRecords) : Type 0 where
    order : AreInOrder state.arrivals (length state.arrivals) (commits_in reports)
    none : LeavesNone state.arrivals (told_of scene state.arrivals reports)

  kept : (cs : List CommitRecord) → Kept (state.reports ++ reports_if report cs)
  kept [] = subst Kept (sym (append-nil state.reports)) (record { order = has.order; none = has.none })
  kept (c ∷ cs) = record {
    order = subst (AreInOrder state.arrivals (length state.arrivals)) (sym (commits_more state.reports report)) waits_then.order;
    none = none_more state.arrivals (bare_round scene) [] state.reports report has.none
        (subst (λ (cs : List CommitRecord). LeavesNoneAt state.arrivals cs told) (sym (commits_more state.reports report)) leaves);
  }

  pub vsync_keeps : HasLeftNone scene later_state
  vsync_keeps =
      let keeps = kept report.commits in
      record {
        order = keeps.order;
        knows = λ actor. subst (λ (trace : ℕ → List Done). All (NamesKnown scene) (trace actor)) (sym trace_stays) (has.knows actor);
        none = keeps.none;
      }

transition_keeps : (scene : SceneValue) (limits : IsWithinLimits scene) (pick : ℕ) (state : RunState) (transition : Transition) → TakesTransition scene pick state transition → HasLeftNone scene state
    → HasLeftNone scene transition.state
transition_keeps scene limits zero state transition v has = subst (λ (t : Transition). HasLeftNone scene t.state) (sym v.is) (vsync_keeps scene limits state v.end v.decides has)
transition_keeps scene limits (suc n) state transition e has = subst (λ (t : Transition). HasLeftNone scene t.state) (sym e) (actor_keeps scene limits (suc n) state has)

begins : (scene : SceneValue) → HasLeftNone scene first_state
unfolding told_from commits_in
begins scene = record {
  order = record { rising = omega arith; of_arrivals = All-nil (IsOfArrival []); of_each_token = λ token. refl };
  knows = λ actor. All-nil (NamesKnown scene);
  none = tt;
}

goes_on : (scene : SceneValue) (limits : IsWithinLimits scene) (playing next : Playing) (left : List ℕ) (round : Option RunState) → HasLeftNone scene playing.state → GoesOnWith scene playing left round next
    → HasLeftNone scene next.state
goes_on scene limits playing next (pick ∷ left) round has on =
    subst (λ (p : Playing). HasLeftNone scene p.state) (sym on.is) (transition_keeps scene limits pick playing.state on.transition on.takes has)
goes_on scene limits playing next [] None has on = subst (λ (p : Playing). HasLeftNone scene p.state) (sym on) has
goes_on scene limits playing next [] (Some round) has on = subst (λ (p : Playing). HasLeftNone scene p.state) (sym on.1) has

comes_on : (scene : SceneValue) (limits : IsWithinLimits scene) (playing end : Playing) → HasLeftNone scene playing.state → Comes scene playing end → HasLeftNone scene end.state
comes_on scene limits playing _ has stays = has
comes_on scene limits playing end has (goes {next = next} step later) = comes_on scene limits next end (goes_on scene limits playing next playing.left playing.before has step) later

pub play_leaves_none : (scene : SceneValue) (events : List Event) (state : RunState) → IsWithinLimits scene → IsPlay scene events state
    → LeavesNone state.arrivals (vsyncs_told scene state.arrivals events)
play_leaves_none scene events state limits play =
    let has = comes_on scene limits (first_playing scene) play.playing (begins scene) play.begun in
    let shown : play.playing.state.reports ≡ vsyncs_in events = sym (reports_along scene play.playing play.begun) ∙ ap vsyncs_in play.shows in
    subst (λ (s : RunState). LeavesNone s.arrivals (vsyncs_told scene s.arrivals events)) play.ends
    (subst (λ (rs : List VsyncRecords). LeavesNone play.playing.state.arrivals (told_of scene play.playing.state.arrivals rs)) shown has.none)

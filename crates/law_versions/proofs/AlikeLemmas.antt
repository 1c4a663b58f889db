-- A play of a scene of version 1 in which each commit had room is one of the same scene in version 2.
use Rattle.std.proofs.Common.{◌≡◌, ℕ, zero, suc, ◌+◌, ◌*◌, ◌<◌, ◌≤◌, ◌==◌, Bool, false, ◌&&◌, ◌||◌, not, if◌then◌else◌, List, [], ◌∷◌, ◌++◌, length, map, drop, Option, Some, None, refl, ap, ◌∙◌, sym, subst, arith}
use Rattle.std.specs.Prelude.{filter, is_none}
use Rattle.std.specs.List.{All, find, flat_map, list_all, list_any, range_with_len}
use Rattle.std.specs.Option.{option_map_or}
use Rattle.std.proofs.lemmas.Bool.{ne_eqb}
use Rattle.std.proofs.lemmas.List.{append-nil}
use Rattle.std.proofs.lemmas.List.Concat.{flat_map-append}
use Rattle.std.proofs.lemmas.List.Elements.{All-cons, All-head, All-nil, All-tail, All-weaker}
use Rattle.sf_base.specs.Fences.{Fence, no_points}
use Rattle.sf_base.specs.declared.fences.Seen.{Seen}
use Rattle.sf_ready.specs.declared.hold.Hold.{Hold}
use Rattle.sf_commit.specs.Rounds.{Decided, Round, held}
use Rattle.sf_script_scene.specs.Limits.{IsActor, IsWithinLimits, most_actors, most_layers}
use Rattle.sf_script_scene.specs.Scene.{SceneValue}
use Rattle.sf_script_scene.specs.declared.step.ActorScript.{ActorScript}
use Rattle.sf_script_scene.specs.declared.step.Step.{Step}
use Rattle.sf_script_scene.specs.declared.step.Step.TheVariants as step
use Rattle.sf_actor.specs.Asking.{Asked, call_of}
use Rattle.sf_actor.specs.Makers.{Run}
use Rattle.sf_actor.specs.Names.{FrameOf, Holdings, Token, name_in}
use Rattle.sf_actor.specs.Points.{detached_fence, reached_by, undrawn_fence, waited_fence}
use Rattle.sf_actor.specs.Scripts.{picture_at, with_points}
use Rattle.sf_actor.specs.Steps.{sent_by}
use Rattle.sf_actor.specs.Tests.{bad_value, refusal_of}
use Rattle.sf_actor.specs.Traces.{made_at}
use Rattle.sf_actor.specs.Written as written
use Rattle.sf_actor.specs.declared.done.Answered.{Answered}
use Rattle.sf_actor.specs.declared.done.Answered.TheVariants as answered
use Rattle.sf_actor.specs.declared.done.Done.{Done}
use Rattle.sf_record.specs.Events.{closing, event_records, events_records, output_record}
use Rattle.sf_record.specs.declared.event.Event.{Event}
use Rattle.sf_record.specs.declared.event.Event.TheVariants as event
use Rattle.sf_record.specs.declared.event.VsyncRecords.{VsyncRecords}
use Rattle.sf_record.specs.declared.record.CommitRecord.{CommitRecord}
use Rattle.sf_record.specs.declared.record.Record.{Record}
use Rattle.sf_record.specs.declared.record.Record.TheVariants as rec
use Rattle.law_versions.proofs.RoomyPlays.{IsRoomyState, SaysRoom, actor_roomy, begins_roomy, have_room, vsync_roomy}
use Rattle.law_versions.proofs.WideRounds.{decided_wide, end_wide, wide}
use Rattle.law_played.specs.Commits.{commit_shown, is_written}
use Rattle.law_played.specs.Arrivals.{entry_of}
use Rattle.law_played.specs.Ends.{shows_of}
use Rattle.law_played.specs.Histories.{history_shown, rising_queues}
use Rattle.law_played.specs.Frames.{is_done, plan_of, shown_due}
use Rattle.law_played.specs.Holds.{uncommitted}
use Rattle.law_played.specs.Played.{opening, records_of}
use Rattle.law_played.specs.Plays.{Comes, GoesOnWith, IsPlay, Playing, TakesTransition, first_playing, goes, is_quiet, stays, with_round}
use Rattle.law_played.specs.Progress.{held_shown, is_time, released_by}
use Rattle.law_played.specs.Runs.{actor_number, final_values, rising, rising_actors, written_in}
use Rattle.law_played.specs.Seeing.{value_shown}
use Rattle.law_played.specs.Stages.{bare_round, begun}
use Rattle.law_played.specs.Stuck.{draw_waits, has_older, has_open_point, holdings_at_end, next_step, step_waits, stuck_if}
use Rattle.law_versions.specs.Versions.{ArePlayedAlike, HadRoom, in_version_2}
use Rattle.law_played.specs.Vsyncs.{commits_in, commits_of_vsync, rising_timelines, vsync_in, vsyncs_in}
use Rattle.law_played.specs.RunStates.{DecidesNow, Transition, RunState, actor_transition, after_step, after_vsync, answer_by, answer_tested, asked_by, at_now, done_now, idle, is_open, is_open_at, release_asked, report_of, reports_if, round_now, script_transition, step_transition, waits_now, with_call, with_calls, with_list}

-- what is numbered up to here is nowhere behind it
none_behind : {X : Type 0} (number : X → ℕ) (greatest : ℕ) (xs : List X) (from count : ℕ) → greatest < from → All (λ (x : X). number x ≤ greatest) xs
    → flat_map (λ (n : ℕ). filter (λ (x : X). number x == n) xs) (range_with_len from count) ≡ []
none_behind number greatest xs from zero more all = refl
none_behind {X} number greatest xs from (suc count) more all =
    ap (λ (found : List X). found ++ flat_map (λ (n : ℕ). filter (λ (x : X). number x == n) xs) (range_with_len (from + 1) count)) (none_here xs all)
    ∙ none_behind number greatest xs (from + 1) count (omega (arith, more)) all
  where
    none_here : (ys : List X) → All (λ (x : X). number x ≤ greatest) ys → filter (λ (x : X). number x == from) ys ≡ []
    none_here [] all = refl
    none_here (y ∷ ys) all =
        let low = All-head (λ (x : X). number x ≤ greatest) y ys all in
        let apart : (number y == from) ≡ false = ne_eqb (number y) from (λ e. omega (arith, low, more, e)) in
        rw apart (none_here ys (All-tail (λ (x : X). number x ≤ greatest) y ys all))

range_on : (from count more : ℕ) → range_with_len from (count + more) ≡ range_with_len from count ++ range_with_len (from + count) more
range_on from zero more =
    let none : 0 + more ≡ more = omega arith in
    let same : from ≡ from + 0 = omega arith in
    ap (range_with_len from) none ∙ ap (λ (n : ℕ). range_with_len n more) same
range_on from (suc count) more =
    let one : suc count + more ≡ suc (count + more) = omega arith in
    let next : from + 1 + count ≡ from + suc count = omega arith in
    ap (range_with_len from) one ∙ ap (λ (ns : List ℕ). from ∷ ns) (range_on (from + 1) count more)
    ∙ ap (λ (n : ℕ). range_with_len from (suc count) ++ range_with_len n more) next

rising_more : {X : Type 0} (number : X → ℕ) (greatest more : ℕ) (xs : List X) → All (λ (x : X). number x ≤ greatest) xs → rising number (greatest + more) xs ≡ rising number greatest xs
rising_more {X} number greatest more xs all =
    let found : ℕ → List X = λ (n : ℕ). filter (λ (x : X). number x == n) xs in
    ap (flat_map found) (range_on 1 greatest more) ∙ flat_map-append found (range_with_len 1 greatest) (range_with_len (1 + greatest) more)
    ∙ ap (λ (ys : List X). flat_map found (range_with_len 1 greatest) ++ ys) (none_behind number greatest xs (1 + greatest) more (omega arith) all)
    ∙ append-nil (rising number greatest xs)

-- a scene and the same in another version, where its actors rise alike and no fewer layers can be in a tree
module _ (scene : SceneValue) (version : ℕ) (same : rising_actors (record scene { version = version }) ≡ rising_actors scene) (more : most_layers scene.version ≤ most_layers version) where
  abbrev other : SceneValue
  other = record scene { version = version }

  final_same : (run : Run) → final_values other run ≡ final_values scene run
  final_same run = ap (λ (scripts : List ActorScript). reached_by (with_points no_points (flat_map (λ (script : ActorScript). written.signals_of (run.trace script.number)) scripts))) same

  written_same : (run : Run) → written_in other run ≡ written_in scene run
  written_same run = ap (flat_map (λ (script : ActorScript). written.written_in (run.trace script.number))) same

  draw_same : (run : Run) (token : Option Token) (fence : Option Fence) → draw_waits other run token fence ≡ draw_waits scene run token fence
  draw_same run None fence = refl
  draw_same run (Some token) None = refl
  draw_same run (Some token) (Some fence) = ap (λ (final : Seen). has_open_point final fence || has_older scene run token) (final_same run)

  steps_same : (run : Run) (script : ActorScript) (holdings : Holdings) (s : Step) → step_waits other run script holdings s ≡ step_waits scene run script holdings s
  steps_same run script holdings (step.Wait t v) = ap (λ (final : Seen). option_map_or (has_open_point final) (waited_fence holdings (step.Wait t v)) false) (final_same run)
  steps_same run script holdings (step.Draw s p) = draw_same run (name_in holdings s) (undrawn_fence (name_in holdings s))
  steps_same run script holdings s = refl

  open_same : (run : Run) (fence : Option Fence) → is_open other run fence ≡ is_open scene run fence
  open_same run None = refl
  open_same run (Some fence) = ap (λ (final : Seen). list_any (is_open_at final fence) (range_with_len 1 64)) (final_same run)

  answer_same : (state : RunState) (script : ActorScript) (s : Step) (status : Option ℕ) → answer_tested other state script s status ≡ answer_tested scene state script s status
  answer_same state script s (Some status) = refl
  answer_same state script s None =
      let holdings = holdings_at_end state.run script in
      ap (λ (open_now : Bool). if open_now then answered.Own bad_value else answer_by scene state script.number (call_of (picture_at scene.pictures) holdings s) (sent_by holdings s))
      (open_same state.run (detached_fence holdings s))

  done_same : (state : RunState) (script : ActorScript) (s : Step) → done_now other state script s ≡ done_now scene state script s
  unfolding done_now
  done_same state script s =
      ap (λ (a : Answered). record { step = s; answered = a }) (answer_same state script s (refusal_of (picture_at scene.pictures) (holdings_at_end state.run script) s))

  waits_same : (state : RunState) (script : ActorScript) (s : Step) → waits_now other state script s ≡ waits_now scene state script s
  unfolding waits_now
  waits_same state script s =
      let holdings = holdings_at_end state.run script in
      ap (λ (waits : Bool). is_none (refusal_of (picture_at scene.pictures) holdings s) && waits) (steps_same state.run script holdings s)

  calls_same : (by place : ℕ) (run : Run) (asked : List Asked) → with_calls other by place run asked ≡ with_calls scene by place run asked
  unfolding with_calls
  calls_same by place run [] = refl
  calls_same by place run (asked ∷ later) = calls_same by place (with_call scene by place run asked) later

  after_same : (state : RunState) (script : ActorScript) (done : Done) → after_step other state script done ≡ after_step scene state script done
  after_same state script done =
      let at = at_now state script done in
      let run = record state.run { trace = with_list state.run.trace script.number (state.run.trace script.number ++ done ∷ []) } in
      ap (λ (r : Run). record (after_step scene state script done) { state = record (after_step scene state script done).state { run = r } })
      (calls_same script.number at.place run (map asked_by (made_at (picture_at scene.pictures) at)))

  step_same : (state : RunState) (script : ActorScript) (s : Option Step) → step_transition other state script s ≡ step_transition scene state script s
  step_same state script None = refl
  step_same state script (Some s) =
      (λ i. if waits_same state script s i then idle state else after_step other state script (done_same state script s i))
      ∙ ap (λ (transition : Transition). if waits_now scene state script s then idle state else transition) (after_same state script (done_now scene state script s))

  script_same : (state : RunState) (script : Option ActorScript) → script_transition other state script ≡ script_transition scene state script
  script_same state None = refl
  script_same state (Some script) = step_same state script (next_step state.run script)

  actor_same : (number : ℕ) (state : RunState) → actor_transition other number state ≡ actor_transition scene number state
  unfolding actor_transition
  actor_same number state = script_same state (find (λ (script : ActorScript). script.number == number) scene.actors)

  -- a vsync begins with the same layers, where there can be more
  module _ (state : RunState) (roomy : IsRoomyState scene state) where
    round_wide : round_now other state ≡ wide (most_layers version) (round_now scene state)
    unfolding round_now
    round_wide =
        ap (λ (r : Round FrameOf). record (begun r) { pending = uncommitted state.arrivals (commits_in state.reports) })
        (end_wide state.arrivals (most_layers version) (bare_round scene) state.reports more roomy.room).0

    round_most : (round_now scene state).stage.tree.most ≤ most_layers version
    unfolding round_now
    round_most = (end_wide state.arrivals (most_layers version) (bare_round scene) state.reports more roomy.room).1

    held_same : (expected : ℕ) → held (is_written (written_in other state.run)) (final_values other state.run) expected (round_now other state)
        ≡ held (is_written (written_in scene state.run)) (final_values scene state.run) expected (round_now scene state)
    held_same expected = λ i. held (is_written (written_same state.run i)) (final_same state.run i) expected (round_wide i)

    quiet_same : (before : RunState) → is_quiet other before state ≡ is_quiet scene before state
    quiet_same before =
        ap (λ (holds : List (ℕ × Hold)). list_all (λ (script : ActorScript). length (state.run.trace script.number) == length (before.run.trace script.number)) scene.actors
        && ((length state.reports == length before.reports) && not (list_any (λ (h : ℕ × Hold). is_time h.1) holds)))
        (held_same (state.vsyncs * scene.period))

    decides_same : (expected : ℕ) (end : Round FrameOf) → DecidesNow scene state expected end → All SaysRoom (map commit_shown end.stage.commits)
        → DecidesNow other state expected (wide (most_layers version) end)
    decides_same expected end d said =
        let decided = decided_wide (is_written (written_in scene state.run)) (final_values scene state.run) expected (most_layers version) (round_now scene state) end round_most d
        (have_room scene state expected end d roomy said) in
        subst (λ (r : Round FrameOf). Decided (is_written (written_in other state.run)) (final_values other state.run) expected r (wide (most_layers version) end)) (sym round_wide)
        (subst (λ (final : Seen). Decided (is_written (written_in other state.run)) final expected (wide (most_layers version) (round_now scene state)) (wide (most_layers version) end)) (sym (final_same state.run))
        (subst (λ (wrote : List written.FrameNumber). Decided (is_written wrote) (final_values scene state.run) expected (wide (most_layers version) (round_now scene state)) (wide (most_layers version) end))
        (sym (written_same state.run)) decided))

  plan_same : plan_of other ≡ plan_of scene
  unfolding plan_of
  plan_same = refl

  timelines_same : rising_timelines other ≡ rising_timelines scene
  unfolding rising_timelines
  timelines_same = refl

  queues_same : rising_queues other ≡ rising_queues scene
  unfolding rising_queues
  queues_same = refl

  report_same : (state : RunState) (end : Round FrameOf) → report_of other state (wide (most_layers version) end) ≡ report_of scene state end
  report_same state end = λ i. record {
    number = state.vsyncs + 1;
    expected = (state.vsyncs + 1) * scene.period;
    timelines = map (value_shown (final_same state.run i)) (timelines_same i);
    commits = map commit_shown end.stage.commits;
    shown = if list_any is_done (map commit_shown end.stage.commits) then shown_due (picture_at scene.pictures) (plan_same i) end.stage.tree.layers else [];
  }

  vsync_same : (state : RunState) (end : Round FrameOf) → after_vsync other state (wide (most_layers version) end) ≡ after_vsync scene state end
  vsync_same state end =
      ap (told_so other) (report_same state end) ∙ ap (λ (r : Run). record (after_vsync scene state end) { state = record (after_vsync scene state end).state { run = r } })
      (calls_same 0 (state.vsyncs + 1) state.run (map release_asked (released_by (report_of scene state end) end.stage.gone)))
    where
      told_so : SceneValue → VsyncRecords → Transition
      told_so s report = record {
        events = map event.Vsync (reports_if report report.commits);
        state = record state {
          run = with_calls s 0 (state.vsyncs + 1) state.run (map release_asked (released_by report end.stage.gone));
          reports = state.reports ++ reports_if report report.commits;
          vsyncs = state.vsyncs + 1;
        };
      }

  -- the commits of a transition had room
  abbrev EventsSayRoom : List Event → Type 0
  EventsSayRoom events = All SaysRoom (commits_in (vsyncs_in events))

  vsync_says : (report : VsyncRecords) (commits : List CommitRecord) → report.commits ≡ commits → EventsSayRoom (map event.Vsync (reports_if report commits)) → All SaysRoom commits
  unfolding commits_in vsyncs_in
  vsync_says report [] none said = All-nil SaysRoom
  vsync_says report (commit ∷ commits) some said = subst (All SaysRoom) (append-nil report.commits ∙ some) said

  transition_same : (pick : ℕ) (state : RunState) (transition : Transition) → IsRoomyState scene state → TakesTransition scene pick state transition → EventsSayRoom transition.events
      → TakesTransition other pick state transition × IsRoomyState scene transition.state
  transition_same zero state transition roomy takes said =
      let report = report_of scene state takes.end in
      let room = vsync_says report report.commits refl (subst (λ (t : Transition). EventsSayRoom t.events) takes.is said) in (
        record {
          end = wide (most_layers version) takes.end;
          decides = decides_same state roomy ((state.vsyncs + 1) * scene.period) takes.end takes.decides room;
          is = takes.is ∙ sym (vsync_same state takes.end);
        },
        subst (λ (t : Transition). IsRoomyState scene t.state) (sym takes.is) (vsync_roomy scene state ((state.vsyncs + 1) * scene.period) takes.end takes.decides roomy room),
      )
  transition_same (suc n) state transition roomy takes said =
      (takes ∙ sym (actor_same (suc n) state), subst (λ (t : Transition). IsRoomyState scene t.state) (sym takes) (actor_roomy scene (suc n) state roomy))

  round_same : (playing : Playing) → with_round other playing ≡ with_round scene playing
  round_same playing = ap (λ (scripts : List ActorScript). record playing { left = map actor_number scripts ++ 0 ∷ []; before = Some playing.state }) same

  says_before : (events more : List Event) → EventsSayRoom (events ++ more) → EventsSayRoom events × EventsSayRoom more
  unfolding commits_in vsyncs_in
  says_before events more said =
      let split = ap (flat_map commits_of_vsync) (flat_map-append vsync_in events more) ∙ flat_map-append commits_of_vsync (vsyncs_in events) (vsyncs_in more) in
      parted (commits_in (vsyncs_in events)) (commits_in (vsyncs_in more)) (subst (All SaysRoom) split said)
    where
      parted : (xs ys : List CommitRecord) → All SaysRoom (xs ++ ys) → All SaysRoom xs × All SaysRoom ys
      parted [] ys all = (All-nil SaysRoom, all)
      parted (x ∷ xs) ys all =
          let rest = parted xs ys (All-tail SaysRoom x (xs ++ ys) all) in
          (All-cons SaysRoom x xs (All-head SaysRoom x (xs ++ ys) all) rest.0, rest.1)

  goes_same : (playing : Playing) (left : List ℕ) (before : Option RunState) (next : Playing) → IsRoomyState scene playing.state → GoesOnWith scene playing left before next → EventsSayRoom next.events
      → GoesOnWith other playing left before next × IsRoomyState scene next.state
  goes_same playing (pick ∷ left) before next roomy on said =
      let transition = transition_same pick playing.state on.transition roomy on.takes (says_before playing.events on.transition.events (subst (λ (p : Playing). EventsSayRoom p.events) on.is said)).1 in
      (record { transition = on.transition; takes = transition.0; is = on.is }, subst (λ (p : Playing). IsRoomyState scene p.state) (sym on.is) transition.1)
  goes_same playing [] None next roomy on said = (on ∙ sym (round_same playing), subst (λ (p : Playing). IsRoomyState scene p.state) (sym on) roomy)
  goes_same playing [] (Some before) next roomy on said =
      ((quiet_same playing.state roomy before ∙ on.0, on.1 ∙ sym (round_same playing)), subst (λ (p : Playing). IsRoomyState scene p.state) (sym on.1) roomy)

  -- what was shown stays
  said_before : (playing next : Playing) (left : List ℕ) (before : Option RunState) → GoesOnWith scene playing left before next → EventsSayRoom next.events → EventsSayRoom playing.events
  said_before playing next (pick ∷ left) before on said = (says_before playing.events on.transition.events (subst (λ (p : Playing). EventsSayRoom p.events) on.is said)).0
  said_before playing next [] None on said = subst (λ (p : Playing). EventsSayRoom p.events) on said
  said_before playing next [] (Some before) on said = subst (λ (p : Playing). EventsSayRoom p.events) on.1 said

  said_first : (playing end : Playing) → Comes scene playing end → EventsSayRoom end.events → EventsSayRoom playing.events
  said_first playing _ stays said = said
  said_first playing end (goes {next = n} on later) said = said_before playing n playing.left playing.before on (said_first n end later said)

  comes_same : (playing end : Playing) → IsRoomyState scene playing.state → Comes scene playing end → EventsSayRoom end.events → Comes other playing end × IsRoomyState scene end.state
  comes_same playing _ roomy stays said = (stays, roomy)
  comes_same playing end roomy (goes {next = n} on later) said =
      let one = goes_same playing playing.left playing.before n roomy on (said_first n end later said) in
      let rest = comes_same n end one.1 later said in
      (goes one.0 rest.0, rest.1)

  play_same : (events : List Event) (state : RunState) → IsPlay scene events state → EventsSayRoom events → IsPlay other events state × IsRoomyState scene state
  play_same events state play said =
      let comes = comes_same (first_playing scene) play.playing (begins_roomy scene) play.begun (subst EventsSayRoom (sym play.shows) said) in (
        record {
          playing = play.playing;
          begun = comes.0;
          over = record {
            none_left = play.over.none_left;
            before = play.over.before;
            round = play.over.round;
            quiet = quiet_same play.playing.state comes.1 play.over.before ∙ play.over.quiet;
          };
          shows = play.shows;
          ends = play.ends;
        },
        subst (IsRoomyState scene) play.ends comes.1,
      )

  shows_same : (events : List Event) (state : RunState) → IsRoomyState scene state → shows_of other events state ≡ shows_of scene events state
  shows_same events state roomy = λ i. record {
    events = events;
    arrived = map entry_of state.arrivals;
    histories = map (history_shown state.run) (queues_same i);
    held = map held_shown (held_same state roomy (state.vsyncs * scene.period) i);
    stuck = flat_map (stuck_if state.run) (same i);
  }

-- the commits among records
parted_room : (xs ys : List Record) → All HadRoom (xs ++ ys) → All HadRoom xs × All HadRoom ys
parted_room [] ys all = (All-nil HadRoom, all)
parted_room (x ∷ xs) ys all =
    let rest = parted_room xs ys (All-tail HadRoom x (xs ++ ys) all) in
    (All-cons HadRoom x xs (All-head HadRoom x (xs ++ ys) all) rest.0, rest.1)

commits_said : (commits : List CommitRecord) → All HadRoom (map rec.Comm commits) → All SaysRoom commits
commits_said [] all = All-nil SaysRoom
commits_said (commit ∷ commits) all =
    All-cons SaysRoom commit commits (All-head HadRoom (rec.Comm commit) (map rec.Comm commits) all) (commits_said commits (All-tail HadRoom (rec.Comm commit) (map rec.Comm commits) all))

joined_said : (xs ys : List CommitRecord) → All SaysRoom xs → All SaysRoom ys → All SaysRoom (xs ++ ys)
joined_said [] ys one other = other
joined_said (x ∷ xs) ys one other = All-cons SaysRoom x (xs ++ ys) (All-head SaysRoom x xs one) (joined_said xs ys (All-tail SaysRoom x xs one) other)

event_said : (e : Event) (events : List Event) → All HadRoom (event_records e) → All SaysRoom (commits_in (vsyncs_in events)) → All SaysRoom (commits_in (vsyncs_in (e ∷ events)))
unfolding commits_in vsyncs_in
event_said (event.Reply reply) events all rest = rest
event_said (event.Vsync v) events all rest =
    let behind = All-tail HadRoom (rec.Vsyn (record { number = v.number; expected = v.expected; timelines = v.timelines })) (map rec.Comm v.commits ++ map (output_record v.number) v.shown) all in
    joined_said v.commits (commits_in (vsyncs_in events)) (commits_said v.commits (parted_room (map rec.Comm v.commits) (map (output_record v.number) v.shown) behind).0) rest

events_said : (events : List Event) → All HadRoom (events_records events) → All SaysRoom (commits_in (vsyncs_in events))
unfolding events_records commits_in vsyncs_in
events_said [] all = All-nil SaysRoom
events_said (e ∷ events) all =
    let parts = parted_room (event_records e) (events_records events) all in
    event_said e events parts.0 (events_said events parts.1)

actors_alike : (scene : SceneValue) → IsWithinLimits scene → scene.version ≡ 1 → rising_actors (in_version_2 scene) ≡ rising_actors scene
actors_alike scene limits first =
    subst (λ (v : ℕ). rising actor_number 64 scene.actors ≡ rising actor_number (most_actors v) scene.actors) (sym first)
    (rising_more actor_number 16 48 scene.actors
    (All-weaker (IsActor (most_actors scene.version)) (λ (script : ActorScript). script.number ≤ 16)
    (λ script fits. subst (λ (v : ℕ). script.number ≤ most_actors v) first fits.high) scene.actors limits.actors.each))

layers_alike : (scene : SceneValue) → scene.version ≡ 1 → most_layers scene.version ≤ most_layers 2
layers_alike scene first = subst (λ (v : ℕ). most_layers v ≤ 1024) (sym first) (omega arith)

pub played_alike : ArePlayedAlike
played_alike scene records limits first room play =
    let actors = actors_alike scene limits first in
    let more = layers_alike scene first in
    let shows = shows_of scene play.events play.state in
    let last = closing shows.arrived shows.histories shows.held shows.stuck in
    let rest : records ≡ events_records play.events ++ last = ap (drop 1) play.are in
    let said = events_said play.events (parted_room (events_records play.events) last (subst (All HadRoom) rest room)).0 in
    let alike = play_same scene 2 actors more play.events play.state play.is_play said in
    record {
      events = play.events;
      state = play.state;
      is_play = alike.0;
      are = ap (λ (rs : List Record). opening (in_version_2 scene) ∷ rs) rest
          ∙ ap (records_of (in_version_2 scene)) (sym (shows_same scene 2 actors more play.events play.state alike.1));
    }

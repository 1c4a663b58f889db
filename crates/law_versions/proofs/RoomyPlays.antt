-- A play in which each commit had room: what was told of its vsyncs had room, too, and its arrivals and commits are in order.
use Rattle.std.proofs.Common.{◌≡◌, ◌≢◌, ℕ, ◌+◌, ◌==◌, Bool, true, false, if◌then◌else◌, List, [], ◌∷◌, ◌++◌, length, map, Option, Some, None, refl, ap, ◌∙◌, sym, subst, arith, length-append}
use Rattle.std.specs.List.{All, find}
use Rattle.std.proofs.lemmas.List.{append-nil}
use Rattle.std.proofs.lemmas.List.Elements.{All-filter, All-nil, All-push}
use Rattle.sf_token.specs.Pending.{Arrival, IsRisingFrom}
use Rattle.sf_txn.specs.Buffers.{Buffer}
use Rattle.sf_txn.specs.Transactions.{Contents}
use Rattle.sf_commit.specs.Rounds.{Round}
use Rattle.sf_script_scene.specs.Scene.{SceneValue}
use Rattle.sf_script_scene.specs.declared.step.ActorScript.{ActorScript}
use Rattle.sf_script_scene.specs.declared.step.Step.{Step}
use Rattle.sf_actor.specs.Asking.{Asked, call_of}
use Rattle.sf_actor.specs.Names.{FrameOf}
use Rattle.sf_actor.specs.Points.{detached_fence}
use Rattle.sf_actor.specs.Scripts.{picture_at}
use Rattle.sf_actor.specs.Steps.{sent_by}
use Rattle.sf_actor.specs.Tests.{bad_value, refusal_of}
use Rattle.sf_actor.specs.Traces.{sent_at, sent_with}
use Rattle.sf_actor.specs.declared.done.Answered.{Answered}
use Rattle.sf_actor.specs.declared.done.Answered.TheVariants as answered
use Rattle.sf_record.specs.declared.event.VsyncRecords.{VsyncRecords}
use Rattle.sf_record.specs.declared.record.CommitRecord.{CommitRecord}
use Rattle.law_played.proofs.OrderLemmas.{found_all, order_more}
use Rattle.law_played.proofs.PathLemmas.{commits_along, told_along, waits_along}
use Rattle.law_played.proofs.RoundEnd.{begins_bare}
use Rattle.law_played.proofs.StageLemmas.{commits_more, told_more, told_stays, vsync_at}
use Rattle.law_versions.proofs.WideRounds.{AllHadRoom, HadRoomAt, HaveRoom, IsFound, commits_had_room, room_told}
use Rattle.law_played.specs.Commits.{commit_shown, is_written}
use Rattle.law_played.specs.Framing.{framed_arrival, framed_buffer}
use Rattle.law_played.specs.Holds.{is_uncommitted, uncommitted}
use Rattle.law_played.specs.Progress.{AreInOrder}
use Rattle.law_played.specs.Runs.{final_values, written_in}
use Rattle.law_played.specs.Stages.{bare_round, begun, commits_from, round_at_end, told_from, told_of}
use Rattle.law_played.specs.Stuck.{holdings_at_end, next_step}
use Rattle.law_played.specs.Vsyncs.{commits_in}
use Rattle.law_played.specs.RunStates.{DecidesNow, RunState, actor_transition, after_step, after_vsync, answer_by, answer_tested, arrival_by, at_now, done_now, first_state, idle, is_open, report_of, reports_if, round_now, script_transition, step_transition, waits_now}

-- the commit had room, by its record
abbrev pub SaysRoom : CommitRecord → Type 0
SaysRoom commit = commit.result ≢ 5

-- what arrived and what was told so far is in order, and each commit had room
pub record IsRoomy (scene : SceneValue) (arrivals : List (Arrival FrameOf)) (reports : List VsyncRecords) : Type 0 where
  pub order : AreInOrder arrivals (length arrivals) (commits_in reports)
  pub room : All AllHadRoom (told_of scene arrivals reports)

abbrev pub IsRoomyState : SceneValue → RunState → Type 0
IsRoomyState scene state = IsRoomy scene state.arrivals state.reports

pub begins_roomy : (scene : SceneValue) → IsRoomyState scene first_state
unfolding told_from commits_in
begins_roomy scene = record {
  order = record { rising = omega arith; of_arrivals = All-nil _; of_each_token = λ token. refl };
  room = All-nil AllHadRoom;
}

-- a step sends what is numbered on
abbrev IsNumberedOn : RunState → Answered → Type 0
IsNumberedOn state (answered.Sent number) = number ≡ length state.arrivals + 1
IsNumberedOn state other = Unit {0}

answer_numbered : (scene : SceneValue) (state : RunState) (by : ℕ) (asked : Option Asked) (sent : Option (Contents FrameOf)) → IsNumberedOn state (answer_by scene state by asked sent)
answer_numbered scene state by (Some asked) sent = tt
answer_numbered scene state by None (Some txn) = refl
answer_numbered scene state by None None = tt

tested_numbered : (scene : SceneValue) (state : RunState) (script : ActorScript) (s : Step) (status : Option ℕ) → IsNumberedOn state (answer_tested scene state script s status)
tested_numbered scene state script s (Some status) = tt
tested_numbered scene state script s None =
    let holdings = holdings_at_end state.run script in
    by_fence (is_open scene state.run (detached_fence holdings s)) (call_of (picture_at scene.pictures) holdings s) (sent_by holdings s)
  where
    by_fence : (open_now : Bool) (asked : Option Asked) (sent : Option (Contents FrameOf)) → IsNumberedOn state (if open_now then answered.Own bad_value else answer_by scene state script.number asked sent)
    by_fence true asked sent = tt
    by_fence false asked sent = answer_numbered scene state script.number asked sent

sent_rising : (state : RunState) (actor place : ℕ) (answer : Answered) (sent : Option (Contents FrameOf)) → IsNumberedOn state answer
    → let more = map (arrival_by actor) (sent_with place answer sent) in IsRisingFrom (length state.arrivals) more (length (state.arrivals ++ more))
sent_rising state actor place (answered.Sent number) (Some txn) on =
    let more = map (arrival_by actor) (sent_with place (answered.Sent number) (Some txn)) in
    let all = length-append state.arrivals more in
    (omega (arith, on), omega (arith, on, all))
sent_rising state actor place (answered.Sent number) None on = let all = length-append state.arrivals [] in omega (arith, all)
sent_rising state actor place (answered.Own status) sent on = let all = length-append state.arrivals [] in omega (arith, all)
sent_rising state actor place (answered.Called replied) sent on = let all = length-append state.arrivals [] in omega (arith, all)

-- it stays so where more arrives that is numbered on
arrives_roomy : (scene : SceneValue) (arrivals more : List (Arrival FrameOf)) (reports : List VsyncRecords) → IsRisingFrom (length arrivals) more (length (arrivals ++ more))
    → IsRoomy scene arrivals reports → IsRoomy scene (arrivals ++ more) reports
arrives_roomy scene arrivals more reports rises roomy = record {
  order = order_more arrivals more (length arrivals) (length (arrivals ++ more)) (commits_in reports) roomy.order rises;
  room = subst (All AllHadRoom) (sym (told_stays arrivals more (bare_round scene) reports roomy.order.of_arrivals)) roomy.room;
}

done_roomy : (scene : SceneValue) (state : RunState) (script : ActorScript) (s : Step) → IsRoomyState scene state → IsRoomyState scene (after_step scene state script (done_now scene state script s)).state
unfolding done_now
done_roomy scene state script s roomy =
    let holdings = holdings_at_end state.run script in
    let answer = answer_tested scene state script s (refusal_of (picture_at scene.pictures) holdings s) in
    let at = at_now state script (done_now scene state script s) in
    arrives_roomy scene state.arrivals (map (arrival_by script.number) (sent_at at)) state.reports
    (sent_rising state script.number at.place answer (sent_by holdings s) (tested_numbered scene state script s (refusal_of (picture_at scene.pictures) holdings s))) roomy

step_roomy : (scene : SceneValue) (state : RunState) (script : ActorScript) (s : Option Step) → IsRoomyState scene state → IsRoomyState scene (step_transition scene state script s).state
step_roomy scene state script None roomy = roomy
step_roomy scene state script (Some s) roomy = by_time (waits_now scene state script s)
  where
    by_time : (waits : Bool) → IsRoomyState scene (if waits then idle state else after_step scene state script (done_now scene state script s)).state
    by_time true = roomy
    by_time false = done_roomy scene state script s roomy

script_roomy : (scene : SceneValue) (state : RunState) (script : Option ActorScript) → IsRoomyState scene state → IsRoomyState scene (script_transition scene state script).state
script_roomy scene state None roomy = roomy
script_roomy scene state (Some script) roomy = step_roomy scene state script (next_step state.run script) roomy

pub actor_roomy : (scene : SceneValue) (number : ℕ) (state : RunState) → IsRoomyState scene state → IsRoomyState scene (actor_transition scene number state).state
unfolding actor_transition
actor_roomy scene number state roomy = script_roomy scene state (find (λ (script : ActorScript). script.number == number) scene.actors) roomy

-- plain frames stand for themselves
abbrev itself : FrameOf → FrameOf
itself frame = frame

buffers_themselves : (buffers : List (Buffer FrameOf)) → map (framed_buffer itself) buffers ≡ buffers
buffers_themselves [] = refl
buffers_themselves (buffer ∷ buffers) = ap (λ (rest : List (Buffer FrameOf)). buffer ∷ rest) (buffers_themselves buffers)

arrivals_themselves : (arrivals : List (Arrival FrameOf)) → map (framed_arrival itself) arrivals ≡ arrivals
arrivals_themselves [] = refl
arrivals_themselves (arrived ∷ later) =
    (λ i. record arrived { txn = record arrived.txn { buffers = buffers_themselves arrived.txn.buffers i } } ∷ map (framed_arrival itself) later)
    ∙ ap (λ (rest : List (Arrival FrameOf)). arrived ∷ rest) (arrivals_themselves later)

-- what was committed at a vsync that decides so
pub shown_along : (scene : SceneValue) (state : RunState) (expected : ℕ) (end : Round FrameOf) (d : DecidesNow scene state expected end)
    → map commit_shown end.stage.commits ≡ map commit_shown (told_along (round_now scene state) d.taken)
shown_along scene state expected end d =
    ap (map commit_shown) (commits_along (is_written (written_in scene state.run)) (final_values scene state.run) expected (round_now scene state) end d.taken d.leads
    ∙ ap (λ cs. cs ++ told_along (round_now scene state) d.taken) (begins_bare scene state))

-- it stays so behind a vsync whose commits had room
module _ (scene : SceneValue) (state : RunState) (expected : ℕ) (end : Round FrameOf) (d : DecidesNow scene state expected end) (roomy : IsRoomyState scene state) where
  pub have_room : All SaysRoom (map commit_shown end.stage.commits) → HaveRoom (round_now scene state) d.taken
  have_room said = room_told (round_now scene state) d.taken (subst (All SaysRoom) (shown_along scene state expected end d) said)

  found : All (IsFound state.arrivals) (round_now scene state).pending
  unfolding round_now
  found = All-filter (is_uncommitted (commits_in state.reports)) (IsFound state.arrivals) state.arrivals (found_all 0 state.arrivals (length state.arrivals) roomy.order.rising)

  waits : map (framed_arrival itself) (round_now scene state).pending ≡ uncommitted state.arrivals (commits_in state.reports)
  unfolding round_now
  waits = arrivals_themselves (uncommitted state.arrivals (commits_in state.reports))

  ordered : (report : VsyncRecords) → report.commits ≡ map commit_shown end.stage.commits → AreInOrder state.arrivals (length state.arrivals) (commits_in (state.reports ++ report ∷ []))
  ordered report same =
      let along = waits_along itself (is_written (written_in scene state.run)) (final_values scene state.run) expected state.arrivals (length state.arrivals)
      (round_now scene state) end d.taken (commits_in state.reports) d.leads (record { order = roomy.order; waits = waits }) in
      subst (AreInOrder state.arrivals (length state.arrivals)) (sym (commits_more state.reports report ∙ ap (λ cs. commits_in state.reports ++ cs) (same ∙ shown_along scene state expected end d))) along.order

  told_room : HaveRoom (round_now scene state) d.taken → (report : VsyncRecords) → report.commits ≡ map commit_shown end.stage.commits
      → AllHadRoom (vsync_at state.arrivals (round_at_end (bare_round scene) (told_of scene state.arrivals state.reports)) report)
  unfolding round_now
  told_room room report same =
      let before = round_at_end (bare_round scene) (told_of scene state.arrivals state.reports) in
      subst (λ cs. All HadRoomAt (commits_from state.arrivals (begun before) cs)) (sym (same ∙ shown_along scene state expected end d))
      (commits_had_room state.arrivals (is_written (written_in scene state.run)) (final_values scene state.run) expected before.pending (round_now scene state) end d.taken found room d.leads)

  later_roomy : All SaysRoom (map commit_shown end.stage.commits) → (report : VsyncRecords) → report.commits ≡ map commit_shown end.stage.commits → (commits : List CommitRecord) → report.commits ≡ commits
      → IsRoomy scene state.arrivals (state.reports ++ reports_if report commits)
  later_roomy said report same [] none = subst (IsRoomy scene state.arrivals) (sym (append-nil state.reports)) roomy
  later_roomy said report same (commit ∷ commits) some = record {
    order = ordered report same;
    room = subst (All AllHadRoom) (sym (told_more state.arrivals (bare_round scene) state.reports report))
        (All-push AllHadRoom (told_of scene state.arrivals state.reports) _ roomy.room (told_room (have_room said) report same));
  }

  pub vsync_roomy : All SaysRoom (map commit_shown end.stage.commits) → IsRoomyState scene (after_vsync scene state end).state
  vsync_roomy said = later_roomy said (report_of scene state end) refl (report_of scene state end).commits refl

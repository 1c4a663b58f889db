-- The state of a play on one thread, as plain data, and the transitions that change it: an actor's next step, answered by what
-- happened so far, and a vsync.
use Rattle.std.specs.Prelude.{◌≡◌, ℕ, ◌+◌, ◌*◌, ◌==◌, nat_lt, Bool, false, ◌&&◌, if◌then◌else◌}
use Rattle.std.specs.Prelude.{List, [], ◌∷◌, ◌++◌, length, map, find, Option, Some, None, is_none}
use Rattle.std.specs.List.{list_any, range_with_len}
use Rattle.std.specs.Option.{option_map_or}
use Rattle.sf_base.specs.Fences.{Fence, value_of}
use Rattle.sf_base.specs.declared.fences.Seen.{Seen}
use Rattle.sf_actor.specs.sf_slots.Replies.{reply_after}
use Rattle.sf_actor.specs.sf_slots.declared.calls.PlainReply.{PlainReply}
use Rattle.sf_actor.specs.sf_slots.declared.calls.PlainReply.TheVariants as reply
use Rattle.sf_commit.specs.sf_ready.declared.hold.Hold.{Hold}
use Rattle.sf_commit.specs.sf_token.Pending.{Arrival}
use Rattle.sf_compose.specs.sf_tree.Trees.{TreeOf}
use Rattle.sf_commit.specs.sf_txn.Transactions.{Contents}
use Rattle.sf_commit.specs.OnLayers.{OnLayer}
use Rattle.sf_commit.specs.Rounds.{Decided, Round, held}
use Rattle.sf_commit.specs.declared.vsync.Commit.{Commit}
use Rattle.sf_script_scene.specs.Scene.{SceneValue}
use Rattle.sf_script_scene.specs.declared.declarations.QueueDecl.{QueueDecl}
use Rattle.sf_script_scene.specs.declared.step.ActorScript.{ActorScript}
use Rattle.sf_script_scene.specs.declared.step.Step.{Step}
use Rattle.sf_actor.specs.declared.done.Answered.{Answered}
use Rattle.sf_actor.specs.declared.done.Answered.TheVariants as answered
use Rattle.sf_actor.specs.declared.done.Done.{Done}
use Rattle.sf_actor.specs.Asking.{Asked, call_of}
use Rattle.sf_actor.specs.Makers.{Run}
use Rattle.sf_actor.specs.Names.{FrameOf}
use Rattle.sf_actor.specs.Points.{detached_fence}
use Rattle.sf_actor.specs.Scripts.{picture_at}
use Rattle.sf_actor.specs.Steps.{sent_by}
use Rattle.sf_actor.specs.Tests.{bad_value, refusal_of}
use Rattle.sf_actor.specs.Traces.{DoneAt, MadeStep, SentStep, made_at, past_after, sent_at}
use Rattle.sf_actor.specs.Values.{reply_at}
use Rattle.sf_record.specs.declared.event.Event.{Event}
use Rattle.sf_record.specs.declared.event.Event.TheVariants as event
use Rattle.sf_record.specs.declared.event.VsyncRecords.{VsyncRecords}
use Rattle.sf_record.specs.declared.record.CommitRecord.{CommitRecord}
use Rattle.law_played.specs.Commits.{commit_shown, is_written}
use Rattle.law_played.specs.Holds.{uncommitted}
use Rattle.law_played.specs.Histories.{Released, release_by}
use Rattle.law_played.specs.Frames.{shown_after}
use Rattle.law_played.specs.Progress.{released_by}
use Rattle.law_played.specs.Replies.{reply_shown}
use Rattle.law_played.specs.Runs.{final_values, written_in}
use Rattle.law_played.specs.Seeing.{value_shown}
use Rattle.law_played.specs.Stages.{bare_round, begun, round_at_end, told_of}
use Rattle.law_played.specs.Stuck.{holdings_at_end, next_step, step_waits}
use Rattle.law_played.specs.Vsyncs.{commits_in, rising_timelines}

-- what happened so far: the traces and the calls, the arrivals, the records of vsyncs, and how many vsyncs there were
pub record RunState : Type 0 where
  pub run : Run
  pub arrivals : List (Arrival FrameOf)
  pub reports : List VsyncRecords
  pub vsyncs : ℕ

-- what a transition shows, and the state after it
pub record Transition : Type 0 where
  pub events : List Event
  pub state : RunState

-- nothing happened
abbrev pub first_state : RunState
first_state = record { run = record { trace = λ actor. []; calls = λ queue. [] }; arrivals = []; reports = []; vsyncs = 0 }

-- a transition in which nothing happens
abbrev pub idle : RunState → Transition
idle state = record { events = []; state = state }

-- the list of one number is another
abbrev pub with_list : {X : Type 0} → (ℕ → List X) → ℕ → List X → ℕ → List X
with_list lists number list n = if n == number then list else lists n

-- the reply to a call after all calls on its queue
abbrev pub reply_on : Run → ℕ → Asked → QueueDecl → PlainReply
reply_on run by asked queue = reply_after queue.width queue.height (run.calls queue.number) (record { 0 = by }) asked.1

-- what a queue replies to a call that is its next
abbrev pub reply_now : SceneValue → Run → ℕ → Asked → PlainReply
reply_now scene run by asked = option_map_or (reply_on run by asked) (find (λ (queue : QueueDecl). queue.number == asked.0.0) scene.queues) reply.Done

-- a call that is made now; of the calls on a queue the newest is the first
abbrev pub with_call : SceneValue → ℕ → ℕ → Run → Asked → Run
with_call scene by place run asked =
    record run {
      calls = with_list run.calls asked.0.0
          (record { caller = record { 0 = by }; step = place; call = asked.1; reply = reply_now scene run by asked } ∷ run.calls asked.0.0);
    }

-- the run after calls of one step, one after another
unfoldable pub with_calls : SceneValue → ℕ → ℕ → Run → List Asked → Run
with_calls scene by place run [] = run
with_calls scene by place run (asked ∷ later) = with_calls scene by place (with_call scene by place run asked) later

-- an actor's next step now: its place, and what its steps before say
abbrev pub at_now : RunState → ActorScript → Done → DoneAt
at_now state script done = record { place = length (state.run.trace script.number) + 1; past = past_after (state.run.trace script.number); done = done }

-- the answer of a step that no own test refuses: that of its call, the number of the arrival that it sends, or 0
abbrev pub answer_by : SceneValue → RunState → ℕ → Option Asked → Option (Contents FrameOf) → Answered
answer_by scene state by (Some asked) sent = answered.Called (reply_now scene state.run by asked)
answer_by scene state by None (Some txn) = answered.Sent (length state.arrivals + 1)
answer_by scene state by None None = answered.Own 0

-- a fence has a point that is not signalled so far
abbrev pub is_open_at : Seen → Fence → ℕ → Bool
is_open_at seen fence timeline = nat_lt (value_of seen.values timeline) (value_of fence.values timeline)

-- a fence has a point that is not signalled now
abbrev pub is_open : SceneValue → Run → Option Fence → Bool
is_open scene run None = false
is_open scene run (Some fence) = list_any (is_open_at (final_values scene run) fence) (range_with_len 1 64)

-- a step is refused by the first of its own tests that is met, and where it takes a buffer out of its queue whose fence is open
abbrev pub answer_tested : SceneValue → RunState → ActorScript → Step → Option ℕ → Answered
answer_tested scene state script s (Some status) = answered.Own status
answer_tested scene state script s None =
    let holdings = holdings_at_end state.run script in
    if is_open scene state.run (detached_fence holdings s) then answered.Own bad_value
    else answer_by scene state script.number (call_of (picture_at scene.pictures) holdings s) (sent_by holdings s)

-- a step as it is done now
unfoldable pub done_now : SceneValue → RunState → ActorScript → Step → Done
done_now scene state script s = record { step = s; answered = answer_tested scene state script s (refusal_of (picture_at scene.pictures) (holdings_at_end state.run script) s) }

-- it is not time yet for a step that no own test refuses
unfoldable pub waits_now : SceneValue → RunState → ActorScript → Step → Bool
waits_now scene state script s =
    let holdings = holdings_at_end state.run script in
    is_none (refusal_of (picture_at scene.pictures) holdings s) && step_waits scene state.run script holdings s

-- the call that a step made
abbrev pub asked_by : MadeStep → Asked
asked_by made = made.asked

-- what an actor sent, as an arrival
abbrev pub arrival_by : ℕ → SentStep → Arrival FrameOf
arrival_by actor sent = record { number = sent.number; actor = record { 0 = actor }; step = sent.step; txn = sent.txn }

-- a step was done: its reply is shown, its calls are made, and what it sent arrives
abbrev pub after_step : SceneValue → RunState → ActorScript → Done → Transition
after_step scene state script done =
    let at = at_now state script done in
    let run = record state.run { trace = with_list state.run.trace script.number (state.run.trace script.number ++ done ∷ []) } in
    record {
      events = event.Reply (reply_shown (reply_at script.number at)) ∷ [];
      state = record state {
        run = with_calls scene script.number at.place run (map asked_by (made_at (picture_at scene.pictures) at));
        arrivals = state.arrivals ++ map (arrival_by script.number) (sent_at at);
      };
    }

-- the transition of an actor: its next step, if it has one and it is time for it
abbrev pub step_transition : SceneValue → RunState → ActorScript → Option Step → Transition
step_transition scene state script None = idle state
step_transition scene state script (Some s) = if waits_now scene state script s then idle state else after_step scene state script (done_now scene state script s)

-- the transition of an actor that there is: its next step
abbrev pub script_transition : SceneValue → RunState → Option ActorScript → Transition
script_transition scene state None = idle state
script_transition scene state (Some script) = step_transition scene state script (next_step state.run script)

-- the transition of the actor of a number
unfoldable pub actor_transition : SceneValue → ℕ → RunState → Transition
actor_transition scene number state = script_transition scene state (find (λ (script : ActorScript). script.number == number) scene.actors)

-- how far commits have come as a vsync begins: all arrivals without a commit are pending
unfoldable pub round_now : SceneValue → RunState → Round FrameOf
round_now scene state =
    record (begun (round_at_end (bare_round scene) (told_of scene state.arrivals state.reports))) { pending = uncommitted state.arrivals (commits_in state.reports) }

-- a vsync decides by what is written and signalled so far
abbrev pub DecidesNow : SceneValue → RunState → ℕ → Round FrameOf → Type 0
DecidesNow scene state expected end = Decided (is_written (written_in scene state.run)) (final_values scene state.run) expected (round_now scene state) end

-- what the next vsync reports, and the record of it, which there is where something was committed
abbrev pub report_of : SceneValue → RunState → Round FrameOf → VsyncRecords
report_of scene state end = record {
  number = state.vsyncs + 1;
  expected = (state.vsyncs + 1) * scene.period;
  timelines = map (value_shown (final_values scene state.run)) (rising_timelines scene);
  commits = map commit_shown end.stage.commits;
  shown = shown_after scene (map commit_shown end.stage.commits) end.stage.tree;
}

-- a vsync that committed something is shown
abbrev pub reports_if : VsyncRecords → List CommitRecord → List VsyncRecords
reports_if report [] = []
reports_if report (commit ∷ commits) = report ∷ []

-- what a vsync shows in this state
abbrev pub reports_of : SceneValue → RunState → Round FrameOf → List VsyncRecords
reports_of scene state end = let report = report_of scene state end in reports_if report report.commits

-- the call that gives a frame back
abbrev pub release_asked : Released → Asked
release_asked released = (released.on.lease.0, release_by released)

-- the transition of a vsync that ended so
abbrev pub after_vsync : SceneValue → RunState → Round FrameOf → Transition
after_vsync scene state end =
    let reports = reports_of scene state end in
    let released = released_by (report_of scene state end) end.stage.gone in
    record {
      events = map event.Vsync reports;
      state = record state {
        run = with_calls scene 0 (state.vsyncs + 1) state.run (map release_asked released);
        reports = state.reports ++ reports;
        vsyncs = state.vsyncs + 1;
      };
    }

-- a transition is that of a vsync: what it decides now, and the state behind it
pub record VsyncTransition (scene : SceneValue) (state : RunState) (transition : Transition) : Type 0 where
  pub end : Round FrameOf
  pub decides : DecidesNow scene state ((state.vsyncs + 1) * scene.period) end
  pub is : transition ≡ after_vsync scene state end

-- a vsync of a handler is the next one of a play: it ends with these commits, tree and frames that go, and holds the same
pub record IsPlaysVsync (scene : SceneValue) (state : RunState) (commits : List Commit) (tree : TreeOf) (gone : List (OnLayer FrameOf)) (holds : List (ℕ × Hold)) : Type 0 where
  pub end : Round FrameOf
  pub decides : DecidesNow scene state ((state.vsyncs + 1) * scene.period) end
  pub commits_are : end.stage.commits ≡ commits
  pub leaves : end.stage.tree ≡ tree
  pub goes : end.stage.gone ≡ gone
  pub holds_are : held (is_written (written_in scene state.run)) (final_values scene state.run) ((state.vsyncs + 1) * scene.period) end ≡ holds

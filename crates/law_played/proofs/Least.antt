-- The least scene, its records and its run, computed by the definitions.
use Rattle.std.proofs.Common.{◌≡◌, ◌≢◌, ℕ, ◌*◌, length, arith, ◌<◌, refl, sym, subst, All, ◌==◌}
use Rattle.std.proofs.Common.{◌++◌, Bool, true, false, cond, List, [], ◌∷◌, map, filter, Some, None, pos}
use Rattle.std.specs.List.{AllByRecursion, AllZip}
use Rattle.std.proofs.lemmas.List.Elements.{All-nil, All-cons, All-from_recursion}
use Rattle.sf_base.specs.Blend.{blended, product}
use Rattle.sf_base.specs.Paint.{painted}
use Rattle.sf_base.specs.declared.fences.Seen.{Seen}
use Rattle.sf_compose.specs.sf_layer.declared.kind.Kind.TheVariants as kind
use Rattle.sf_compose.specs.sf_layer.declared.layer.Layer.{Layer}
use Rattle.sf_compose.specs.sf_layer.declared.op.Op.TheVariants as op
use Rattle.sf_compose.specs.sf_layer.declared.parent.Parent.TheVariants as parent
use Rattle.sf_compose.specs.sf_tree.Changes.{created}
use Rattle.sf_compose.specs.sf_tree.DrawOrder.{draw_order}
use Rattle.sf_compose.specs.sf_tree.Showing.{shows}
use Rattle.sf_commit.specs.sf_txn.Transactions.{Contents}
use Rattle.sf_compose.specs.sf_view.Ancestry.{ancestry}
use Rattle.sf_compose.specs.sf_view.Image.{drawn_in, image_in}
use Rattle.sf_output_plan.specs.sf_output_shown.Copies.{written}
use Rattle.sf_output_plan.specs.sf_output_shown.Displays.{stack_on}
use Rattle.sf_compose.specs.Frames.{frame_bytes, row_bytes}
use Rattle.sf_commit.specs.sf_ready.Holds.{hold_of}
use Rattle.sf_commit.specs.sf_token.Pending.{Arrival}
use Rattle.sf_commit.specs.Rounds.{Round}
use Rattle.sf_commit.specs.declared.vsync.Commit.{Commit}
use Rattle.sf_script_scene.specs.Scene.{has_actor}
use Rattle.sf_script_scene.specs.declared.change.Change.TheVariants as change
use Rattle.sf_script_scene.specs.declared.step.ActorScript.{ActorScript}
use Rattle.sf_script_scene.specs.declared.step.Step.TheVariants as step
use Rattle.sf_actor.specs.declared.done.Answered.TheVariants as answered
use Rattle.sf_actor.specs.declared.done.Done.{Done}
use Rattle.sf_actor.specs.Makers.{Run}
use Rattle.sf_actor.specs.Names.{FrameOf, Token}
use Rattle.sf_actor.specs.Scripts.{picture_at}
use Rattle.sf_actor.specs.Steps.{holdings_next}
use Rattle.sf_actor.specs.ScriptTraces.{IsMade, made_on, sent_as}
use Rattle.sf_actor.specs.Tests.{refusal_of}
use Rattle.sf_actor.specs.Traces.{DoneAt, IsAnswered, AreAnswered, MadeStep, Past, made_by, next, no_past, places_from, places_of, sends_of}
use Rattle.sf_actor.specs.Values.{replies_of}
use Rattle.sf_actor.specs.Written.{FrameNumber}
use Rattle.sf_record.specs.Events.{events_records}
use Rattle.sf_record.specs.Fitting.{ArrivalFits, BufferFits, FieldsFit, Fits32, Fits64, HeldFits, RecordFits, ReplyFits, StuckFits, TimelineFits}
use Rattle.sf_record.specs.declared.event.VsyncRecords.{VsyncRecords}
use Rattle.sf_record.specs.declared.record.ArrivalEntry.{ArrivalEntry}
use Rattle.sf_record.specs.declared.record.CommitRecord.{CommitRecord}
use Rattle.sf_record.specs.declared.record.Record.{Record}
use Rattle.sf_record.specs.declared.record.ReplyRecord.{ReplyRecord}
use Rattle.sf_record.specs.Records.{body_of, list_bytes, u32_bytes, u64_bytes}
use Rattle.law_played.specs.Arrivals.{ArriveInOrder, number_of}
use Rattle.law_played.specs.Buffers.{IsAsQueued}
use Rattle.law_played.specs.Commits.{CommitInOrder, CommitsReady, IsPrefix, SaysResults, WasReady, arrival_of, arrived_of, committed_of}
use Rattle.law_played.specs.Frames.{ShowImages, ShowsImage, frame_of, plan_of, shown_after, shown_due}
use Rattle.law_played.specs.Histories.{AreHistories, IsHistory, Released, released_in, rising_queues}
use Rattle.law_played.specs.Holds.{AreHeld, EndOf, uncommitted}
use Rattle.law_played.specs.Least.{least_commit, least_events, least_records, least_scene, least_script, least_shows, least_vsync}
use Rattle.law_played.specs.Played.{Fits, Played, end_of}
use Rattle.law_played.specs.Replies.{AnswerSteps, replies_due, replies_in, replies_to}
use Rattle.law_played.specs.Runs.{IsTraced, StepBy, final_values, signals_in, steps_in, written_in}
use Rattle.law_played.specs.Stages.{CommitAt, VsyncAt, arrival_at, bare_round, commits_from, round_after, told_from, told_of}
use Rattle.law_played.specs.Stuck.{AreStuck, IsNotReady, next_step}
use Rattle.law_played.specs.Turns.{ComesAfter, DrawAfterOwed, EntersAfter, owed_in}
use Rattle.law_played.specs.Vsyncs.{AreVsyncs, WasSignalled, commits_in, rising_timelines, timeline_of, vsyncs_in}

abbrev red_set : Done
red_set = record { step = step.Set 1 5 (change.Colour (record { r = 255; g = 0; b = 0; a = 255 })); answered = answered.Own 0 }

abbrev pub trace : List Done
trace =
    record { step = step.Tx 1; answered = answered.Own 0 }
    ∷ record { step = step.Set 1 5 (change.CreateColour (Some 0)); answered = answered.Own 0 }
    ∷ red_set
    ∷ record { step = step.Apply 1 1; answered = answered.Sent 1 }
    ∷ []

abbrev pub run : Run
run = record { trace = λ actor. cond (actor == 1) trace []; calls = λ queue. [] }

abbrev pub txn : Contents FrameOf
txn = record {
  token = record { 0 = 1 };
  desired = None;
  ops = (record { 0 = 5 }, op.Create kind.Colour parent.Root) ∷ (record { 0 = 5 }, op.Colour (record { r = 255; g = 0; b = 0; a = 255 })) ∷ [];
  buffers = [];
  barriers = [];
}

abbrev pub arrived : Arrival FrameOf
arrived = record { number = 1; actor = record { 0 = 1 }; step = 4; txn = txn }

abbrev pub arrivals : List (Arrival FrameOf)
arrivals = arrived ∷ []

abbrev pub red : Layer
red = record {
  number = record { 0 = 5 };
  kind = kind.Colour;
  parent = parent.Root;
  relative = None;
  z = pos 0;
  position = (pos 0, pos 0);
  crop = None;
  alpha = 255;
  hidden = false;
  opaque = false;
  backpressure = false;
  colour = record { r = 255; g = 0; b = 0; a = 255 };
  shown = None;
  orient = 0;
}

abbrev pub decided : Commit
decided = record { token = record { 0 = 1 }; number = 1; cause = 0; op = 0; buffers = [] }

abbrev pub at_end : Round FrameOf
at_end = record {
  stage = record { tree = record { layers = red ∷ []; most = 256 }; on = []; commits = decided ∷ []; gone = [] };
  pending = [];
  frames = [];
  fresh = [];
}

abbrev pub committing : CommitAt
committing = record { round = bare_round least_scene; arrived = arrived; commit = least_commit }

abbrev pub told_one : VsyncAt
told_one = record { vsync = least_vsync; commits = committing ∷ []; round = at_end }

pub told : told_of least_scene arrivals (least_vsync ∷ []) ≡ (told_one ∷ [])
unfolding told_from commits_from round_after arrival_at created
told = refl

pub replies_are : replies_of 1 trace ≡
    (record { actor = 1; step = 1; status = 0; values = [] } ∷ record { actor = 1; step = 2; status = 0; values = [] }
    ∷ record { actor = 1; step = 3; status = 0; values = [] } ∷ record { actor = 1; step = 4; status = 0; values = 1 ∷ [] } ∷ [])
unfolding places_from holdings_next
replies_are = refl

pub sends : map sent_as (filter (λ (a : Arrival FrameOf). a.actor.0 == 1) arrivals) ≡ sends_of trace
unfolding places_from holdings_next
sends = refl

pub none_made : (queue : ℕ) → made_on queue (made_by (picture_at []) trace) ≡ []
unfolding places_from holdings_next
none_made queue = refl

abbrev after_1 : Past
after_1 = next 1 no_past (record { step = step.Tx 1; answered = answered.Own 0 })

abbrev after_2 : Past
after_2 = next 2 after_1 (record { step = step.Set 1 5 (change.CreateColour (Some 0)); answered = answered.Own 0 })

abbrev after_3 : Past
after_3 = next 3 after_2 red_set

abbrev step_1 : DoneAt
step_1 = record { place = 1; past = no_past; done = record { step = step.Tx 1; answered = answered.Own 0 } }

abbrev step_2 : DoneAt
step_2 = record { place = 2; past = after_1; done = record { step = step.Set 1 5 (change.CreateColour (Some 0)); answered = answered.Own 0 } }

abbrev step_3 : DoneAt
step_3 = record { place = 3; past = after_2; done = red_set }

abbrev step_4 : DoneAt
step_4 = record { place = 4; past = after_3; done = record { step = step.Apply 1 1; answered = answered.Sent 1 } }

abbrev places : List DoneAt
places = step_1 ∷ step_2 ∷ step_3 ∷ step_4 ∷ []

places_are : places_of trace ≡ places
unfolding places_from
places_are = refl

each_answered : (final : Seen) → AllByRecursion (IsAnswered (picture_at []) final) places
unfolding refusal_of holdings_next
each_answered final = ((tt, refl), ((tt, refl), ((tt, refl), ((tt, (1, refl)), tt))))

are_answered : (final : Seen) → AreAnswered (picture_at []) final trace
are_answered final =
    subst (All (IsAnswered (picture_at []) final)) (sym places_are)
    (All-from_recursion (IsAnswered (picture_at []) final) places (each_answered final))

is_trace : IsTraced true least_scene run arrivals least_script
is_trace = record {
  first = refl;
  answered = are_answered (final_values least_scene run);
  replied = refl;
  made = λ queue. subst (λ (made : List MadeStep). AllZip IsMade made []) (sym (none_made queue)) tt;
  sent = sends;
}

abbrev one : {X : Type 0} (P : X → Type 0) (x : X) → P x → All P (x ∷ [])
one P x p = All-cons P x [] p (All-nil P)

abbrev by_actor : DoneAt → StepBy
by_actor at = record { actor = 1; at = at }

steps_are : steps_in least_scene run ≡ map by_actor places
unfolding places_from
steps_are = refl

in_turn : DrawAfterOwed least_scene run
in_turn =
    subst (All (EntersAfter least_scene run)) (sym steps_are)
    (All-from_recursion (EntersAfter least_scene run) (map by_actor places) (n step_1, (n step_2, (n step_3, (n step_4, tt)))))
  where
    n : (at : DoneAt) → All (λ (token : Token). All (ComesAfter least_scene run (by_actor at) token) (owed_in least_scene run)) []
    n at = All-nil (λ (token : Token). All (ComesAfter least_scene run (by_actor at) token) (owed_in least_scene run))

replies_shown : replies_to 1 least_events ≡ replies_due run 1
unfolding replies_in places_from holdings_next
replies_shown = refl

abbrev reply : ℕ → List ℕ → ReplyRecord
reply place values = record { actor = 1; step = place; status = 0; values = values }

answers : AnswerSteps least_scene run least_events
unfolding replies_in
answers = record {
  of_each = one (λ (script : ActorScript). replies_to script.number least_events ≡ replies_due run script.number) least_script replies_shown;
  of_none_else = All-from_recursion (λ (r : ReplyRecord). has_actor least_scene.actors r.actor ≡ true)
      (reply 1 [] ∷ reply 2 [] ∷ reply 3 [] ∷ reply 4 (1 ∷ []) ∷ []) (refl, (refl, (refl, (refl, tt))));
}

arrive : ArriveInOrder least_scene arrivals least_shows.arrived
arrive = record {
  numbered = refl;
  shown = refl;
  of_none_else = one (λ (entry : ArrivalEntry). has_actor least_scene.actors entry.actor ≡ true) (record { actor = 1; step = 4; token = 1 }) refl;
}

has_one : List CommitRecord → Type 0
has_one [] = ⊥
has_one (c ∷ cs) = Unit {0}

vsyncs_are : (signals : List (ℕ × ℕ)) → AreVsyncs least_scene signals (least_vsync ∷ [])
unfolding rising_timelines has_one
vsyncs_are signals = record {
  from_1 = one (λ (v : VsyncRecords). 0 < v.number) least_vsync (omega arith);
  go_on = tt;
  expected = one (λ (v : VsyncRecords). v.expected ≡ v.number * least_scene.period) least_vsync refl;
  commit = one (λ (v : VsyncRecords). v.commits ≢ []) least_vsync (λ e. subst has_one e tt);
  timelines = one (λ (v : VsyncRecords). map timeline_of v.timelines ≡ rising_timelines least_scene) least_vsync refl;
  signalled = one (λ (v : VsyncRecords). All (WasSignalled signals) v.timelines) least_vsync (All-nil (WasSignalled signals));
}

prefix_if : (b : Bool) → map arrival_of (cond b (least_commit ∷ []) []) ++ [] ≡ map number_of (cond b (arrived ∷ []) [])
prefix_if true = refl
prefix_if false = refl

each_token : (token : ℕ) → IsPrefix (committed_of token (least_commit ∷ [])) (arrived_of token arrivals)
each_token token = record { rest = []; joined = prefix_if (1 == token) }

ready : (written : List FrameNumber) → CommitsReady written told_one
unfolding hold_of
ready written = record { ready = one (WasReady written least_vsync) committing refl; lowest = tt }

in_order : CommitInOrder arrivals (written_in least_scene run) (least_commit ∷ []) (told_of least_scene arrivals (least_vsync ∷ []))
in_order = record {
  of_each_token = each_token;
  results = subst (All SaysResults) (sym told) (one SaysResults told_one refl);
  ready =
      subst (All (CommitsReady (written_in least_scene run))) (sym told)
      (one (CommitsReady (written_in least_scene run)) told_one (ready (written_in least_scene run)));
}

no_histories : (released : List Released) → AreHistories least_scene run released []
unfolding rising_queues
no_histories released = record { shown = refl; of_each = All-nil (IsHistory least_scene run released) }

frame_shown : least_vsync.shown ≡ shown_after least_scene told_one.vsync.commits told_one.round.stage.tree
unfolding shown_due plan_of written frame_of frame_bytes row_bytes image_in drawn_in stack_on ancestry draw_order shows painted blended product
frame_shown = refl

not_stuck : AreStuck least_scene run []
not_stuck = record {
  exactly = refl;
  not_ready = one (λ (script : ActorScript). IsNotReady least_scene run script (next_step run script)) least_script tt;
}

none_held : (end : EndOf) → AreHeld end (uncommitted arrivals (least_commit ∷ [])) []
none_held end = refl

pub fits : Fits least_scene least_shows run arrivals
unfolding vsyncs_in commits_in
fits = record {
  traces = one (IsTraced true least_scene run arrivals) least_script is_trace;
  turns = in_turn;
  replies = answers;
  arrive = arrive;
  vsyncs = vsyncs_are (signals_in least_scene run);
  commits = in_order;
  calls = no_histories (released_in (told_of least_scene arrivals (least_vsync ∷ [])));
  frames = subst (ShowImages least_scene) (sym told) (one (ShowsImage least_scene) told_one frame_shown);
  buffers = one (λ (c : CommitRecord). All (IsAsQueued least_scene []) c.buffers) least_commit (All-nil (IsAsQueued least_scene []));
  holds = none_held (end_of least_scene run (told_of least_scene arrivals (least_vsync ∷ [])));
  ends = not_stuck;
}

fits_32 : (n : ℕ) → n < 20000000 → Fits32 n
fits_32 n low = omega arith

fits_64 : (n : ℕ) → n < 20000000 → Fits64 n
fits_64 n low = omega arith

reply_fits : (place : ℕ) (values : List ℕ) → place < 20000000 → length values < 20000000 → All Fits64 values → ReplyFits (reply place values)
reply_fits place values low few each = record {
  actor = fits_32 1 (omega arith);
  step = fits_32 place low;
  status = fits_32 0 (omega arith);
  values = record { count = fits_32 (length values) few; each = each };
}

-- the numbers of a record fit, and so does the length of its body
fitting : (r : Record) (size : ℕ) → length (body_of r) ≡ size → size < 20000000 → FieldsFit r → RecordFits r
fitting r size is low fields = record { fields = fields; body = subst Fits32 (sym is) (fits_32 size low) }

each_fits : AllByRecursion RecordFits least_records
unfolding events_records body_of list_bytes u32_bytes u64_bytes
each_fits = (
  fitting _ 20 refl (omega arith) (record { version = fits_32 1 (omega arith); width = fits_32 2 (omega arith); height = fits_32 1 (omega arith); period = fits_64 16666667 (omega arith) }),
  (
    fitting _ 16 refl (omega arith) (reply_fits 1 [] (omega arith) (omega arith) (All-nil Fits64)),
    (
      fitting _ 16 refl (omega arith) (reply_fits 2 [] (omega arith) (omega arith) (All-nil Fits64)),
      (
        fitting _ 16 refl (omega arith) (reply_fits 3 [] (omega arith) (omega arith) (All-nil Fits64)),
        (
          fitting _ 24 refl (omega arith) (reply_fits 4 (1 ∷ []) (omega arith) (omega arith) (one Fits64 1 (fits_64 1 (omega arith)))),
          (
            fitting _ 16 refl (omega arith) (record {
              number = fits_32 1 (omega arith);
              expected = fits_64 16666667 (omega arith);
              timelines = record { count = fits_32 0 (omega arith); each = All-nil TimelineFits };
            }),
            (
              fitting _ 20 refl (omega arith) (record {
                token = fits_32 1 (omega arith);
                arrival = fits_32 1 (omega arith);
                result = fits_32 0 (omega arith);
                operation = fits_32 0 (omega arith);
                buffers = record { count = fits_32 0 (omega arith); each = All-nil BufferFits };
              }),
              (
                fitting _ 12 refl (omega arith) (fits_32 1 (omega arith)),
                (
                  fitting _ 16 refl (omega arith) (record {
                    count = fits_32 1 (omega arith);
                    each = one ArrivalFits (record { actor = 1; step = 4; token = 1 })
                        (record { actor = fits_32 1 (omega arith); step = fits_32 4 (omega arith); token = fits_32 1 (omega arith) });
                  }),
                  (
                    fitting _ 4 refl (omega arith) (record { count = fits_32 0 (omega arith); each = All-nil HeldFits }),
                    (
                      fitting _ 4 refl (omega arith) (record { count = fits_32 0 (omega arith); each = All-nil StuckFits }),
                      (fitting _ 0 refl (omega arith) tt, tt),
                    ),
                  ),
                ),
              ),
            ),
          ),
        ),
      ),
    ),
  ),
)

pub fit : All RecordFits least_records
fit = All-from_recursion RecordFits least_records each_fits

pub is_played : Played least_scene least_records
is_played = record { shows = least_shows; order = refl; fit = fit; run = run; arrivals = arrivals; fits = fits }

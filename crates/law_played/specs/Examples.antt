-- Two examples on which the definitions are computed: an actor with one queue, and frames that are replaced on their layer.
use Rattle.std.specs.Prelude.{ℕ, true, false, List, [], ◌∷◌, map, reverse, Some, None, pos}
use Rattle.std.specs.Option.{unwrap_or}
use Rattle.sf_base.specs.Fences.{Fence}
use Rattle.sf_base.specs.declared.format.Format.TheVariants as format
use Rattle.sf_script_scene.specs.sf_picture.declared.picture.Picture.{Picture}
use Rattle.sf_actor.specs.sf_slots.declared.calls.Entry.{Entry}
use Rattle.sf_actor.specs.sf_slots.declared.calls.PlainReply.{PlainReply}
use Rattle.sf_actor.specs.sf_slots.declared.calls.PlainReply.TheVariants as reply
use Rattle.sf_actor.specs.sf_slots.declared.slot.Held.{Held}
use Rattle.sf_actor.specs.sf_surface.Hands.{points_of}
use Rattle.sf_commit.specs.sf_token.Pending.{Arrival}
use Rattle.sf_script_scene.specs.Scene.{SceneValue, bare_scene}
use Rattle.sf_script_scene.specs.declared.change.Change.TheVariants as change
use Rattle.sf_script_scene.specs.declared.declarations.QueueDecl.{QueueDecl}
use Rattle.sf_script_scene.specs.declared.step.Step.{Step}
use Rattle.sf_script_scene.specs.declared.step.Step.TheVariants as step
use Rattle.sf_actor.specs.declared.done.Answered.TheVariants as answered
use Rattle.sf_actor.specs.declared.done.Done.{Done}
use Rattle.sf_actor.specs.Makers.{Run}
use Rattle.sf_actor.specs.Names.{FrameOf}
use Rattle.sf_actor.specs.Points.{reached_by}
use Rattle.sf_actor.specs.Scripts.{fence_of, picture_at}
use Rattle.sf_actor.specs.Traces.{MadeStep, SentStep, made_by, sends_of}
use Rattle.sf_record.specs.declared.event.VsyncRecords.{VsyncRecords}
use Rattle.sf_record.specs.declared.record.CommitRecord.{CommitRecord}
use Rattle.sf_record.specs.declared.record.HistoryEntry.{HistoryEntry}
use Rattle.sf_record.specs.declared.record.QueueHistory.{QueueHistory}
use Rattle.sf_record.specs.declared.record.ReplyRecord.{ReplyRecord}
use Rattle.law_played.specs.Commits.{commit_shown}
use Rattle.law_played.specs.Histories.{Released}
use Rattle.law_played.specs.Holds.{EndOf}
use Rattle.law_played.specs.Stages.{VsyncAt, bare_round, round_at_end, told_of}

-- a step that makes no call and is done, one that a queue answered, and one that sent the transaction of this number
abbrev pub own : Step → Done
own s = record { step = s; answered = answered.Own 0 }

abbrev pub called : Step → PlainReply → Done
called s told = record { step = s; answered = answered.Called told }

abbrev pub sent : Step → ℕ → Done
sent s number = record { step = s; answered = answered.Sent number }

-- a buffer of one pixel, lent as a new one or again, and taken with a frame whose fence has a point of timeline 1
abbrev pub pixel_buffer : ℕ → Held
pixel_buffer number = record { number = number; width = 1; height = 1 }

abbrev pub lent_new : ℕ → ℕ → PlainReply
lent_new slot number = reply.Dequeued (record { 0 = slot }) (pixel_buffer number) false true (fence_of [])

abbrev pub lent_again : ℕ → ℕ → Fence → PlainReply
lent_again slot number fence = reply.Dequeued (record { 0 = slot }) (pixel_buffer number) true false fence

abbrev pub taken : ℕ → ℕ → ℕ → ℕ → PlainReply
taken slot number frame value =
    reply.Acquired (record {
      slot = record { 0 = slot };
      frame = frame;
      held = pixel_buffer number;
      picture = 1;
      crop = record { x = pos 0; y = pos 0; width = 1; height = 1 };
      time = None;
      droppable = false;
      fence = fence_of ((1, value) ∷ []);
    }) 0

-- One queue: a buffer is lent, requested and drawn, queued with a fence, acquired, and shown by a transaction.
abbrev pub queue_trace : List Done
queue_trace =
    called (step.Connect 1) reply.Done
    ∷ called (step.Dequeue 1 0 None) (lent_new 0 1)
    ∷ called (step.Request 0) (reply.Requested (pixel_buffer 1))
    ∷ own (step.Draw 0 1)
    ∷ called (step.Queue 0 1 None None ((1, 5) ∷ [])) (reply.Queued 1)
    ∷ called (step.Acquire 1 1 None) (taken 0 1 1 5)
    ∷ own (step.Signal 1 5)
    ∷ own (step.Tx 1)
    ∷ own (step.Set 1 1 (change.CreateBuffer (Some 0)))
    ∷ own (step.Buffer 1 1 1)
    ∷ sent (step.Apply 1 3) 1
    ∷ []

abbrev pub pixel_picture : Picture
pixel_picture = record { number = 1; width = 1; height = 1; fills = []; format = format.Rgba }

abbrev pub entry_made : MadeStep → Entry
entry_made made = record { caller = record { 0 = 1 }; step = made.step; call = made.asked.1; reply = unwrap_or made.told reply.Done }

abbrev pub queue_calls : List Entry
queue_calls = reverse (map entry_made (made_by (picture_at (pixel_picture ∷ [])) queue_trace))

-- the run of its one actor, which has number 1, and its one queue, which has number 1
abbrev pub queue_run : Run
queue_run = record { trace = λ actor. queue_trace; calls = λ queue. queue_calls }

abbrev pub pixel_queue : QueueDecl
pixel_queue = record { number = 1; width = 1; height = 1 }

abbrev pub reply_with : ℕ → List ℕ → ReplyRecord
reply_with place values = record { actor = 1; step = place; status = 0; values = values }

abbrev pub queue_replies : List ReplyRecord
queue_replies =
    reply_with 1 []
    ∷ reply_with 2 (0 ∷ 1 ∷ 1 ∷ [])
    ∷ reply_with 3 (0 ∷ 1 ∷ 1 ∷ 1 ∷ [])
    ∷ reply_with 4 []
    ∷ reply_with 5 (0 ∷ 1 ∷ [])
    ∷ reply_with 6 (0 ∷ 1 ∷ 1 ∷ 0 ∷ 1 ∷ 5 ∷ [])
    ∷ reply_with 7 []
    ∷ reply_with 8 []
    ∷ reply_with 9 []
    ∷ reply_with 10 []
    ∷ reply_with 11 (1 ∷ [])
    ∷ []

abbrev pub call_entry : ℕ → ℕ → ℕ → ℕ → HistoryEntry
call_entry place kind slot frame = record { caller = 1; step = place; kind = kind; status = 0; slot = slot; frame = frame }

abbrev pub queue_history : QueueHistory
queue_history = record {
  queue = 1;
  entries = call_entry 1 1 4294967295 0 ∷ call_entry 2 5 0 0 ∷ call_entry 3 6 0 0 ∷ call_entry 5 7 0 1 ∷ call_entry 6 13 0 1 ∷ [];
}

-- Replaced frames: the first vsync commits frames 1 and 2 for one layer, so that 1 goes back unread; the second commits frame
-- 3, so that 2, which was shown, goes back read. A fourth transaction waits for frame 9.
abbrev pub replacing_trace : List Done
replacing_trace =
    called (step.Connect 1) reply.Done
    ∷ called (step.MaxDequeued 1 3) reply.Done
    ∷ own (step.Signal 1 5)
    ∷ called (step.Dequeue 1 0 None) (lent_new 0 1)
    ∷ called (step.Request 0) (reply.Requested (pixel_buffer 1))
    ∷ own (step.Draw 0 1)
    ∷ called (step.Queue 0 1 None None ((1, 1) ∷ [])) (reply.Queued 1)
    ∷ called (step.Acquire 1 1 None) (taken 0 1 1 1)
    ∷ own (step.Tx 1)
    ∷ own (step.Set 1 1 (change.CreateBuffer (Some 0)))
    ∷ own (step.Buffer 1 1 1)
    ∷ sent (step.Apply 1 1) 1
    ∷ called (step.Dequeue 1 0 None) (lent_new 1 2)
    ∷ called (step.Request 0) (reply.Requested (pixel_buffer 2))
    ∷ own (step.Draw 0 1)
    ∷ called (step.Queue 0 1 None None ((1, 2) ∷ [])) (reply.Queued 2)
    ∷ called (step.Acquire 1 1 None) (taken 1 2 2 2)
    ∷ own (step.Tx 1)
    ∷ own (step.Buffer 1 1 1)
    ∷ sent (step.Apply 1 1) 2
    ∷ called (step.Dequeue 1 0 None) (lent_again 0 1 (fence_of ((1, 1) ∷ [])))
    ∷ called (step.Request 0) (reply.Requested (pixel_buffer 1))
    ∷ own (step.Draw 0 1)
    ∷ called (step.Queue 0 1 None None ((1, 3) ∷ [])) (reply.Queued 3)
    ∷ called (step.Acquire 1 1 None) (taken 0 1 3 3)
    ∷ own (step.Tx 1)
    ∷ own (step.Buffer 1 1 1)
    ∷ sent (step.Apply 1 1) 3
    ∷ own (step.Tx 2)
    ∷ own (step.Barrier 2 1 9)
    ∷ sent (step.Apply 2 2) 4
    ∷ []

abbrev pub arrival_sent : SentStep → Arrival FrameOf
arrival_sent s = record { number = s.number; actor = record { 0 = 1 }; step = s.step; txn = s.txn }

abbrev pub replacing_arrivals : List (Arrival FrameOf)
replacing_arrivals = map arrival_sent (sends_of replacing_trace)

abbrev pub frame_commit : ℕ → CommitRecord
frame_commit n = record {
  token = 1;
  arrival = n;
  result = 0;
  operation = 0;
  buffers = record { layer = 1; queue = 1; frame = n; picture = 1; x = 0; y = 0; width = 1; height = 1 } ∷ [];
}

abbrev pub vsync_of : ℕ → List CommitRecord → VsyncRecords
vsync_of number commits = record { number = number; expected = 1000000; timelines = record { timeline = 1; value = 5 } ∷ []; commits = commits; shown = [] }

abbrev pub replacing_vsyncs : List VsyncRecords
replacing_vsyncs = vsync_of 1 (frame_commit 1 ∷ frame_commit 2 ∷ []) ∷ vsync_of 2 (frame_commit 3 ∷ []) ∷ []

abbrev pub pixel_scene : SceneValue
pixel_scene = bare_scene 1 1 1 1000000

abbrev pub replacing_told : List VsyncAt
replacing_told = told_of pixel_scene replacing_arrivals replacing_vsyncs

abbrev pub commits_due : VsyncAt → List CommitRecord
commits_due told = map commit_shown told.round.stage.commits

-- of a release the vsync, the slot, the frame and the points that go back with it
abbrev pub release_shown : Released → ℕ × ℕ × ℕ × List ℕ
release_shown one = (one.vsync, one.on.lease.1.slot.0, one.on.lease.1.frame, points_of one.on.fence)

abbrev pub replacing_end : EndOf
replacing_end = record {
  written = (record { 0 = 1 }, 1) ∷ (record { 0 = 1 }, 2) ∷ (record { 0 = 1 }, 3) ∷ [];
  frames = (round_at_end (bare_round pixel_scene) replacing_told).frames;
  values = reached_by (fence_of ((1, 5) ∷ []));
}

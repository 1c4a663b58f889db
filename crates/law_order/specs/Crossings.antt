-- Two runs that no order explains.
use Rattle.std.specs.Prelude.{ℕ, [], ◌∷◌}
use Rattle.sf_record.specs.declared.event.VsyncRecords.{VsyncRecords}
use Rattle.sf_record.specs.declared.record.CommitRecord.{CommitRecord}
use Rattle.sf_record.specs.declared.record.HistoryEntry.{HistoryEntry}
use Rattle.law_order.specs.Order.{Happened}

-- actor 1 sets the mode of queue 1 and then of queue 2; actor 2 that of queue 2 and then of queue 1
abbrev pub sets_mode : ℕ → ℕ → HistoryEntry
sets_mode actor step = record { caller = actor; step = step; kind = 4; status = 0; slot = 4294967295; frame = 0 }

-- on each queue the second call of one actor stands before the first call of the other
abbrev pub crossed : Happened
crossed = record {
  histories = record { queue = 1; entries = sets_mode 2 2 ∷ sets_mode 1 1 ∷ [] } ∷ record { queue = 2; entries = sets_mode 1 2 ∷ sets_mode 2 1 ∷ [] } ∷ [];
  arrived = [];
  vsyncs = [];
}

-- a call with slot 0 and frame 1
abbrev pub frame_call : ℕ → ℕ → ℕ → HistoryEntry
frame_call caller step kind = record { caller = caller; step = step; kind = kind; status = 0; slot = 0; frame = 1 }

-- a transaction of token 1 that was committed
abbrev pub commit_of : ℕ → CommitRecord
commit_of number = record { token = 1; arrival = number; result = 0; operation = 0; buffers = [] }

abbrev pub vsync_with : ℕ → ℕ → VsyncRecords
vsync_with number arrival = record { number = number; expected = 0; timelines = []; commits = commit_of arrival ∷ []; shown = [] }

-- vsync 1 shows a frame, which vsync 4 releases; its release stands before the call that queued the frame, and finds it stale
abbrev pub released_first : Happened
released_first = record {
  histories = record {
    queue = 1;
    entries = record { caller = 0; step = 4; kind = 14; status = 1; slot = 0; frame = 1 } ∷ frame_call 1 5 7 ∷ frame_call 1 6 13 ∷ [];
  } ∷ [];
  arrived = record { actor = 1; step = 9; token = 1 } ∷ record { actor = 1; step = 12; token = 1 } ∷ [];
  vsyncs = vsync_with 1 1 ∷ vsync_with 4 2 ∷ [];
}

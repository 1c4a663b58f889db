-- A run in which a later arrival commits in vsync 3 and an earlier one of another token, which nothing holds, in vsync 4; and the same
-- arrivals committed in their order.
use Rattle.std.specs.Prelude.{ℕ, ◌*◌, List, [], ◌∷◌, None}
use Rattle.law_played.specs.sf_txn.Transactions.{Contents}
use Rattle.law_played.specs.sf_token.Pending.{Arrival}
use Rattle.law_played.specs.sf_actor.Names.{FrameOf}
use Rattle.law_played.specs.sf_script_scene.Scene.{SceneValue, bare_scene}
use Rattle.law_played.specs.sf_record.declared.event.VsyncRecords.{VsyncRecords}
use Rattle.law_played.specs.sf_record.declared.record.CommitRecord.{CommitRecord}
use Rattle.law_played.specs.Stages.{VsyncAt, told_of}

abbrev pub small_scene : SceneValue
small_scene = bare_scene 1 1 1 1000000

-- a transaction of an actor that changes nothing, sent in its second step under a token of the actor's number
abbrev pub sent_by : ℕ → Contents FrameOf
sent_by actor = record { token = record { 0 = actor }; desired = None; ops = []; buffers = []; barriers = [] }

-- the first actor's arrives first
abbrev pub arrival_by : ℕ → Arrival FrameOf
arrival_by actor = record { number = actor; actor = record { 0 = actor }; step = 2; txn = sent_by actor }

abbrev pub both_arrived : List (Arrival FrameOf)
both_arrived = arrival_by 1 ∷ arrival_by 2 ∷ []

abbrev pub commit_by : ℕ → CommitRecord
commit_by actor = record { token = actor; arrival = actor; result = 0; operation = 0; buffers = [] }

abbrev pub vsync_with : ℕ → List CommitRecord → VsyncRecords
vsync_with number commits = record { number = number; expected = number * 1000000; timelines = []; commits = commits; shown = [] }

-- the second commits, and the first in the next vsync
abbrev pub passed_over : List VsyncAt
passed_over = told_of small_scene both_arrived (vsync_with 3 (commit_by 2 ∷ []) ∷ vsync_with 4 (commit_by 1 ∷ []) ∷ [])

-- both commit in one vsync
abbrev pub none_left : List VsyncAt
none_left = told_of small_scene both_arrived (vsync_with 3 (commit_by 1 ∷ commit_by 2 ∷ []) ∷ [])

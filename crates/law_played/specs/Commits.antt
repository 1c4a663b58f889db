-- The commits of a run: those of each token commit its arrivals in their order, each has its result on the tree after all
-- commits before it, none is held at its place, and no commit overtakes one of a lower token that was not held.
use Rattle.std.specs.Prelude.{◌≡◌, ◌≢◌, ℕ, ◌==◌, nat_lt, Bool, true, ◌&&◌, List, ◌++◌, filter, map, Option, None}
use Rattle.std.specs.List.{All, list_any}
use Rattle.sf_base.specs.Fences.{no_points}
use Rattle.sf_base.specs.declared.fences.Seen.{Seen}
use Rattle.sf_base.specs.declared.ids.LayerId.{LayerId}
use Rattle.sf_compose.specs.sf_layer.declared.shown.Shown.{Shown}
use Rattle.sf_compose.specs.sf_view.Contents.{unsigned}
use Rattle.sf_commit.specs.sf_ready.declared.hold.Hold.{Hold}
use Rattle.sf_commit.specs.sf_token.Pending.{Arrival, is_of}
use Rattle.sf_commit.specs.Rounds.{facts_of}
use Rattle.sf_commit.specs.sf_commit_next.Heads.{head_hold}
use Rattle.sf_commit.specs.declared.vsync.Commit.{Commit}
use Rattle.sf_actor.specs.Names.{FrameOf}
use Rattle.sf_actor.specs.Points.{reached_by}
use Rattle.sf_actor.specs.Scripts.{with_points}
use Rattle.sf_actor.specs.Written.{FrameNumber}
use Rattle.sf_record.specs.declared.event.VsyncRecords.{VsyncRecords}
use Rattle.sf_record.specs.declared.record.CommitRecord.{CommitRecord}
use Rattle.sf_record.specs.declared.record.CommittedBuffer.{CommittedBuffer}
use Rattle.sf_record.specs.declared.record.TimelineValue.{TimelineValue}
use Rattle.law_played.specs.Arrivals.{number_of}
use Rattle.law_played.specs.Stages.{CommitAt, VsyncAt}
use Rattle.law_played.specs.Vsyncs.{AllNext}

-- the numbers of the arrivals of a token, and of those that are committed
abbrev pub arrived_of : ℕ → List (Arrival FrameOf) → List ℕ
arrived_of token arrivals = map number_of (filter (is_of (record { 0 = token })) arrivals)

-- the number of the arrival that a commit commits
abbrev pub arrival_of : CommitRecord → ℕ
arrival_of commit = commit.arrival

-- the arrivals of a token that commits commit, in order
abbrev pub committed_of : ℕ → List CommitRecord → List ℕ
committed_of token commits = map arrival_of (filter (λ commit. commit.token == token) commits)

-- a list begins with another
pub record IsPrefix {X : Type 0} (front whole : List X) : Type 0 where
  pub rest : List X
  pub joined : front ++ rest ≡ whole

-- what the record of a commit shows of a buffer; the corner of a crop is at least 0
abbrev pub buffer_shown : LayerId × Shown → CommittedBuffer
buffer_shown buffer = record {
  layer = buffer.0.0;
  queue = buffer.1.queue.0;
  frame = buffer.1.frame;
  picture = buffer.1.picture;
  x = unsigned buffer.1.crop.x;
  y = unsigned buffer.1.crop.y;
  width = buffer.1.crop.width;
  height = buffer.1.crop.height;
}

-- the record of a commit
abbrev pub commit_shown : Commit → CommitRecord
commit_shown told = record { token = told.token.0; arrival = told.number; result = told.cause; operation = told.op; buffers = map buffer_shown told.buffers }

-- the records of a vsync's commits say of each its token, its number, its result and its buffers
abbrev pub SaysResults : VsyncAt → Type 0
SaysResults told = told.vsync.commits ≡ map commit_shown told.round.stage.commits

-- the frame's write has ended
abbrev pub is_written : List FrameNumber → FrameOf → Bool
is_written written frame = list_any (λ w. (w.0.0 == frame.0.0) && (w.1 == frame.1.frame)) written

-- the values that a vsync saw
abbrev pub point_of : TimelineValue → ℕ × ℕ
point_of t = (t.timeline, t.value)

-- what a vsync saw of the timelines
abbrev pub seen_by : VsyncRecords → Seen
seen_by vsync = reached_by (with_points no_points (map point_of vsync.timelines))

-- why a transaction is held at the place of a commit
abbrev pub hold_at : List FrameNumber → VsyncRecords → CommitAt → Arrival FrameOf → Option Hold
hold_at written vsync at arrived = head_hold (is_written written) (seen_by vsync) vsync.expected (facts_of at.round) arrived

-- nothing held a transaction at the place of its commit
abbrev pub WasReady : List FrameNumber → VsyncRecords → CommitAt → Type 0
WasReady written vsync at = hold_at written vsync at at.arrived ≡ None

-- where the next commit has a lower token, it was held at the place of this one
abbrev pub OvertakesHeld : List FrameNumber → VsyncRecords → CommitAt → CommitAt → Type 0
OvertakesHeld written vsync at next = nat_lt next.commit.token at.commit.token ≡ true → hold_at written vsync at next.arrived ≢ None

-- each commit of a vsync was ready at its place, and one behind a commit of a greater token was held at that one's place
pub record CommitsReady (written : List FrameNumber) (told : VsyncAt) : Type 0 where
  pub ready : All (WasReady written told.vsync) told.commits
  pub lowest : AllNext (OvertakesHeld written told.vsync) told.commits

-- Commits. Those of each token commit its first arrivals in order; each says its result; none was held, and none
-- overtook one of a lower token that was not held.
pub record CommitInOrder (arrivals : List (Arrival FrameOf)) (written : List FrameNumber) (commits : List CommitRecord) (told : List VsyncAt) : Type 0 where
  pub of_each_token : (token : ℕ) → IsPrefix (committed_of token commits) (arrived_of token arrivals)
  pub results : All SaysResults told
  pub ready : All (CommitsReady written) told

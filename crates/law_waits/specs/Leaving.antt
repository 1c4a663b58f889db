-- Nobody is passed over: what a vsync commits leaves nothing behind it that could commit.
use Rattle.std.specs.Prelude.{◌≡◌, ◌≢◌, ℕ, ◌&&◌, nat_lt, max, Bool, false, List, [], ◌∷◌, ◌++◌, All, Contains, filter, None}
use Rattle.law_played.specs.sf_commit.Rounds.{facts_of}
use Rattle.law_played.specs.sf_commit_next.Heads.{head_hold}
use Rattle.law_played.specs.sf_token.Pending.{Arrival}
use Rattle.law_played.specs.sf_actor.Names.{FrameOf}
use Rattle.law_played.specs.sf_record.declared.record.CommitRecord.{CommitRecord}
use Rattle.law_played.specs.Commits.{seen_by}
use Rattle.law_played.specs.Holds.{is_head, uncommitted}
use Rattle.law_played.specs.Stages.{VsyncAt}

-- the greatest arrival that commits commit, 0 where there is none
abbrev pub greatest_arrival : List CommitRecord → ℕ
greatest_arrival [] = 0
greatest_arrival (commit ∷ later) = max commit.arrival (greatest_arrival later)

-- an arrival is the first of its token that is left, and it came before one that is committed
abbrev pub is_behind : List (Arrival FrameOf) → List CommitRecord → Arrival FrameOf → Bool
is_behind left commits arrived = is_head left arrived && nat_lt arrived.number (greatest_arrival commits)

-- the arrivals that commits leave behind them: each the first of its token without a commit, and before one that has one
abbrev pub left_behind : List (Arrival FrameOf) → List CommitRecord → List (Arrival FrameOf)
left_behind arrivals commits = filter (is_behind (uncommitted arrivals commits) commits) (uncommitted arrivals commits)

-- no write counts as ended
abbrev pub none_ended : FrameOf → Bool
none_ended frame = false

-- Something holds an arrival at the end of a vsync. No record says which writes the vsync saw as ended: one with a buffer may wait
-- for its write.
abbrev pub WaitsAtEnd : VsyncAt → Arrival FrameOf → Type 0
WaitsAtEnd told arrived = head_hold none_ended (seen_by told.vsync) told.vsync.expected (facts_of told.round) arrived ≢ None

-- each arrival that the commits up to the end of a vsync leave behind waits at its end
abbrev pub LeavesNoneAt : List (Arrival FrameOf) → List CommitRecord → VsyncAt → Type 0
LeavesNoneAt arrivals commits told = All (WaitsAtEnd told) (left_behind arrivals commits)

-- so it is of each vsync, behind these commits
abbrev pub LeavesNoneFrom : List (Arrival FrameOf) → List CommitRecord → List VsyncAt → Type 0
LeavesNoneFrom arrivals before [] = Unit {0}
LeavesNoneFrom arrivals before (told ∷ later) = LeavesNoneAt arrivals (before ++ told.vsync.commits) told × LeavesNoneFrom arrivals (before ++ told.vsync.commits) later

-- Nobody is passed over. At the end of each vsync, each arrival before the greatest one that is committed so far is committed, is behind
-- another one of its token, has a buffer, or waits for its time or a barrier.
abbrev pub LeavesNone : List (Arrival FrameOf) → List VsyncAt → Type 0
LeavesNone arrivals told = LeavesNoneFrom arrivals [] told

-- A vsync leaves an arrival behind that nothing holds, whatever writes it saw as ended.
pub record LeavesReady (arrivals : List (Arrival FrameOf)) (commits : List CommitRecord) (told : VsyncAt) : Type 0 where
  pub arrived : Arrival FrameOf
  pub left : Contains (left_behind arrivals commits) arrived
  pub ready : head_hold none_ended (seen_by told.vsync) told.vsync.expected (facts_of told.round) arrived ≡ None

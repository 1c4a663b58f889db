-- How far the commits of a run have come: vsync by vsync and commit by commit, what the decision core makes of them.
use Rattle.std.specs.Prelude.{ℕ, List, [], ◌∷◌, find, map}
use Rattle.std.specs.Option.{unwrap_or}
use Rattle.sf_commit.specs.sf_token.Pending.{Arrival, has_number}
use Rattle.sf_commit.specs.sf_txn.Transactions.{empty}
use Rattle.sf_commit.specs.OnLayers.{shown_on}
use Rattle.sf_commit.specs.Rounds.{Round, committed}
use Rattle.sf_script_scene.specs.Limits.{most_layers}
use Rattle.sf_script_scene.specs.Scene.{SceneValue}
use Rattle.sf_actor.specs.Names.{FrameOf}
use Rattle.sf_record.specs.declared.event.VsyncRecords.{VsyncRecords}
use Rattle.sf_record.specs.declared.record.CommitRecord.{CommitRecord}

-- before the first vsync: no layers, and nothing was ever committed. What is pending is not said here.
abbrev pub bare_round : SceneValue → Round FrameOf
bare_round scene = record {
  stage = record { tree = record { layers = []; most = most_layers scene.version }; on = []; commits = []; gone = [] };
  pending = [];
  frames = [];
  fresh = [];
}

-- a vsync begins: it has committed nothing yet, and no layer got a buffer in it
abbrev pub begun : Round FrameOf → Round FrameOf
begun round = record round { stage = record round.stage { commits = []; gone = [] }; fresh = [] }

-- a vsync ends: what its layers show is read from then on
abbrev pub ended : Round FrameOf → Round FrameOf
ended round = record round { stage = record round.stage { on = map shown_on round.stage.on } }

-- stands for an arrival that there is not
abbrev pub no_arrival : Arrival FrameOf
no_arrival = record { number = 0; actor = record { 0 = 0 }; step = 0; txn = empty }

-- the arrival of this number
unfoldable pub arrival_at : List (Arrival FrameOf) → ℕ → Arrival FrameOf
arrival_at arrivals number = unwrap_or (find (has_number number) arrivals) no_arrival

-- a commit: how far its vsync had come before it, what arrived, and what its record says
pub record CommitAt : Type 0 where
  pub round : Round FrameOf
  pub arrived : Arrival FrameOf
  pub commit : CommitRecord

-- the commits of a vsync that has come so far, each with how far it had come before it
unfoldable pub commits_from : List (Arrival FrameOf) → Round FrameOf → List CommitRecord → List CommitAt
commits_from arrivals round [] = []
commits_from arrivals round (commit ∷ later) =
    let arrived = arrival_at arrivals commit.arrival in
    record { round = round; arrived = arrived; commit = commit } ∷ commits_from arrivals (committed round arrived) later

-- how far a vsync has come after these commits
unfoldable pub round_after : List (Arrival FrameOf) → Round FrameOf → List CommitRecord → Round FrameOf
round_after arrivals round [] = round
round_after arrivals round (commit ∷ later) = round_after arrivals (committed round (arrival_at arrivals commit.arrival)) later

-- a vsync: its record, its commits, and how far the run has come at its end
pub record VsyncAt : Type 0 where
  pub vsync : VsyncRecords
  pub commits : List CommitAt
  pub round : Round FrameOf

-- the vsyncs of a run that has come so far, each with its commits and its end
unfoldable pub told_from : List (Arrival FrameOf) → Round FrameOf → List VsyncRecords → List VsyncAt
told_from arrivals round [] = []
told_from arrivals round (vsync ∷ later) =
    let end = ended (round_after arrivals (begun round) vsync.commits) in
    record { vsync = vsync; commits = commits_from arrivals (begun round) vsync.commits; round = end } ∷ told_from arrivals end later

-- the vsyncs of a run, each with what was committed before
abbrev pub told_of : SceneValue → List (Arrival FrameOf) → List VsyncRecords → List VsyncAt
told_of scene arrivals vsyncs = told_from arrivals (bare_round scene) vsyncs

-- how far a run has come after these vsyncs
unfoldable pub round_at_end : Round FrameOf → List VsyncAt → Round FrameOf
round_at_end round [] = round
round_at_end round (told ∷ later) = round_at_end told.round later

-- An arrival that nothing holds is not left behind.
use Rattle.std.proofs.Common.{◌≡◌, List, [], ◌∷◌, Contains, None, refl, arith}
use Rattle.std.proofs.lemmas.List.Elements.{All-contains, All-nil, Contains-get_or}
use Rattle.law_played.specs.sf_commit.Rounds.{facts_of}
use Rattle.law_played.specs.sf_commit_next.Heads.{head_hold}
use Rattle.law_played.specs.sf_token.Pending.{Arrival}
use Rattle.law_played.specs.sf_actor.Names.{FrameOf}
use Rattle.law_played.specs.sf_record.declared.record.CommitRecord.{CommitRecord}
use Rattle.law_played.proofs.StageLemmas.{vsync_at}
use Rattle.law_played.specs.Commits.{seen_by}
use Rattle.law_played.specs.sf_ready.Holds.{hold_of}
use Rattle.law_played.specs.Stages.{VsyncAt, arrival_at, bare_round, commits_from, round_after, told_from}
use Rattle.law_waits.specs.Leaving.{LeavesNone, LeavesNoneAt, WaitsAtEnd, left_behind, none_ended}
use Rattle.law_waits.specs.PassedOver.{arrival_by, both_arrived, commit_by, none_left, passed_over, small_scene, vsync_with}

pub none_passed : (arrivals : List (Arrival FrameOf)) (commits : List CommitRecord) (told : VsyncAt) (arrived : Arrival FrameOf)
    → Contains (left_behind arrivals commits) arrived
    → head_hold none_ended (seen_by told.vsync) told.vsync.expected (facts_of told.round) arrived ≡ None
    → LeavesNoneAt arrivals commits told → ⊥
none_passed arrivals commits told arrived left free at = All-contains (WaitsAtEnd told) (left_behind arrivals commits) arrived at left free

pub passed_refused : LeavesNone both_arrived passed_over → ⊥
unfolding told_from commits_from round_after arrival_at hold_of
passed_refused none = none_passed both_arrived (commit_by 2 ∷ []) (vsync_at both_arrived (bare_round small_scene) (vsync_with 3 (commit_by 2 ∷ []))) (arrival_by 1) (Contains-get_or (arrival_by 1 ∷ []) 0 (arrival_by 1) (omega arith)) refl none.0

pub in_order : LeavesNone both_arrived none_left
unfolding told_from commits_from round_after arrival_at
in_order = (All-nil _, tt)

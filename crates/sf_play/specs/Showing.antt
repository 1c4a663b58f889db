-- What is shown of a vsync.
use Rattle.std.specs.Prelude.{ℕ, List, map}
use Rattle.sf_base.specs.declared.fences.Seen.{Seen}
use Rattle.sf_play_report.specs.sf_commit.declared.vsync.Commit.{Commit}
use Rattle.sf_play_report.specs.sf_tree.Trees.{TreeOf}
use Rattle.sf_script_scene.specs.Scene.{SceneValue}
use Rattle.sf_play_report.specs.sf_record.declared.event.VsyncRecords.{VsyncRecords}
use Rattle.sf_play_report.specs.sf_record.declared.record.TimelineValue.{TimelineValue}
use Rattle.sf_play_report.specs.law_played.Commits.{commit_shown}
use Rattle.sf_play_report.specs.law_played.Frames.{shown_after}
use Rattle.sf_play_report.specs.law_played.Seeing.{value_shown}
use Rattle.sf_play_report.specs.law_played.Vsyncs.{rising_timelines}

-- what it saw of the declared timelines, by rising number
abbrev pub values_shown : SceneValue → Seen → List TimelineValue
values_shown scene seen = map (value_shown seen) (rising_timelines scene)

-- a vsync with these commits, which leave this tree
abbrev pub vsync_shown : SceneValue → ℕ → ℕ → Seen → List Commit → TreeOf → VsyncRecords
vsync_shown scene number expected seen commits tree = record {
  number = number;
  expected = expected;
  timelines = values_shown scene seen;
  commits = map commit_shown commits;
  shown = shown_after scene (map commit_shown commits) tree;
}

-- What is told of a vsync of a scene is what is shown of its report by the scene's plan.
use Rattle.std.proofs.Common.{◌≡◌, ℕ, ◌==◌, ◌||◌, Bool, if◌then◌else◌, List, [], ◌∷◌, map, ap, refl, sym}
use Rattle.std.specs.List.{list_any}
use Rattle.sf_live_compositor.specs.sf_commit.declared.vsync.Commit.{Commit}
use Rattle.sf_live_compositor.specs.sf_tree.Trees.{TreeOf}
use Rattle.sf_script_scene.specs.Scene.{SceneValue}
use Rattle.sf_live_compositor.specs.sf_actor.Scripts.{picture_at}
use Rattle.sf_live_compositor.specs.sf_play_report.Stages.{is_accepted}
use Rattle.sf_live_compositor.specs.sf_play_report.declared.report.VsyncReport.{VsyncReport}
use Rattle.sf_live_compositor.specs.law_played.Commits.{commit_shown}
use Rattle.sf_live_compositor.specs.law_played.Frames.{is_done, plan_of, shown_due}
use Rattle.sf_live_compositor.specs.law_played.Seeing.{value_shown}
use Rattle.sf_live_compositor.specs.law_played.Vsyncs.{rising_timelines}
use Rattle.sf_live_compositor.specs.sf_play.Showing.{vsync_shown}
use Rattle.sf_live_compositor.specs.sf_play_write.Vsyncs.{told_with}

-- something is due where a commit was accepted
pub shown_done : (commits : List Commit) → list_any is_done (map commit_shown commits) ≡ list_any is_accepted commits
shown_done [] = refl
shown_done (commit ∷ commits) = ap (λ (b : Bool). (commit.cause == 0) || b) (shown_done commits)

pub told_is : (scene : SceneValue) (timelines : List ℕ) (report : VsyncReport) (tree : TreeOf) → timelines ≡ rising_timelines scene
    → vsync_shown scene report.number report.expected report.seen report.commits tree ≡ told_with (picture_at scene.pictures) (plan_of scene) timelines report tree.layers
told_is scene timelines report tree rising = (λ i. record {
  number = report.number;
  expected = report.expected;
  timelines = map (value_shown report.seen) (sym rising i);
  commits = map commit_shown report.commits;
  shown = if shown_done report.commits i then shown_due (picture_at scene.pictures) (plan_of scene) tree.layers else [];
})

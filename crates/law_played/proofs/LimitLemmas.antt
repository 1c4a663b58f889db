-- How many layers there can be in a tree of a scene is told once: no commit changes it.
use Rattle.std.proofs.Common.{◌≡◌, ℕ, ◌≤◌, List, [], ◌∷◌, refl, ap, sym, ◌∙◌, inl, inr, arith}
use Rattle.std.specs.Prelude.{◌==◌, Result, Ok, Err}
use Rattle.std.proofs.lemmas.Bool.{cases_Bool}
use Rattle.sf_commit.specs.sf_token.Pending.{Arrival}
use Rattle.sf_compose.proofs.sf_tree_lemmas.KeepingAll.{after-ok}
use Rattle.sf_compose.specs.sf_tree.Changes.{Rejection, after}
use Rattle.sf_compose.specs.sf_tree.Trees.{TreeOf}
use Rattle.sf_commit.specs.Handlers.{HandlerOf}
use Rattle.sf_commit.specs.Rounds.{Round, committed, stage_with}
use Rattle.sf_script_scene.specs.Limits.{most_layers}
use Rattle.sf_script_scene.specs.Scene.{SceneValue}
use Rattle.sf_actor.specs.Names.{FrameOf}
use Rattle.sf_actor.specs.Written.{FrameNumber}
use Rattle.sf_record.specs.declared.event.VsyncRecords.{VsyncRecords}
use Rattle.sf_record.specs.declared.record.CommitRecord.{CommitRecord}
use Rattle.law_played.specs.Progress.{HasPlayed}
use Rattle.law_played.specs.Stages.{arrival_at, bare_round, begun, ended, round_after, round_at_end, told_from}

most_committed : {L : Type 0} (round : Round L) (arrived : Arrival L) → (committed round arrived).stage.tree.most ≡ round.stage.tree.most
most_committed {L} round arrived = by_answer (after round.stage.tree arrived.txn.ops) refl
  where
    by_answer : (answer : Result TreeOf Rejection) → after round.stage.tree arrived.txn.ops ≡ answer → (stage_with round.stage arrived answer).tree.most ≡ round.stage.tree.most
    by_answer (Ok tree) e = (after-ok round.stage.tree tree arrived.txn.ops e).1
    by_answer (Err rejection) e = refl

most_after : (arrivals : List (Arrival FrameOf)) (round : Round FrameOf) (commits : List CommitRecord) → (round_after arrivals round commits).stage.tree.most ≡ round.stage.tree.most
unfolding round_after
most_after arrivals round [] = refl
most_after arrivals round (commit ∷ later) =
    most_after arrivals (committed round (arrival_at arrivals commit.arrival)) later ∙ most_committed round (arrival_at arrivals commit.arrival)

most_from : (arrivals : List (Arrival FrameOf)) (round : Round FrameOf) (vsyncs : List VsyncRecords)
    → (round_at_end round (told_from arrivals round vsyncs)).stage.tree.most ≡ round.stage.tree.most
unfolding told_from round_at_end
most_from arrivals round [] = refl
most_from arrivals round (vsync ∷ later) =
    most_from arrivals (ended (round_after arrivals (begun round) vsync.commits)) later ∙ most_after arrivals (begun round) vsync.commits

-- the tree of a handler that has played so far has room for as many layers as the scene's version says
pub most_played : {L : Type 0} (frame : L → FrameOf) (scene : SceneValue) (written : List FrameNumber) (arrivals : List (Arrival FrameOf)) (vsyncs : List VsyncRecords) (handler : HandlerOf L)
    → HasPlayed frame scene written arrivals vsyncs handler → handler.tree.most ≡ most_layers scene.version
most_played frame scene written arrivals vsyncs handler played =
    ap (λ (tree : TreeOf). tree.most) (sym played.round.tree) ∙ most_from arrivals (bare_round scene) vsyncs

pub few_layers : (version : ℕ) → most_layers version ≤ 1024
few_layers version = elim (cases_Bool (version == 2)) [
  | inl met ↦ rw met (omega arith)
  | inr unmet ↦ rw unmet (omega arith)
]

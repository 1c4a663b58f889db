-- The last tree is shown last: a vsync that shows nothing leaves the tree as it was.
use Rattle.std.proofs.Common.{◌≡◌, ℕ, ◌==◌, ◌||◌, Bool, true, false, List, [], ◌∷◌, ◌++◌, Option, Some, None, Result, Ok, Err, map, refl, sym, ap, subst, ◌∙◌, append_assoc}
use Rattle.std.specs.Prelude.{if◌then◌else◌}
use Rattle.std.specs.List.{AllByRecursion, list_any}
use Rattle.std.specs.Option.{option_or}
use Rattle.std.proofs.lemmas.List.{append-nil}
use Rattle.std.proofs.lemmas.List.Elements.{recursion_from_All}
use Rattle.law_played.specs.sf_commit.Rounds.{Round, StageOf, commit_of, committed, stage_with}
use Rattle.law_played.specs.sf_commit.declared.vsync.Commit.{Commit}
use Rattle.law_played.specs.sf_actor.Names.{FrameOf}
use Rattle.law_played.specs.sf_actor.Scripts.{picture_at}
use Rattle.law_played.specs.sf_layer.declared.layer.Layer.{Layer}
use Rattle.law_played.specs.sf_output.declared.output.Output.{Output}
use Rattle.law_played.specs.sf_record.declared.event.VsyncRecords.{VsyncRecords}
use Rattle.law_played.specs.sf_record.declared.record.CommitRecord.{CommitRecord}
use Rattle.law_played.specs.sf_record.declared.record.Record.{Record}
use Rattle.law_played.specs.sf_script_scene.Scene.{SceneValue}
use Rattle.law_played.specs.sf_token.Pending.{Arrival}
use Rattle.law_played.specs.sf_tree.Changes.{Rejection, after}
use Rattle.law_played.specs.sf_tree.Trees.{TreeOf}
use Rattle.law_played.specs.Commits.{SaysResults, commit_shown}
use Rattle.law_played.specs.Frames.{ShowsImage, is_done, plan_of, shown_after, shown_due}
use Rattle.law_played.specs.Played.{PlayedWhere, vsyncs_told}
use Rattle.law_played.specs.Stages.{VsyncAt, arrival_at, bare_round, begun, ended, round_after, round_at_end, told_from}
use Rattle.law_played.specs.Vsyncs.{vsyncs_in}
use Rattle.law_shown.specs.Last.{ShowsLast, is_any, last_shown}

-- none of these was done
abbrev pub are_rejected : List Commit → Bool
are_rejected commits = list_any is_done (map commit_shown commits)

-- these commits were added; where none was done the tree is as it was
pub record Adds (stage after : StageOf FrameOf) : Type 0 where
  pub more : List Commit
  pub are : after.commits ≡ stage.commits ++ more
  pub keeps : are_rejected more ≡ false → after.tree ≡ stage.tree

one_added : (stage : StageOf FrameOf) (arrived : Arrival FrameOf) (result : Result TreeOf Rejection) → Adds stage (stage_with stage arrived result)
one_added stage arrived (Ok tree) = record { more = commit_of arrived 0 0 ∷ []; are = refl; keeps = λ e. absurd (cc (e)) }
one_added stage arrived (Err rejection) = record { more = commit_of arrived rejection.cause rejection.op ∷ []; are = refl; keeps = λ e. refl }

left : (a b : Bool) → (a || b) ≡ false → a ≡ false
left true b e = e
left false b e = refl

right : (a b : Bool) → (a || b) ≡ false → b ≡ false
right true b e = absurd (cc (e))
right false b e = e

none_of : (xs ys : List Commit) → are_rejected (xs ++ ys) ≡ false → (are_rejected xs ≡ false) × (are_rejected ys ≡ false)
none_of [] ys e = (refl, e)
none_of (x ∷ xs) ys e =
    let first = left (is_done (commit_shown x)) (are_rejected (xs ++ ys)) e in
    let rest = none_of xs ys (right (is_done (commit_shown x)) (are_rejected (xs ++ ys)) e) in
    (rw (first, rest.0) refl, rest.1)

added : (stage middle after : StageOf FrameOf) → Adds stage middle → Adds middle after → Adds stage after
added stage middle after one two = record {
  more = one.more ++ two.more;
  are = two.are ∙ ap (λ (commits : List Commit). commits ++ two.more) one.are ∙ append_assoc stage.commits one.more two.more;
  keeps = λ e. let n = none_of one.more two.more e in two.keeps n.1 ∙ one.keeps n.0;
}

all_added : (arrivals : List (Arrival FrameOf)) (round : Round FrameOf) (commits : List CommitRecord) → Adds round.stage (round_after arrivals round commits).stage
unfolding round_after
all_added arrivals round [] = record { more = []; are = sym (append-nil round.stage.commits); keeps = λ e. refl }
all_added arrivals round (commit ∷ commits) =
    let arrived = arrival_at arrivals commit.arrival in
    added round.stage (committed round arrived).stage (round_after arrivals (committed round arrived) commits).stage
    (one_added round.stage arrived (after round.stage.tree arrived.txn.ops))
    (all_added arrivals (committed round arrived) commits)

-- a vsync whose commits were all rejected leaves the tree
kept : (arrivals : List (Arrival FrameOf)) (round : Round FrameOf) (vsync : VsyncRecords) → vsync.commits ≡ map commit_shown (round_after arrivals (begun round) vsync.commits).stage.commits
    → list_any is_done vsync.commits ≡ false → (round_after arrivals (begun round) vsync.commits).stage.tree ≡ round.stage.tree
kept arrivals round vsync says none =
    let all = all_added arrivals (begun round) vsync.commits in
    all.keeps (sym (ap (λ (commits : List Commit). are_rejected commits) all.are) ∙ sym (ap (list_any is_done) says) ∙ none)

due_any : (scene : SceneValue) (layers : List Layer) → is_any (shown_due (picture_at scene.pictures) (plan_of scene) layers) ≡ true
unfolding shown_due
due_any scene layers = refl

-- what a vsync showed, by whether one of its commits was done
shown_by : (scene : SceneValue) (commits : List CommitRecord) (tree : TreeOf) (b : Bool) → list_any is_done commits ≡ b → is_any (shown_after scene commits tree) ≡ b
shown_by scene commits tree true e = rw e (due_any scene tree.layers)
shown_by scene commits tree false e = rw e refl

-- what was shown last is due of the tree at the end; or that tree is the one of the beginning
abbrev pub Ends : SceneValue → Round FrameOf → Round FrameOf → Option VsyncRecords → Type 0
Ends scene start end None = end.stage.tree ≡ start.stage.tree
Ends scene start end (Some vsync) = vsync.shown ≡ shown_due (picture_at scene.pictures) (plan_of scene) end.stage.tree.layers

-- the vsync before the others
first_ends : (scene : SceneValue) (start next end : Round FrameOf) (vsync : VsyncRecords) (b : Bool) → list_any is_done vsync.commits ≡ b → vsync.shown ≡ shown_after scene vsync.commits next.stage.tree
    → (list_any is_done vsync.commits ≡ false → next.stage.tree ≡ start.stage.tree) → (rest : Option VsyncRecords) → Ends scene next end rest
    → Ends scene start end (option_or rest (if is_any vsync.shown then Some vsync else None))
first_ends scene start next end vsync b e shown keeps (Some later) ends = ends
first_ends scene start next end vsync true e shown keeps None ends =
    let any : is_any vsync.shown ≡ true = ap is_any shown ∙ shown_by scene vsync.commits next.stage.tree true e in
    let due : vsync.shown ≡ shown_due (picture_at scene.pictures) (plan_of scene) end.stage.tree.layers =
    shown ∙ ap (λ (done : Bool). if done then shown_due (picture_at scene.pictures) (plan_of scene) next.stage.tree.layers else []) e
    ∙ ap (λ (tree : TreeOf). shown_due (picture_at scene.pictures) (plan_of scene) tree.layers) (sym ends) in
    subst (λ (any : Bool). Ends scene start end (if any then Some vsync else None)) (sym any) due
first_ends scene start next end vsync false e shown keeps None ends =
    let none : is_any vsync.shown ≡ false = ap is_any shown ∙ shown_by scene vsync.commits next.stage.tree false e in
    subst (λ (any : Bool). Ends scene start end (if any then Some vsync else None)) (sym none) (ends ∙ keeps e)

told_last : (scene : SceneValue) (arrivals : List (Arrival FrameOf)) (round : Round FrameOf) (vsyncs : List VsyncRecords)
    → AllByRecursion (ShowsImage scene) (told_from arrivals round vsyncs) → AllByRecursion SaysResults (told_from arrivals round vsyncs)
    → Ends scene round (round_at_end round (told_from arrivals round vsyncs)) (last_shown vsyncs)
unfolding told_from round_at_end
told_last scene arrivals round [] shows says = refl
told_last scene arrivals round (vsync ∷ later) shows says =
    let next : Round FrameOf = ended (round_after arrivals (begun round) vsync.commits) in
    first_ends scene round next (round_at_end next (told_from arrivals next later)) vsync (list_any is_done vsync.commits) refl shows.0
    (kept arrivals round vsync says.0) (last_shown later) (told_last scene arrivals next later shows.1 says.1)

pub last_tree : (tells : Bool) (scene : SceneValue) (records : List Record) (played : PlayedWhere tells scene records)
    → ShowsLast scene (round_at_end (bare_round scene) (vsyncs_told scene played.arrivals played.shows.events)).stage.tree.layers (last_shown (vsyncs_in played.shows.events))
last_tree tells scene records played =
    let told = vsyncs_told scene played.arrivals played.shows.events in
    by (last_shown (vsyncs_in played.shows.events))
    (told_last scene played.arrivals (bare_round scene) (vsyncs_in played.shows.events) (recursion_from_All (ShowsImage scene) told played.fits.frames)
    (recursion_from_All SaysResults told played.fits.commits.results))
  where
    by : (last : Option VsyncRecords) → Ends scene (bare_round scene) (round_at_end (bare_round scene) (vsyncs_told scene played.arrivals played.shows.events)) last
        → ShowsLast scene (round_at_end (bare_round scene) (vsyncs_told scene played.arrivals played.shows.events)).stage.tree.layers last
    by None ends = ap (λ (tree : TreeOf). tree.layers) ends
    by (Some vsync) ends = ends

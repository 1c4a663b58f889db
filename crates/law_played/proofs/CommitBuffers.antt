-- The buffers of commits are those of the arrivals that are committed.
use Rattle.std.proofs.Common.{◌≡◌, ℕ, Bool, List, [], ◌∷◌, map, Option, Some, None, refl, sym, subst, inl, inr}
use Rattle.std.specs.Prelude.{All, Contains, Result, Ok, Err, find, unwrap_or}
use Rattle.std.specs.List.{flat_map}
use Rattle.std.proofs.lemmas.Bool.{cases_Bool}
use Rattle.std.proofs.lemmas.List.Elements.{All-append, All-cons, All-head, All-map, All-nil, All-tail, All-weaker}
use Rattle.sf_base.specs.declared.ids.LayerId.{LayerId}
use Rattle.sf_compose.specs.sf_layer.declared.shown.Shown.{Shown}
use Rattle.sf_compose.specs.sf_tree.Changes.{Rejection, after}
use Rattle.sf_compose.specs.sf_tree.Trees.{TreeOf}
use Rattle.sf_commit.specs.sf_txn.Buffers.{Buffer}
use Rattle.sf_commit.specs.sf_txn.Transactions.{shown_by}
use Rattle.sf_commit.specs.sf_token.Pending.{Arrival, has_number}
use Rattle.sf_commit.specs.Rounds.{Round, StageOf, commit_of, committed, stage_with}
use Rattle.sf_commit.specs.declared.vsync.Commit.{Commit}
use Rattle.sf_actor.specs.Names.{FrameOf}
use Rattle.sf_record.specs.declared.event.VsyncRecords.{VsyncRecords}
use Rattle.sf_record.specs.declared.record.CommitRecord.{CommitRecord}
use Rattle.law_played.specs.Brought.{IsBrought, ShowBrought}
use Rattle.law_played.specs.Commits.{SaysResults, buffer_shown, commit_shown}
use Rattle.law_played.specs.Stages.{arrival_at, begun, ended, no_arrival, round_after, told_from}
use Rattle.law_played.specs.Vsyncs.{commits_in, commits_of_vsync}
use Rattle.law_played.proofs.StepKeepsTold.{of_all}
use Rattle.law_played.proofs.Members.{has_first, has_later}

-- what is found is there
found_there : {X : Type 0} (p : X → Bool) (xs : List X) (x : X) → find p xs ≡ Some x → Contains xs x
found_there p [] x e = absurd (cc (e))
found_there p (a ∷ xs) x e = elim (cases_Bool (p a)) [
  | inl met ↦ let f : Some a ≡ Some x = rw met at e in (let same : a ≡ x = cc in has_first a x xs same)
  | inr unmet ↦ has_later a x xs (found_there p xs x (rw unmet at e))
]

module _ (arrivals : List (Arrival FrameOf)) where
  -- what a commit shows is of an arrival
  abbrev IsShownOf : LayerId × Shown → Type 0
  IsShownOf one = IsBrought arrivals (buffer_shown one)

  abbrev ShowsOf : Commit → Type 0
  ShowsOf told = All IsShownOf told.buffers

  of_arrival : (arrived : Arrival FrameOf) → Contains arrivals arrived → All IsShownOf (map shown_by arrived.txn.buffers)
  of_arrival arrived there = All-map IsShownOf shown_by arrived.txn.buffers (of_all (λ (buffer : Buffer FrameOf). IsShownOf (shown_by buffer)) arrived.txn.buffers
      (λ buffer inside. record { arrived = arrived; there = there; buffer = buffer; inside = inside; is = refl }))

  of_found : (number : ℕ) (found : Option (Arrival FrameOf)) → find (has_number number) arrivals ≡ found → All IsShownOf (map shown_by (unwrap_or found no_arrival).txn.buffers)
  of_found number None e = All-nil IsShownOf
  of_found number (Some arrived) e = of_arrival arrived (found_there (has_number number) arrivals arrived e)

  of_number : (number : ℕ) → All IsShownOf (map shown_by (arrival_at arrivals number).txn.buffers)
  unfolding arrival_at
  of_number number = of_found number (find (has_number number) arrivals) refl

  -- one more commit
  shows_more : (stage : StageOf FrameOf) (arrived : Arrival FrameOf) (tree : Result TreeOf Rejection) → All IsShownOf (map shown_by arrived.txn.buffers) → All ShowsOf stage.commits
      → All ShowsOf (stage_with stage arrived tree).commits
  shows_more stage arrived (Ok tree) own all = All-append ShowsOf stage.commits (commit_of arrived 0 0 ∷ []) all (All-cons ShowsOf (commit_of arrived 0 0) [] own (All-nil ShowsOf))
  shows_more stage arrived (Err rejection) own all =
      All-append ShowsOf stage.commits (commit_of arrived rejection.cause rejection.op ∷ []) all (All-cons ShowsOf (commit_of arrived rejection.cause rejection.op) [] own (All-nil ShowsOf))

  shows_after : (round : Round FrameOf) (commits : List CommitRecord) → All ShowsOf round.stage.commits → All ShowsOf (round_after arrivals round commits).stage.commits
  unfolding round_after
  shows_after round [] all = all
  shows_after round (commit ∷ later) all =
      let arrived = arrival_at arrivals commit.arrival in
      shows_after (committed round arrived) later (shows_more round.stage arrived (after round.stage.tree arrived.txn.ops) (of_number commit.arrival) all)

  -- records that say so
  recorded : (commits : List CommitRecord) (told : List Commit) → commits ≡ map commit_shown told → All ShowsOf told → ShowBrought arrivals commits
  recorded commits told same all =
      subst (ShowBrought arrivals) (sym same)
      (All-map (λ (commit : CommitRecord). All (IsBrought arrivals) commit.buffers) commit_shown told
      (All-weaker ShowsOf (λ (one : Commit). All (IsBrought arrivals) (map buffer_shown one.buffers))
      (λ (one : Commit) shows. All-map (IsBrought arrivals) buffer_shown one.buffers shows) told all))

  pub show_brought : (round : Round FrameOf) (vsyncs : List VsyncRecords) → All SaysResults (told_from arrivals round vsyncs) → ShowBrought arrivals (commits_in vsyncs)
  unfolding told_from commits_in
  show_brought round [] says = All-nil (λ (commit : CommitRecord). All (IsBrought arrivals) commit.buffers)
  show_brought round (vsync ∷ later) says =
      let end = ended (round_after arrivals (begun round) vsync.commits) in
      let first = All-head SaysResults _ (told_from arrivals end later) says in
      All-append (λ (commit : CommitRecord). All (IsBrought arrivals) commit.buffers) vsync.commits (flat_map commits_of_vsync later)
      (recorded vsync.commits (round_after arrivals (begun round) vsync.commits).stage.commits first (shows_after (begun round) vsync.commits (All-nil ShowsOf)))
      (show_brought end later (All-tail SaysResults _ (told_from arrivals end later) says))

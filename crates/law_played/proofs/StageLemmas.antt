-- What is told of vsyncs does not change when more arrives, and a vsync more is told at the end.
use Rattle.std.proofs.Common.{◌≡◌, true, List, [], ◌∷◌, ◌++◌, Option, Some, None, refl, ap, sym, ◌∙◌, true≢false}
use Rattle.std.specs.Prelude.{is_some}
use Rattle.std.specs.List.{All, find, flat_map}
use Rattle.std.specs.Option.{option_or, unwrap_or}
use Rattle.std.proofs.lemmas.List.{append-nil}
use Rattle.std.proofs.lemmas.List.Concat.{flat_map-append}
use Rattle.std.proofs.lemmas.List.Elements.{All-cons, All-head, All-nil, All-tail}
use Rattle.std.proofs.lemmas.List.Folds.{find-append}
use Rattle.sf_commit.specs.sf_token.Pending.{Arrival, has_number}
use Rattle.sf_commit.specs.Rounds.{Round, committed}
use Rattle.sf_actor.specs.Names.{FrameOf}
use Rattle.sf_record.specs.declared.event.VsyncRecords.{VsyncRecords}
use Rattle.sf_record.specs.declared.record.CommitRecord.{CommitRecord}
use Rattle.law_played.specs.Progress.{IsOfArrival}
use Rattle.law_played.specs.Stages.{CommitAt, VsyncAt, arrival_at, begun, commits_from, ended, no_arrival, round_after, round_at_end, told_from}
use Rattle.law_played.specs.Vsyncs.{commits_in, commits_of_vsync}

front_all : {X : Type 0} (P : X → Type 0) (xs ys : List X) → All P (xs ++ ys) → All P xs
front_all P [] ys all = All-nil P
front_all P (x ∷ xs) ys all = All-cons P x xs (All-head P x (xs ++ ys) all) (front_all P xs ys (All-tail P x (xs ++ ys) all))

back_all : {X : Type 0} (P : X → Type 0) (xs ys : List X) → All P (xs ++ ys) → All P ys
back_all P [] ys all = all
back_all P (x ∷ xs) ys all = back_all P xs ys (All-tail P x (xs ++ ys) all)

-- a vsync after which the run has come so far
abbrev pub vsync_at : List (Arrival FrameOf) → Round FrameOf → VsyncRecords → VsyncAt
vsync_at arrivals round vsync = record {
  vsync = vsync;
  commits = commits_from arrivals (begun round) vsync.commits;
  round = ended (round_after arrivals (begun round) vsync.commits);
}

module _ (arrivals more : List (Arrival FrameOf)) where
  arrival_stays : (c : CommitRecord) → IsOfArrival arrivals c → arrival_at (arrivals ++ more) c.arrival ≡ arrival_at arrivals c.arrival
  unfolding arrival_at
  arrival_stays c found = ap (λ o. unwrap_or o no_arrival) (find-append (has_number c.arrival) arrivals more ∙ by_found (find (has_number c.arrival) arrivals) found)
    where
      by_found : (o : Option (Arrival FrameOf)) → is_some o ≡ true → option_or o (find (has_number c.arrival) more) ≡ o
      by_found None none = absurd (true≢false (sym none))
      by_found (Some a) some = refl

  commits_stay : (round : Round FrameOf) (cs : List CommitRecord) → All (IsOfArrival arrivals) cs → commits_from (arrivals ++ more) round cs ≡ commits_from arrivals round cs
  unfolding commits_from
  commits_stay round [] all = refl
  commits_stay round (c ∷ cs) all =
      let here = arrival_stays c (All-head (IsOfArrival arrivals) c cs all) in
      (λ i. record { round = round; arrived = here i; commit = c } ∷ commits_from (arrivals ++ more) (committed round (here i)) cs)
      ∙ ap (λ (rest : List CommitAt). record { round = round; arrived = arrival_at arrivals c.arrival; commit = c } ∷ rest)
      (commits_stay (committed round (arrival_at arrivals c.arrival)) cs (All-tail (IsOfArrival arrivals) c cs all))

  round_stays : (round : Round FrameOf) (cs : List CommitRecord) → All (IsOfArrival arrivals) cs → round_after (arrivals ++ more) round cs ≡ round_after arrivals round cs
  unfolding round_after
  round_stays round [] all = refl
  round_stays round (c ∷ cs) all =
      ap (λ (x : Arrival FrameOf). round_after (arrivals ++ more) (committed round x) cs) (arrival_stays c (All-head (IsOfArrival arrivals) c cs all))
      ∙ round_stays (committed round (arrival_at arrivals c.arrival)) cs (All-tail (IsOfArrival arrivals) c cs all)

  vsync_stays : (round : Round FrameOf) (vsync : VsyncRecords) → All (IsOfArrival arrivals) vsync.commits → vsync_at (arrivals ++ more) round vsync ≡ vsync_at arrivals round vsync
  vsync_stays round vsync all = λ i. record {
    vsync = vsync;
    commits = commits_stay (begun round) vsync.commits all i;
    round = ended (round_stays (begun round) vsync.commits all i);
  }

  pub told_stays : (round : Round FrameOf) (vsyncs : List VsyncRecords) → All (IsOfArrival arrivals) (commits_in vsyncs) → told_from (arrivals ++ more) round vsyncs ≡ told_from arrivals round vsyncs
  unfolding told_from commits_in
  told_stays round [] all = refl
  told_stays round (vsync ∷ later) all =
      let here = vsync_stays round vsync (front_all (IsOfArrival arrivals) vsync.commits (flat_map commits_of_vsync later) all) in
      (λ i. here i ∷ told_from (arrivals ++ more) (here i).round later)
      ∙ ap (λ (rest : List VsyncAt). vsync_at arrivals round vsync ∷ rest)
      (told_stays (vsync_at arrivals round vsync).round later (back_all (IsOfArrival arrivals) vsync.commits (flat_map commits_of_vsync later) all))

pub told_more : (arrivals : List (Arrival FrameOf)) (round : Round FrameOf) (vsyncs : List VsyncRecords) (vsync : VsyncRecords)
    → told_from arrivals round (vsyncs ++ vsync ∷ []) ≡ told_from arrivals round vsyncs ++ vsync_at arrivals (round_at_end round (told_from arrivals round vsyncs)) vsync ∷ []
unfolding told_from round_at_end
told_more arrivals round [] vsync = refl
told_more arrivals round (first ∷ later) vsync =
    ap (λ (rest : List VsyncAt). vsync_at arrivals round first ∷ rest) (told_more arrivals (vsync_at arrivals round first).round later vsync)

pub end_more : (round : Round FrameOf) (told : List VsyncAt) (at : VsyncAt) → round_at_end round (told ++ at ∷ []) ≡ at.round
unfolding round_at_end
end_more round [] at = refl
end_more round (first ∷ later) at = end_more first.round later at

pub commits_more : (vsyncs : List VsyncRecords) (vsync : VsyncRecords) → commits_in (vsyncs ++ vsync ∷ []) ≡ commits_in vsyncs ++ vsync.commits
unfolding commits_in
commits_more vsyncs vsync = flat_map-append commits_of_vsync vsyncs (vsync ∷ []) ∙ ap (λ cs. flat_map commits_of_vsync vsyncs ++ cs) (append-nil vsync.commits)

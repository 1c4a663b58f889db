-- Nobody is passed over still, where more arrives, and by one vsync more.
use Rattle.std.proofs.Common.{◌≡◌, ℕ, ◌<◌, ◌≤◌, ◌==◌, ◌&&◌, Bool, true, false, List, [], ◌∷◌, ◌++◌, filter, Option, Some, None, refl, ap, sym, subst, ◌∙◌, true≢false, inl, inr, arith}
use Rattle.std.specs.Prelude.{All, cond, is_some, nat_lt, not}
use Rattle.std.specs.List.{find, flat_map}
use Rattle.std.specs.Option.{option_map_or, option_or}
use Rattle.std.proofs.lemmas.Bool.{cases_Bool, eq-eqb, eqb-true, ltb-true, ne_eqb}
use Rattle.std.proofs.lemmas.List.{append-nil, append_assoc}
use Rattle.std.proofs.lemmas.List.Elements.{All-append, All-cons, All-head, All-nil, All-tail, All-weaker, filter-append}
use Rattle.std.proofs.lemmas.List.Folds.{find-append, list_any_none}
use Rattle.law_played.specs.sf_actor.Names.{FrameOf}
use Rattle.law_played.specs.sf_commit.Rounds.{Round}
use Rattle.law_played.specs.sf_record.declared.event.VsyncRecords.{VsyncRecords}
use Rattle.law_played.specs.sf_record.declared.record.CommitRecord.{CommitRecord}
use Rattle.law_played.specs.sf_token.Pending.{Arrival, IsRisingFrom, has_number, is_of}
use Rattle.law_played.proofs.OrderLemmas.{above, below, found_has, found_passes, kept_whole}
use Rattle.law_played.proofs.StageLemmas.{vsync_at}
use Rattle.law_played.specs.Holds.{is_head, is_uncommitted, uncommitted}
use Rattle.law_played.specs.Progress.{IsOfArrival}
use Rattle.law_played.specs.Stages.{round_at_end, told_from}
use Rattle.law_played.specs.Vsyncs.{commits_in, commits_of_vsync}
use Rattle.law_waits.specs.Leaving.{LeavesNoneAt, LeavesNoneFrom, WaitsAtEnd, greatest_arrival, is_behind, left_behind}

-- of what is kept, where two tests agree or none passes
agree : {X : Type 0} (p q : X → Bool) (xs : List X) → All (λ x. p x ≡ q x) xs → filter p xs ≡ filter q xs
agree p q [] all = refl
agree p q (x ∷ xs) all =
    (λ i. cond (All-head (λ x. p x ≡ q x) x xs all i) (x ∷ filter p xs) (filter p xs))
    ∙ ap (λ rest. cond (q x) (x ∷ rest) rest) (agree p q xs (All-tail (λ x. p x ≡ q x) x xs all))

kept_none : {X : Type 0} (p : X → Bool) (xs : List X) → All (λ x. p x ≡ false) xs → filter p xs ≡ []
kept_none p [] all = refl
kept_none p (x ∷ xs) all = rw (All-head (λ x. p x ≡ false) x xs all) (kept_none p xs (All-tail (λ x. p x ≡ false) x xs all))

-- the commits of arrivals up to a number
abbrev pub IsUpTo : ℕ → CommitRecord → Type 0
IsUpTo last commit = commit.arrival ≤ last

greatest_low : (last : ℕ) (commits : List CommitRecord) → All (IsUpTo last) commits → greatest_arrival commits ≤ last
greatest_low last [] all = omega arith
greatest_low last (c ∷ later) all =
    let here = All-head (IsUpTo last) c later all in
    let rest = greatest_low last later (All-tail (IsUpTo last) c later all) in
    omega (arith, here, rest)

pub commits_low : (arrivals : List (Arrival FrameOf)) (last : ℕ) (commits : List CommitRecord) → IsRisingFrom 0 arrivals last → All (IsOfArrival arrivals) commits → All (IsUpTo last) commits
commits_low arrivals last commits rising all = All-weaker (IsOfArrival arrivals) (IsUpTo last) (λ c found. by_found c found (find (has_number c.arrival) arrivals) refl) commits all
  where
    by_found : (c : CommitRecord) → IsOfArrival arrivals c → (o : Option (Arrival FrameOf)) → find (has_number c.arrival) arrivals ≡ o → IsUpTo last c
    by_found c found None e = absurd (true≢false (sym found ∙ ap (λ o. is_some o) e))
    by_found c found (Some y) e =
        let most = found_has (λ (a : Arrival FrameOf). a.number ≤ last) (has_number c.arrival) arrivals y (below 0 arrivals last rising).1 e in
        let same : y.number ≡ c.arrival = eqb-true y.number c.arrival (found_passes (has_number c.arrival) arrivals y e) in
        omega (arith, most, same)

-- of its token something is there
abbrev HasFirst : List (Arrival FrameOf) → Arrival FrameOf → Type 0
HasFirst left x = is_some (find (is_of x.txn.token) left) ≡ true

have_first : (left : List (Arrival FrameOf)) → All (HasFirst left) left
have_first [] = All-nil (HasFirst [])
have_first (y ∷ ys) = All-cons (HasFirst (y ∷ ys)) y ys (rw (eq-eqb y.txn.token.0 y.txn.token.0 refl) refl) (All-weaker (HasFirst ys) (HasFirst (y ∷ ys)) more ys (have_first ys))
  where
    more : (x : Arrival FrameOf) → HasFirst ys x → HasFirst (y ∷ ys) x
    more x some = elim (cases_Bool (is_of x.txn.token y)) [
      | inl met ↦ rw met refl
      | inr unmet ↦ rw unmet some
    ]

module _ (arrivals more : List (Arrival FrameOf)) (last end : ℕ) (rises : IsRisingFrom last more end) where
  module _ (commits : List CommitRecord) (low : All (IsUpTo last) commits) where
    abbrev left : List (Arrival FrameOf)
    left = uncommitted arrivals commits

    -- nothing of what arrives later is committed
    all_left : uncommitted (arrivals ++ more) commits ≡ left ++ more
    all_left =
        filter-append (is_uncommitted commits) arrivals more
        ∙ ap (λ rest. left ++ rest) (kept_whole (is_uncommitted commits) more
        (All-weaker (λ (x : Arrival FrameOf). last < x.number) (λ (x : Arrival FrameOf). is_uncommitted commits x ≡ true)
        (λ x less. ap not (list_any_none (λ (c : CommitRecord). c.arrival == x.number) commits
        (All-weaker (IsUpTo last) (λ (c : CommitRecord). (c.arrival == x.number) ≡ false) (λ c most. ne_eqb c.arrival x.number (λ same. omega (arith, less, most, same))) commits low)))
        more (above last more end rises)))

    or_first : (o other : Option (Arrival FrameOf)) → is_some o ≡ true → option_or o other ≡ o
    or_first None other none = absurd (true≢false (sym none))
    or_first (Some a) other some = refl

    same_head : (x : Arrival FrameOf) → HasFirst left x → is_head (left ++ more) x ≡ is_head left x
    same_head x some =
        ap (λ (o : Option (Arrival FrameOf)). option_map_or (λ (first : Arrival FrameOf). first.number == x.number) o false)
        (find-append (is_of x.txn.token) left more ∙ or_first (find (is_of x.txn.token) left) (find (is_of x.txn.token) more) some)

    no_more : (b c : Bool) → c ≡ false → (b && c) ≡ false
    no_more true c e = e
    no_more false c e = refl

    not_before : (x : Arrival FrameOf) → last < x.number → is_behind (left ++ more) commits x ≡ false
    not_before x less = no_more (is_head (left ++ more) x) (nat_lt x.number (greatest_arrival commits)) (elim (cases_Bool (nat_lt x.number (greatest_arrival commits))) [
      | inl met ↦ let before : x.number < greatest_arrival commits = ltb-true x.number (greatest_arrival commits) met in let most = greatest_low last commits low in absurd (omega (arith, before, most, less))
      | inr unmet ↦ unmet
    ])

    -- what the commits leave behind stays the same
    behind_same : left_behind (arrivals ++ more) commits ≡ left_behind arrivals commits
    behind_same =
        ap (λ (xs : List (Arrival FrameOf)). filter (is_behind xs commits) xs) all_left
        ∙ (filter-append (is_behind (left ++ more) commits) left more
        ∙ ((λ i. agree (is_behind (left ++ more) commits) (is_behind left commits) left
        (All-weaker (HasFirst left) (λ (x : Arrival FrameOf). is_behind (left ++ more) commits x ≡ is_behind left commits x)
        (λ x some. ap (λ (b : Bool). b && nat_lt x.number (greatest_arrival commits)) (same_head x some)) left (have_first left)) i
        ++ kept_none (is_behind (left ++ more) commits) more
        (All-weaker (λ (x : Arrival FrameOf). last < x.number) (λ (x : Arrival FrameOf). is_behind (left ++ more) commits x ≡ false) not_before more (above last more end rises)) i)
        ∙ append-nil (left_behind arrivals commits)))

  front_all : {X : Type 0} (P : X → Type 0) (xs ys : List X) → All P (xs ++ ys) → All P xs
  front_all P [] ys all = All-nil P
  front_all P (x ∷ xs) ys all = All-cons P x xs (All-head P x (xs ++ ys) all) (front_all P xs ys (All-tail P x (xs ++ ys) all))

  back_all : {X : Type 0} (P : X → Type 0) (xs ys : List X) → All P (xs ++ ys) → All P ys
  back_all P [] ys all = all
  back_all P (x ∷ xs) ys all = back_all P xs ys (All-tail P x (xs ++ ys) all)

  -- where more arrives; what is told of the vsyncs is still that of the arrivals before
  pub none_arrived : (round : Round FrameOf) (before : List CommitRecord) (vsyncs : List VsyncRecords) → All (IsUpTo last) before → All (IsUpTo last) (commits_in vsyncs)
      → LeavesNoneFrom arrivals before (told_from arrivals round vsyncs) → LeavesNoneFrom (arrivals ++ more) before (told_from arrivals round vsyncs)
  unfolding told_from commits_in
  none_arrived round before [] low rest none = tt
  none_arrived round before (v ∷ later) low rest none =
      let low_here = All-append (IsUpTo last) before v.commits low (front_all (IsUpTo last) v.commits (flat_map commits_of_vsync later) rest) in
      let at = vsync_at arrivals round v in (
        subst (All (WaitsAtEnd at)) (sym (behind_same (before ++ v.commits) low_here)) none.0,
        none_arrived at.round (before ++ v.commits) later low_here (back_all (IsUpTo last) v.commits (flat_map commits_of_vsync later) rest) none.1,
      )

-- by one vsync more
pub none_more : (arrivals : List (Arrival FrameOf)) (round : Round FrameOf) (before : List CommitRecord) (vsyncs : List VsyncRecords) (v : VsyncRecords)
    → LeavesNoneFrom arrivals before (told_from arrivals round vsyncs)
    → LeavesNoneAt arrivals (before ++ commits_in (vsyncs ++ v ∷ [])) (vsync_at arrivals (round_at_end round (told_from arrivals round vsyncs)) v)
    → LeavesNoneFrom arrivals before (told_from arrivals round (vsyncs ++ v ∷ []))
unfolding told_from round_at_end commits_in
none_more arrivals round before [] v none at =
    (subst (λ (cs : List CommitRecord). LeavesNoneAt arrivals (before ++ cs) (vsync_at arrivals round v)) (append-nil v.commits) at, tt)
none_more arrivals round before (first ∷ later) v none at = (
  none.0,
  none_more arrivals (vsync_at arrivals round first).round (before ++ first.commits) later v none.1
      (subst (λ (cs : List CommitRecord). LeavesNoneAt arrivals cs (vsync_at arrivals (round_at_end (vsync_at arrivals round first).round (told_from arrivals (vsync_at arrivals round first).round later)) v))
      (sym (append_assoc before first.commits (commits_in (later ++ v ∷ [])))) at),
)

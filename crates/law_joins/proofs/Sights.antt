-- What a compositor among threads sees of the timelines: each value is 0 or a signal of a step, and none falls.
use Rattle.std.proofs.Common.{◌≡◌, ◌≢◌, ℕ, zero, suc, ◌+◌, ◌-◌, ◌*◌, ◌<◌, ◌≤◌, ◌==◌, ◌&&◌, if◌then◌else◌, Bool, true, false, List, [], ◌∷◌, ◌++◌, length, map, refl, ap, sym, ◌∙◌, subst, inl, inr, ◌⊎◌, arith}
use Rattle.std.specs.Prelude.{Contains, slice_index}
use Rattle.std.specs.List.{list_any}
use Rattle.std.proofs.lemmas.Bool.{and_from, cases_Bool, eq-eqb, false≢true}
use Rattle.std.proofs.lemmas.List.{append-nil}
use Rattle.std.proofs.lemmas.List.Elements.{Contains-append_left, Contains-append_right}
use Rattle.atomic_table.specs.Seated.{TableId}
use Rattle.sf_base.proofs.PointLemmas.{greatest-append, has_le}
use Rattle.sf_base.specs.Fences.{value_of}
use Rattle.sf_base.specs.Points.{greatest, points_from}
use Rattle.sf_base.specs.declared.fences.Seen.{Seen}
use Rattle.law_threads.specs.sf_surface.Tokens.{Issued, ReadLeaseOf}
use Rattle.law_threads.specs.sf_times.declared.protocol.Knows.{Knows}
use Rattle.law_threads.specs.sf_times.Seats.{all_loaded}
use Rattle.law_threads.specs.sf_turns.Views.{SeatView}
use Rattle.law_threads.specs.sf_txn.declared.lease.Lease.{Ghosts}
use Rattle.law_threads.specs.sf_commit.declared.vsync.Commit.{Commit}
use Rattle.law_threads.specs.sf_script_scene.Scene.{SceneValue}
use Rattle.law_threads.specs.sf_actor.Known.{AreAmong}
use Rattle.law_threads.specs.sf_record.declared.event.VsyncRecords.{VsyncRecords}
use Rattle.law_threads.proofs.law_played_lemmas.Members.{has_first, has_later}
use Rattle.law_threads.proofs.law_played_lemmas.SeenLemmas.{seen_is}
use Rattle.law_threads.proofs.law_played_lemmas.VsyncLemmas.{none_seen, seen_more, seen_silently}
use Rattle.law_threads.specs.law_played.Commits.{commit_shown, seen_by}
use Rattle.law_threads.specs.law_played.Seeing.{HasSeen, TellsTime, value_shown}
use Rattle.law_threads.specs.law_played.Vsyncs.{WasSignalled}
use Rattle.law_threads.specs.sf_play_report.Reports.{has_commits}
use Rattle.law_threads.specs.sf_live_seats.declared.locks.Locks.{Locks}
use Rattle.law_threads.specs.sf_play.Showing.{vsync_shown}
use Rattle.law_threads.proofs.sf_play_lemmas.SeenTimelines.{any_has}
use Rattle.law_joins.specs.Logs.{HasSeenSo, KnowsSteps, reports_of}
use Rattle.law_joins.proofs.Fronts.{times_after}
use Rattle.law_threads.specs.sf_live_compositor.Vsyncs.{Begin, IsVsync, More, Sitting, Vsyncs}

-- each value stands among the points that were loaded
points_has : (values : List ℕ) (first k : ℕ) → k < length values → Contains (points_from first values) (first + k, slice_index values k)
points_has [] first k low = absurd (omega (arith, low))
points_has (v ∷ vs) first zero low = has_first (first, v) (first + 0, v) (points_from (first + 1) vs) (λ i. (same i, v))
  where
    same : first ≡ first + 0
    same = omega arith
points_has (v ∷ vs) first (suc k) low =
    subst (λ (n : ℕ). Contains ((first, v) ∷ points_from (first + 1) vs) (n, slice_index vs k)) same
    (has_later (first, v) ((first + 1) + k, slice_index vs k) (points_from (first + 1) vs) (points_has vs (first + 1) k (omega (arith, low))))
  where
    same : (first + 1) + k ≡ first + suc k
    same = omega arith

pub point_has : (seen : Seen) (t : ℕ) → length seen.values ≡ 64 → 1 ≤ t → t ≤ 64 → Contains (points_from 1 seen.values) (t, value_of seen.values t)
point_has seen t all low high =
    subst (λ (n : ℕ). Contains (points_from 1 seen.values) (n, value_of seen.values t)) same (points_has seen.values 1 (t - 1) (omega (arith, all, low, high)))
  where
    same : 1 + (t - 1) ≡ t
    same = omega (arith, low)

pub commits_shown : (commits : List Commit) → has_commits commits ≡ true → map commit_shown commits ≢ []
commits_shown [] some none = absurd (false≢true some)
commits_shown (commit ∷ commits) some none = cc

module _ (scene : SceneValue) (made : List (ℕ × ℕ)) where
  -- what stands there before the first vsync
  nothing_seen : (number : ℕ) (knows : Knows) → HasSeenSo scene made [] number knows
  nothing_seen number knows = record { seen = record { values = [] }; has = none_seen scene made number (record { values = [] }); within = λ t low high. omega arith }

module _ {B : Type 0} (lease : Ghosts ReadLeaseOf SeatView ReadLeaseOf Issued) (table : TableId) (locks : Locks B) (period : ℕ) (scene : SceneValue) (same_period : period ≡ scene.period)
    (joined : Knows) (made : List (ℕ × ℕ)) (knows : KnowsSteps scene joined made) where
  module _ (before after : Sitting B) (v : IsVsync lease table locks period before after) (shown : AreAmong after.seats.times.knows.shown joined.shown) where
    knows_after : after.seats.times.knows ≡ all_loaded before.seats.times.knows (points_from 1 v.seen.values)
    knows_after = times_after lease table locks period before after v ∙ v.sees.shown

    -- a value that was seen is 0, or one that was signalled, by a step
    was_seen : (t : ℕ) → 1 ≤ t → t ≤ 64 → (value_of v.seen.values t ≡ 0) ⊎ Contains joined.signals (t, value_of v.seen.values t)
    was_seen t low high =
        knows.only.shown (t, value_of v.seen.values t) (shown (t, value_of v.seen.values t)
        (subst (λ (k : Knows). Contains k.shown (t, value_of v.seen.values t)) (sym knows_after)
        (Contains-append_right before.seats.times.knows.shown (points_from 1 v.seen.values) (t, value_of v.seen.values t) (point_has v.seen t v.sees.all low high))))

    was_made : (t : ℕ) → 1 ≤ t → t ≤ 64 → (value_of v.seen.values t ≡ 0) ⊎ Contains made (t, value_of v.seen.values t)
    was_made t low high = elim (was_seen t low high) [
      | inl nothing ↦ inl nothing
      | inr there ↦ inr (knows.by_steps (t, value_of v.seen.values t) there)
    ]

    signalled : (t : ℕ) → 1 ≤ t → t ≤ 64 → WasSignalled made (value_shown v.seen t)
    signalled t low high = elim (was_made t low high) [
      | inl nothing ↦ let none : (value_of v.seen.values t == 0) ≡ true = eq-eqb (value_of v.seen.values t) 0 nothing in rw none refl
      | inr there ↦
          let any = any_has (λ (s : ℕ × ℕ). (s.0 == t) && (s.1 == value_of v.seen.values t)) made (t, value_of v.seen.values t) there
          (and_from (t == t) (value_of v.seen.values t == value_of v.seen.values t) (eq-eqb t t refl) (eq-eqb (value_of v.seen.values t) (value_of v.seen.values t) refl)) in
          elim (cases_Bool (value_of v.seen.values t == 0)) [
            | inl met ↦ rw met refl
            | inr unmet ↦ rw unmet any
          ]
    ]

    -- nothing was seen of what is not declared
    undeclared : (t : ℕ) → 1 ≤ t → t ≤ 64 → list_any (λ k. k == t) scene.timelines ≡ false → value_of v.seen.values t ≡ 0
    undeclared t low high none = elim (was_seen t low high) [
      | inl nothing ↦ nothing
      | inr there ↦ absurd (false≢true (sym none ∙ knows.declared (t, value_of v.seen.values t) there))
    ]

    abbrev pub report : VsyncRecords
    report = vsync_shown scene after.number v.expected v.seen v.told.commits after.handler.tree

    pub says_seen : seen_by report ≡ v.seen
    says_seen = seen_is scene v.seen report v.sees.all refl undeclared

    tells : has_commits v.told.commits ≡ true → TellsTime scene made report v.seen
    tells some = record {
      from_1 = later v.counted;
      due = v.due ∙ ap (λ (n : ℕ). after.number * n) same_period;
      commit = commits_shown v.told.commits some;
      shows = refl;
      signalled = signalled;
    }
      where
        later : after.number ≡ before.number + 1 → 0 < after.number
        later counted = omega (arith, counted)

    within : (t : ℕ) → 1 ≤ t → t ≤ 64 → value_of v.seen.values t ≤ greatest t after.seats.times.knows.known
    within t low high =
        let has = has_le t (value_of v.seen.values t) (points_from 1 v.seen.values) (point_has v.seen t v.sees.all low high) in
        let joined = greatest-append t before.seats.times.knows.known (points_from 1 v.seen.values) in
        let same = ap (λ (k : Knows). greatest t k.known) knows_after in
        omega (arith, has, joined, same)

    -- one vsync more
    pub seen_after : (reports : List VsyncRecords) → HasSeenSo scene made reports before.number before.seats.times.knows
        → HasSeenSo scene made (reports ++ (if has_commits v.told.commits then report ∷ [] else [])) after.number after.seats.times.knows
    seen_after reports was = record { seen = v.seen; has = by_commits (has_commits v.told.commits) refl; within = within }
      where
        rises : (t : ℕ) → 1 ≤ t → t ≤ 64 → value_of was.seen.values t ≤ value_of v.seen.values t
        rises t low high = let one = was.within t low high in let two = v.sees.known t low high in omega (arith, one, two)

        next : after.number ≡ before.number + 1 → before.number < after.number
        next counted = omega (arith, counted)

        least : after.number ≡ before.number + 1 → before.number ≤ after.number
        least counted = omega (arith, counted)

        by_commits : (b : Bool) → has_commits v.told.commits ≡ b → HasSeen scene made (reports ++ (if b then report ∷ [] else [])) after.number v.seen
        by_commits true some = seen_more scene made reports before.number was.seen v.seen report was.has (next v.counted) rises (tells some)
        by_commits false none =
            subst (λ (rs : List VsyncRecords). HasSeen scene made rs after.number v.seen) (sym (append-nil reports)) (seen_silently scene made reports before.number after.number was.seen v.seen was.has (least v.counted) rises)

  shown_before : (before after : Sitting B) → IsVsync lease table locks period before after → AreAmong after.seats.times.knows.shown joined.shown → AreAmong before.seats.times.knows.shown joined.shown
  shown_before before after v shown p there =
      shown p (subst (λ (k : Knows). Contains k.shown p) (sym (knows_after before after v shown)) (Contains-append_left before.seats.times.knows.shown (points_from 1 v.seen.values) p there))

  -- what was seen all along a log
  pub log_sees : (start last : Sitting B) (log : Vsyncs lease table locks period start last) → AreAmong last.seats.times.knows.shown joined.shown
      → HasSeenSo scene made (reports_of lease table locks period scene log) last.number last.seats.times.knows
  log_sees start last Begin shown = nothing_seen scene made start.number start.seats.times.knows
  log_sees start last (More {before} {after} log v) shown =
      seen_after before after v shown (reports_of lease table locks period scene log) (log_sees start before log (shown_before before after v shown))

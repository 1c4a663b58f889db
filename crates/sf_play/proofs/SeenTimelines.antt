-- What a vsync sees of the timelines is what the steps of the actors signalled.
use Rattle.std.proofs.Common.{◌≡◌, ◌≢◌, ℕ, ◌+◌, ◌*◌, ◌<◌, ◌≤◌, ◌==◌, ◌&&◌, Bool, true, List, [], ◌∷◌, ◌++◌, length, get_or, map, filter, take, drop, refl, ap, sym, ◌∙◌, subst, inl, inr, ◌⊎◌, arith}
use Rattle.std.specs.Prelude.{Contains, max}
use Rattle.std.specs.List.{All, AllZip, list_any, range_with_len}
use Rattle.std.proofs.lemmas.Bool.{and_from, and_parts, cases_Bool, cases_lt, eq-eqb, eqb-true, false≢true}
use Rattle.std.proofs.lemmas.List.{take-append-drop}
use Rattle.std.proofs.lemmas.List.Elements.{All-append, All-cons, All-contains, All-head, All-nil, All-tail, Contains-append_left, Contains-get_or}
use Rattle.sf_base.proofs.PointLemmas.{has_le}
use Rattle.sf_base.specs.Fences.{value_of}
use Rattle.sf_base.specs.Points.{greatest, value_at}
use Rattle.sf_base.specs.declared.fences.Seen.{Seen}
use Rattle.sf_script_scene.specs.Limits.{EachStep, IsWithinLimits, most_actors}
use Rattle.sf_script_scene.specs.Named.{KnowsTimelines}
use Rattle.sf_script_scene.specs.Ranges.{IsTimeline}
use Rattle.sf_script_scene.specs.Scene.{SceneValue, has_timeline}
use Rattle.sf_script_scene.specs.declared.step.ActorScript.{ActorScript}
use Rattle.sf_script_scene.specs.declared.step.Step.{Step}
use Rattle.sf_script_scene.specs.declared.step.Step.TheVariants as step
use Rattle.sf_play_report.specs.sf_actor.Desks.{DeskHome, DeskView}
use Rattle.sf_play_report.specs.sf_actor.Known.{AreAmong}
use Rattle.sf_play_report.specs.sf_actor.ScriptTraces.{step_done}
use Rattle.sf_play_report.specs.sf_actor.Tries.{ActorOf, Sees}
use Rattle.sf_play_report.specs.sf_actor.Written.{signal_of, signals_of}
use Rattle.sf_play_report.specs.sf_actor.declared.done.Done.{Done}
use Rattle.sf_play_report.specs.sf_record.declared.event.VsyncRecords.{VsyncRecords}
use Rattle.sf_play_report.specs.sf_record.declared.record.TimelineValue.{TimelineValue}
use Rattle.sf_play_report.proofs.law_played_lemmas.Members.{filter_has, has_cases, has_first, has_here, has_later, has_map, has_none, joined_has, map_has}
use Rattle.sf_play_report.proofs.law_played_lemmas.SeenLemmas.{seen_is}
use Rattle.sf_play_report.proofs.law_played_lemmas.RunTraces.{played_by, trace_here}
use Rattle.sf_play_report.specs.law_played.Actors.{AreActors, run_of, trace_among}
use Rattle.sf_play_report.specs.law_played.Commits.{seen_by}
use Rattle.sf_play_report.specs.law_played.Seeing.{value_shown}
use Rattle.sf_play_report.specs.law_played.Runs.{actor_number, rising_actors, signals_in}
use Rattle.sf_play_report.specs.law_played.Vsyncs.{AllNext, AllNextTo, AreVsyncs, GoesOn, HasNotFallen, WasSignalled, rising_timelines, timeline_of}
use Rattle.sf_play.specs.Showing.{values_shown}

-- the greatest value of a number is one of its points, where it is not 0
greatest_there : (t : ℕ) (ps : List (ℕ × ℕ)) → (greatest t ps ≡ 0) ⊎ Contains ps (t, greatest t ps)
greatest_there t [] = inl refl
greatest_there t (p ∷ ps) = elim (cases_Bool (p.0 == t)) [
  | inl met ↦ elim (cases_lt (greatest t ps) p.1) [
    | inl less ↦ let top : max (value_at t p) (greatest t ps) ≡ p.1 = rw met (omega (arith, less)) in inr (has_first p (t, max (value_at t p) (greatest t ps)) ps (λ i. (eqb-true p.0 t met i, sym top i)))
    | inr more ↦ let top : max (value_at t p) (greatest t ps) ≡ greatest t ps = rw met (omega (arith, more)) in later top (greatest_there t ps)
  ]
  | inr unmet ↦ let top : max (value_at t p) (greatest t ps) ≡ greatest t ps = rw unmet (omega arith) in later top (greatest_there t ps)
]
  where
    later : max (value_at t p) (greatest t ps) ≡ greatest t ps → (greatest t ps ≡ 0) ⊎ Contains ps (t, greatest t ps) → (max (value_at t p) (greatest t ps) ≡ 0) ⊎ Contains (p ∷ ps) (t, max (value_at t p) (greatest t ps))
    later top (inl none) = inl (top ∙ none)
    later top (inr there) = inr (subst (λ (n : ℕ). Contains (p ∷ ps) (t, n)) (sym top) (has_later p (t, greatest t ps) ps there))

-- one that passes is among those that may
pub any_has : {X : Type 0} (p : X → Bool) (xs : List X) (x : X) → Contains xs x → p x ≡ true → list_any p xs ≡ true
any_has p [] x there passes = has_none x there
any_has p (y ∷ ys) x there passes = elim (cases_Bool (p y)) [
  | inl met ↦ rw met refl
  | inr unmet ↦ elim (has_cases y x ys there) [
    | inl same ↦ absurd (false≢true (sym unmet ∙ ap p same ∙ passes))
    | inr later ↦ rw unmet (any_has p ys x later passes)
  ]
]

-- one that passes, where one does
pub one_passes : {X : Type 0} (p : X → Bool) (xs : List X) → list_any p xs ≡ true → (x : X) × Contains xs x × (p x ≡ true)
one_passes p [] e = absurd (false≢true e)
one_passes p (x ∷ xs) e = elim (cases_Bool (p x)) [
  | inl met ↦ (x, has_here x xs, met)
  | inr unmet ↦ let rest = one_passes p xs (rw unmet at e) in (rest.0, has_later x rest.0 xs rest.1, rest.2)
]

all_that : {X : Type 0} (P : X → Type 0) (xs : List X) → ((x : X) → Contains xs x → P x) → All P xs
all_that P xs each = λ k d low. each (get_or xs k d) (Contains-get_or xs k d low)

module _ (scene : SceneValue) (limits : IsWithinLimits scene) where
  -- the declared timelines by rising number are those that are declared
  rising_is : (t : ℕ) → Contains (rising_timelines scene) t → (1 ≤ t) × (t ≤ 64)
  unfolding rising_timelines
  rising_is t there =
      let at = joined_has (λ (n : ℕ). filter (λ (item : ℕ). item == n) scene.timelines) (range_with_len 1 64) t there in
      let declared = filter_has (λ (item : ℕ). item == at.0) scene.timelines t at.2 in
      let is = All-contains IsTimeline scene.timelines t limits.timelines.each declared.0 in
      (is.low, is.high)

-- what a vsync saw: the greatest value of each timeline that was signalled, and only declared timelines are
pub record SeesSignals (scene : SceneValue) (made signals : List (ℕ × ℕ)) (seen : Seen) : Type 0 where
  pub all : length seen.values ≡ 64
  pub exact : (t : ℕ) → 1 ≤ t → t ≤ 64 → value_of seen.values t ≡ greatest t signals
  pub declared : (p : ℕ × ℕ) → Contains signals p → has_timeline scene.timelines p.0 ≡ true
  pub by_steps : AreAmong signals made
  pub all_made : AreAmong made signals

module _ (scene : SceneValue) (limits : IsWithinLimits scene) (made signals : List (ℕ × ℕ)) (seen : Seen) (sees : SeesSignals scene made signals seen) where
  -- what is shown of the timelines is what was seen of them
  pub saw_is : (report : VsyncRecords) → report.timelines ≡ values_shown scene seen → seen_by report ≡ seen
  saw_is report shown = seen_is scene seen report sees.all shown (λ t low high undeclared. elim (greatest_there t signals) [
    | inl nothing ↦ sees.exact t low high ∙ nothing
    | inr there ↦ absurd (false≢true (sym undeclared ∙ sees.declared (t, greatest t signals) there))
  ])

  timelines_are : (ts : List ℕ) → map timeline_of (map (value_shown seen) ts) ≡ ts
  timelines_are [] = refl
  timelines_are (t ∷ ts) = ap (λ (ks : List ℕ). t ∷ ks) (timelines_are ts)

  -- a value that was signalled is at most what is seen now
  was_at_most : (tv : TimelineValue) → WasSignalled made tv → tv.value ≤ greatest tv.timeline signals
  was_at_most tv was = elim (cases_Bool (tv.value == 0)) [
    | inl met ↦ let none = eqb-true tv.value 0 met in omega (arith, none)
    | inr unmet ↦
        let one = one_passes (λ (s : ℕ × ℕ). (s.0 == tv.timeline) && (s.1 == tv.value)) made (rw unmet at was) in
        let both = and_parts (one.0.0 == tv.timeline) (one.0.1 == tv.value) one.2 in
        has_le tv.timeline tv.value signals (subst (λ (p : ℕ × ℕ). Contains signals p) (λ i. (eqb-true one.0.0 tv.timeline both.0 i, eqb-true one.0.1 tv.value both.1 i)) (sees.all_made one.0 one.1))
  ]

  not_fallen : (ts : List ℕ) (tvs : List TimelineValue) → map timeline_of tvs ≡ ts → All (WasSignalled made) tvs → All (λ (t : ℕ). (1 ≤ t) × (t ≤ 64)) ts → AllZip HasNotFallen tvs (map (value_shown seen) ts)
  not_fallen [] [] same was ranges = tt
  not_fallen [] (tv ∷ tvs) same was ranges = absurd (cons_nil same)
    where
      cons_nil : tv.timeline ∷ map timeline_of tvs ≡ [] → ⊥
      cons_nil e = cc
  not_fallen (t ∷ ts) [] same was ranges = absurd (nil_cons same)
    where
      nil_cons : [] ≡ t ∷ ts → ⊥
      nil_cons e = cc
  not_fallen (t ∷ ts) (tv ∷ tvs) same was ranges =
      let first : tv.timeline ≡ t = cc in
      let rest : map timeline_of tvs ≡ ts = cc in
      let most = was_at_most tv (All-head (WasSignalled made) tv tvs was) in
      let range = All-head (λ (k : ℕ). (1 ≤ k) × (k ≤ 64)) t ts ranges in
      let now = sees.exact t range.0 range.1 in
      let at = ap (λ (k : ℕ). greatest k signals) first in
      (omega (arith, most, now, at), not_fallen ts tvs rest (All-tail (WasSignalled made) tv tvs was) (All-tail (λ (k : ℕ). (1 ≤ k) × (k ≤ 64)) t ts ranges))

  was_signalled : (t : ℕ) → 1 ≤ t → t ≤ 64 → WasSignalled made (value_shown seen t)
  was_signalled t low high = elim (greatest_there t signals) [
    | inl nothing ↦ let none : (value_of seen.values t == 0) ≡ true = eq-eqb (value_of seen.values t) 0 (sees.exact t low high ∙ nothing) in rw none refl
    | inr there ↦
        let there_now = subst (λ (n : ℕ). Contains signals (t, n)) (sym (sees.exact t low high)) there in
        let any = any_has (λ (s : ℕ × ℕ). (s.0 == t) && (s.1 == value_of seen.values t)) made (t, value_of seen.values t) (sees.by_steps (t, value_of seen.values t) there_now)
        (and_from (t == t) (value_of seen.values t == value_of seen.values t) (eq-eqb t t refl) (eq-eqb (value_of seen.values t) (value_of seen.values t) refl)) in
        elim (cases_Bool (value_of seen.values t == 0)) [
          | inl met ↦ rw met refl
          | inr unmet ↦ rw unmet any
        ]
  ]

next_along : {X : Type 0} (R : X → X → Type 0) (x : X) (xs : List X) (y : X) → AllNextTo R x xs → All (λ z. R z y) (x ∷ xs) → AllNextTo R x (xs ++ y ∷ [])
next_along R x [] y next all = (All-head (λ z. R z y) x [] all, tt)
next_along R x (z ∷ zs) y next all = (next.0, next_along R z zs y next.1 (All-tail (λ w. R w y) x (z ∷ zs) all))

next_more : {X : Type 0} (R : X → X → Type 0) (xs : List X) (y : X) → AllNext R xs → All (λ x. R x y) xs → AllNext R (xs ++ y ∷ [])
next_more R [] y next all = tt
next_more R (x ∷ xs) y next all = next_along R x xs y next all

all_more : {X : Type 0} (P : X → Type 0) (xs : List X) (y : X) → All P xs → P y → All P (xs ++ y ∷ [])
all_more P xs y all one = All-append P xs (y ∷ []) all (All-cons P y [] one (All-nil P))

-- one vsync more
pub vsyncs_more : (scene : SceneValue) (made signals : List (ℕ × ℕ)) (seen : Seen) (vsyncs : List VsyncRecords) (report : VsyncRecords) (before : ℕ) → IsWithinLimits scene → SeesSignals scene made signals seen
    → AreVsyncs scene made vsyncs → All (λ (vsync : VsyncRecords). vsync.number ≤ before) vsyncs
    → report.number ≡ before + 1 → report.expected ≡ report.number * scene.period → report.timelines ≡ values_shown scene seen → report.commits ≢ [] → AreVsyncs scene made (vsyncs ++ report ∷ [])
vsyncs_more scene made signals seen vsyncs report before limits sees are numbers next due shown commits = record {
  from_1 = all_more (λ (vsync : VsyncRecords). 0 < vsync.number) vsyncs report are.from_1 (omega (arith, next));
  go_on = next_more GoesOn vsyncs report are.go_on (all_that (λ (vsync : VsyncRecords). GoesOn vsync report) vsyncs (λ vsync there.
      let number = All-contains (λ (vsync : VsyncRecords). vsync.number ≤ before) vsyncs vsync numbers there in (
        omega (arith, number, next),
        subst (λ (tvs : List TimelineValue). AllZip HasNotFallen vsync.timelines tvs) (sym shown)
            (not_fallen scene limits made signals seen sees (rising_timelines scene) vsync.timelines
            (All-contains (λ (vsync : VsyncRecords). map timeline_of vsync.timelines ≡ rising_timelines scene) vsyncs vsync are.timelines there)
            (All-contains (λ (vsync : VsyncRecords). All (WasSignalled made) vsync.timelines) vsyncs vsync are.signalled there) (ranges scene limits)),
      )));
  expected = all_more (λ (vsync : VsyncRecords). vsync.expected ≡ vsync.number * scene.period) vsyncs report are.expected due;
  commit = all_more (λ (vsync : VsyncRecords). vsync.commits ≢ []) vsyncs report are.commit commits;
  timelines = all_more (λ (vsync : VsyncRecords). map timeline_of vsync.timelines ≡ rising_timelines scene) vsyncs report are.timelines
      (ap (map timeline_of) shown ∙ timelines_are scene limits made signals seen sees (rising_timelines scene));
  signalled = all_more (λ (vsync : VsyncRecords). All (WasSignalled made) vsync.timelines) vsyncs report are.signalled
      (subst (λ (tvs : List TimelineValue). All (WasSignalled made) tvs) (sym shown) (all_that (WasSignalled made) (values_shown scene seen) (λ tv there.
      let k = map_has (value_shown seen) (rising_timelines scene) tv there in
      let range = rising_is scene limits k.0 k.1 in
      subst (WasSignalled made) k.2 (was_signalled scene limits made signals seen sees k.0 range.0 range.1))));
}
  where
    ranges : (scene : SceneValue) → IsWithinLimits scene → All (λ (t : ℕ). (1 ≤ t) × (t ≤ 64)) (rising_timelines scene)
    ranges scene limits = all_that (λ (t : ℕ). (1 ≤ t) × (t ≤ 64)) (rising_timelines scene) (λ t there. rising_is scene limits t there)

-- a signal is of a timeline that its step names
signal_named : (timelines : List ℕ) (s : Step) (p : ℕ × ℕ) → Contains (signal_of s) p → KnowsTimelines timelines s → has_timeline timelines p.0 ≡ true
signal_named timelines (step.Signal t v) p there known = elim (has_cases (t, v) p [] there) [
  | inl same ↦ subst (λ (q : ℕ × ℕ). has_timeline timelines q.0 ≡ true) same (All-head (λ (n : ℕ). has_timeline timelines n ≡ true) t [] known)
  | inr none ↦ has_none p none
]
signal_named timelines other p there known = has_none p there

module _ {B : Type 0} (scene : SceneValue) (limits : IsWithinLimits scene) (ofs : List (ActorOf B)) (home : DeskHome) (view : DeskView B) (actors : AreActors scene ofs home view) where
  -- a signal of the actors' steps is one of a declared timeline, and known
  record WasMade (p : ℕ × ℕ) : Type 0 where
    declared : has_timeline scene.timelines p.0 ≡ true
    known : Contains view.times.signals p

  was_made : (p : ℕ × ℕ) → Contains (signals_in scene (run_of ofs home view)) p → WasMade p
  was_made p there =
      let at = joined_has (λ (script : ActorScript). signals_of (trace_among ofs script.number)) (rising_actors scene) p there in
      let script = at.0 in
      let rises = joined_has (λ (n : ℕ). filter (λ (item : ActorScript). actor_number item == n) scene.actors) (range_with_len 1 (most_actors scene.version)) script at.1 in
      let in_scene = (filter_has (λ (item : ActorScript). actor_number item == rises.0) scene.actors script rises.2).0 in
      let by = played_by scene ofs home view script actors in_scene in
      let trace : trace_among ofs script.number ≡ by.of.trace = ap (λ (s : ActorScript). trace_among ofs s.number) (sym by.is) ∙ trace_here ofs by.of actors.apart by.there in
      let signalled : Contains (signals_of by.of.trace) p = subst (λ (t : List Done). Contains (signals_of t) p) trace at.2 in
      let done = joined_has (λ (d : Done). signal_of d.step) by.of.trace p signalled in
      let taken : Contains (take (length by.of.trace) by.of.script.steps) done.0.step =
      subst (λ (steps : List Step). Contains steps done.0.step) by.keeps.kept.kept.is.first (has_map step_done by.of.trace done.0 done.1) in
      let in_script : Contains by.of.script.steps done.0.step =
      subst (λ (steps : List Step). Contains steps done.0.step) (take-append-drop (length by.of.trace) by.of.script.steps)
      (Contains-append_left (take (length by.of.trace) by.of.script.steps) (drop (length by.of.trace) by.of.script.steps) done.0.step taken) in
      let each = All-contains (EachStep (KnowsTimelines scene.timelines)) scene.actors script limits.known_timelines in_scene in
      let known = All-contains (KnowsTimelines scene.timelines) script.steps done.0.step each (subst (λ (s : ActorScript). Contains s.steps done.0.step) by.is in_script) in
      record { declared = signal_named scene.timelines done.0.step p done.2 known; known = by.keeps.kept.kept.signals p signalled }

  -- a look at the timelines sees them
  pub sees_signals : (later : DeskView B) (seen : Seen) → AreAmong view.times.signals (signals_in scene (run_of ofs home view)) → home.is_exact ≡ true → Sees home view later seen
      → SeesSignals scene (signals_in scene (run_of ofs home view)) view.times.signals seen
  sees_signals later seen by_steps exact sees = record {
    all = sees.all;
    exact = sees.exact exact;
    declared = λ p there. (was_made p (by_steps p there)).declared;
    by_steps = by_steps;
    all_made = λ p there. (was_made p there).known;
  }

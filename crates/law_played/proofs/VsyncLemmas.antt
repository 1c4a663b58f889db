-- One vsync more is a vsync of the scene, where its number is greater and no value fell.
use Rattle.std.proofs.Common.{◌≡◌, ◌≢◌, ℕ, zero, suc, ◌+◌, ◌*◌, ◌<◌, ◌≤◌, true, false, ◌||◌, ◌&&◌, Bool, cond, List, [], ◌∷◌, ◌++◌, filter, map, refl, ap, sym, ◌∙◌, subst, arith}
use Rattle.std.specs.Prelude.{◌==◌}
use Rattle.std.specs.List.{All, AllZip, flat_map, list_any, range_with_len}
use Rattle.std.proofs.lemmas.Bool.{eqb-true}
use Rattle.std.proofs.lemmas.List.Elements.{All-append, All-cons, All-head, All-nil, All-tail, All-weaker}
use Rattle.std.proofs.lemmas.List.Folds.{Any-from_list_any, list_any-from_Any}
use Rattle.sf_base.specs.Fences.{value_of}
use Rattle.sf_base.specs.declared.fences.Seen.{Seen}
use Rattle.sf_script_scene.specs.Scene.{SceneValue}
use Rattle.sf_actor.specs.Known.{AreAmong, Rise}
use Rattle.sf_record.specs.declared.event.VsyncRecords.{VsyncRecords}
use Rattle.sf_record.specs.declared.record.TimelineValue.{TimelineValue}
use Rattle.law_played.specs.Seeing.{HasSeen, TellsTime, value_shown}
use Rattle.law_played.specs.Vsyncs.{AllNext, AllNextTo, GoesOn, HasNotFallen, WasSignalled, rising_timelines, timeline_of}

-- what holds of each item and the one after it, with one more
module _ {X : Type 0} (P : X → X → Type 0) where
  next_to_more : (x : X) (xs : List X) (y : X) → AllNextTo P x xs → P x y → All (λ z. P z y) xs → AllNextTo P x (xs ++ y ∷ [])
  next_to_more x [] y h here all = (here, tt)
  next_to_more x (z ∷ zs) y h here all = (h.0, next_to_more z zs y h.1 (All-head (λ w. P w y) z zs all) (All-tail (λ w. P w y) z zs all))

  next_more : (xs : List X) (y : X) → AllNext P xs → All (λ z. P z y) xs → AllNext P (xs ++ y ∷ [])
  next_more [] y h all = tt
  next_more (x ∷ xs) y h all = next_to_more x xs y h (All-head (λ w. P w y) x xs all) (All-tail (λ w. P w y) x xs all)

abbrev IsTimeline : ℕ → Type 0
IsTimeline n = (1 ≤ n) × (n ≤ 64)

all_of_number : (n : ℕ) (items : List ℕ) → IsTimeline n → All IsTimeline (filter (λ k. k == n) items)
all_of_number n [] is = All-nil IsTimeline
all_of_number n (k ∷ ks) is = by_test (all_of_number n ks is) (k == n) refl
  where
    by_test : All IsTimeline (filter (λ k. k == n) ks) → (b : Bool) → (k == n) ≡ b → All IsTimeline (cond b (k ∷ filter (λ k. k == n) ks) (filter (λ k. k == n) ks))
    by_test rest true e = All-cons IsTimeline k (filter (λ k. k == n) ks) (subst IsTimeline (sym (eqb-true k n e)) is) rest
    by_test rest false e = rest

all_within : (a n : ℕ) (items : List ℕ) → 1 ≤ a → a + n ≤ 65 → All IsTimeline (flat_map (λ m. filter (λ k. k == m) items) (range_with_len a n))
all_within a zero items least most = All-nil IsTimeline
all_within a (suc n) items least most =
    All-append IsTimeline (filter (λ k. k == a) items) (flat_map (λ m. filter (λ k. k == m) items) (range_with_len (a + 1) n))
    (all_of_number a items (least, omega (arith, most))) (all_within (a + 1) n items (omega arith) (omega (arith, most)))

pub rise_within : (scene : SceneValue) → All IsTimeline (rising_timelines scene)
unfolding rising_timelines
rise_within scene = all_within 1 64 scene.timelines (omega arith) (omega arith)

module _ (seen : Seen) where
  timelines_shown : (timelines : List ℕ) → map timeline_of (map (value_shown seen) timelines) ≡ timelines
  timelines_shown [] = refl
  timelines_shown (n ∷ ns) = ap (λ rest. n ∷ rest) (timelines_shown ns)

  all_shown : (P : TimelineValue → Type 0) (timelines : List ℕ) → All (λ n. P (value_shown seen n)) timelines → All P (map (value_shown seen) timelines)
  all_shown P [] all = All-nil P
  all_shown P (n ∷ ns) all =
      All-cons P (value_shown seen n) (map (value_shown seen) ns) (All-head (λ n. P (value_shown seen n)) n ns all) (all_shown P ns (All-tail (λ n. P (value_shown seen n)) n ns all))

  none_fell : (before : List TimelineValue) (timelines : List ℕ) → map timeline_of before ≡ timelines → All (λ (t : TimelineValue). t.value ≤ value_of seen.values t.timeline) before
      → AllZip HasNotFallen before (map (value_shown seen) timelines)
  none_fell before timelines same all = subst (λ ts. AllZip HasNotFallen before (map (value_shown seen) ts)) same (each before all)
    where
      each : (before : List TimelineValue) → All (λ (t : TimelineValue). t.value ≤ value_of seen.values t.timeline) before
          → AllZip HasNotFallen before (map (value_shown seen) (map timeline_of before))
      each [] all = tt
      each (t ∷ ts) all =
          (All-head (λ (t : TimelineValue). t.value ≤ value_of seen.values t.timeline) t ts all, each ts (All-tail (λ (t : TimelineValue). t.value ≤ value_of seen.values t.timeline) t ts all))

-- where no value fell, all values that were seen are at most these
no_more : (seen later : Seen) (timelines : List ℕ) (values : List TimelineValue) → Rise seen later → All IsTimeline timelines → map timeline_of values ≡ timelines
    → All (λ (t : TimelineValue). t.value ≤ value_of seen.values t.timeline) values → All (λ (t : TimelineValue). t.value ≤ value_of later.values t.timeline) values
no_more seen later timelines values rise within same all = each values (subst (All IsTimeline) (sym same) within) all
  where
    each : (ts : List TimelineValue) → All IsTimeline (map timeline_of ts) → All (λ (t : TimelineValue). t.value ≤ value_of seen.values t.timeline) ts
        → All (λ (t : TimelineValue). t.value ≤ value_of later.values t.timeline) ts
    each [] within all = All-nil (λ (t : TimelineValue). t.value ≤ value_of later.values t.timeline)
    each (t ∷ ts) within all =
        let is = All-head IsTimeline t.timeline (map timeline_of ts) within in
        let least = All-head (λ (t : TimelineValue). t.value ≤ value_of seen.values t.timeline) t ts all in
        let more = rise t.timeline is.0 is.1 in
        All-cons (λ (t : TimelineValue). t.value ≤ value_of later.values t.timeline) t ts (omega (arith, least, more))
        (each ts (All-tail IsTimeline t.timeline (map timeline_of ts) within) (All-tail (λ (t : TimelineValue). t.value ≤ value_of seen.values t.timeline) t ts all))

-- the values of a vsync are at most these
abbrev IsWithin : Seen → VsyncRecords → Type 0
IsWithin seen vsync = All (λ (t : TimelineValue). t.value ≤ value_of seen.values t.timeline) vsync.timelines

abbrev ShowsAll : SceneValue → VsyncRecords → Type 0
ShowsAll scene vsync = map timeline_of vsync.timelines ≡ rising_timelines scene

all_within_later : (scene : SceneValue) (seen later : Seen) (vsyncs : List VsyncRecords) → Rise seen later → All (ShowsAll scene) vsyncs → All (IsWithin seen) vsyncs → All (IsWithin later) vsyncs
all_within_later scene seen later [] rise shows all = All-nil (IsWithin later)
all_within_later scene seen later (v ∷ vs) rise shows all =
    All-cons (IsWithin later) v vs
    (no_more seen later (rising_timelines scene) v.timelines rise (rise_within scene) (All-head (ShowsAll scene) v vs shows) (All-head (IsWithin seen) v vs all))
    (all_within_later scene seen later vs rise (All-tail (ShowsAll scene) v vs shows) (All-tail (IsWithin seen) v vs all))

all_go_on : (scene : SceneValue) (number : ℕ) (seen : Seen) (report : VsyncRecords) (vsyncs : List VsyncRecords) → number < report.number → report.timelines ≡ map (value_shown seen) (rising_timelines scene)
    → All (ShowsAll scene) vsyncs → All (λ (v : VsyncRecords). v.number ≤ number) vsyncs → All (IsWithin seen) vsyncs → All (λ (v : VsyncRecords). GoesOn v report) vsyncs
all_go_on scene number seen report [] less shown shows numbers values = All-nil (λ (v : VsyncRecords). GoesOn v report)
all_go_on scene number seen report (v ∷ vs) less shown shows numbers values =
    let before = All-head (λ (v : VsyncRecords). v.number ≤ number) v vs numbers in
    All-cons (λ (v : VsyncRecords). GoesOn v report) v vs (
      omega (arith, before, less),
      subst (AllZip HasNotFallen v.timelines) (sym shown)
          (none_fell seen v.timelines (rising_timelines scene) (All-head (ShowsAll scene) v vs shows) (All-head (IsWithin seen) v vs values)),
    )
    (all_go_on scene number seen report vs less shown (All-tail (ShowsAll scene) v vs shows) (All-tail (λ (v : VsyncRecords). v.number ≤ number) v vs numbers) (All-tail (IsWithin seen) v vs values))

module _ (scene : SceneValue) (signals : List (ℕ × ℕ)) where
  pub none_seen : (number : ℕ) (seen : Seen) → HasSeen scene signals [] number seen
  none_seen number seen = record {
    are = record {
      from_1 = All-nil (λ (v : VsyncRecords). 0 < v.number);
      go_on = tt;
      expected = All-nil (λ (v : VsyncRecords). v.expected ≡ v.number * scene.period);
      commit = All-nil (λ (v : VsyncRecords). v.commits ≢ []);
      timelines = All-nil (ShowsAll scene);
      signalled = All-nil (λ (v : VsyncRecords). All (WasSignalled signals) v.timelines);
    };
    numbers = All-nil (λ (v : VsyncRecords). v.number ≤ number);
    values = All-nil (IsWithin seen);
  }

  pub seen_silently : (vsyncs : List VsyncRecords) (number other : ℕ) (seen later : Seen) → HasSeen scene signals vsyncs number seen → number ≤ other → Rise seen later → HasSeen scene signals vsyncs other later
  seen_silently vsyncs number other seen later has least rise = record {
    are = has.are;
    numbers = All-weaker (λ (v : VsyncRecords). v.number ≤ number) (λ (v : VsyncRecords). v.number ≤ other) (λ v most. omega (arith, most, least)) vsyncs has.numbers;
    values = all_within_later scene seen later vsyncs rise has.are.timelines has.values;
  }

  -- something holds of one more
  push : (P : VsyncRecords → Type 0) (vsyncs : List VsyncRecords) (report : VsyncRecords) → All P vsyncs → P report → All P (vsyncs ++ report ∷ [])
  push P vsyncs report all here = All-append P vsyncs (report ∷ []) all (All-cons P report [] here (All-nil P))

  pub seen_more : (vsyncs : List VsyncRecords) (number : ℕ) (seen later : Seen) (report : VsyncRecords) → HasSeen scene signals vsyncs number seen → number < report.number → Rise seen later
      → TellsTime scene signals report later → HasSeen scene signals (vsyncs ++ report ∷ []) report.number later
  seen_more vsyncs number seen later report has less rise tells =
      let on = seen_silently vsyncs number report.number seen later has (omega (arith, less)) rise in
      let within = all_within_later scene seen later vsyncs rise has.are.timelines has.values in
      record {
        are = record {
          from_1 = push (λ (v : VsyncRecords). 0 < v.number) vsyncs report has.are.from_1 tells.from_1;
          go_on = next_more GoesOn vsyncs report has.are.go_on (all_go_on scene number later report vsyncs less tells.shows has.are.timelines has.numbers within);
          expected = push (λ (v : VsyncRecords). v.expected ≡ v.number * scene.period) vsyncs report has.are.expected tells.due;
          commit = push (λ (v : VsyncRecords). v.commits ≢ []) vsyncs report has.are.commit tells.commit;
          timelines = push (ShowsAll scene) vsyncs report has.are.timelines (ap (map timeline_of) tells.shows ∙ timelines_shown later (rising_timelines scene));
          signalled = push (λ (v : VsyncRecords). All (WasSignalled signals) v.timelines) vsyncs report has.are.signalled
              (subst (All (WasSignalled signals)) (sym tells.shows) (all_shown later (WasSignalled signals) (rising_timelines scene)
              (All-weaker IsTimeline (λ n. WasSignalled signals (value_shown later n)) (λ n is. tells.signalled n is.0 is.1) (rising_timelines scene) (rise_within scene))));
        };
        numbers = push (λ (v : VsyncRecords). v.number ≤ report.number) vsyncs report on.numbers (omega arith);
        values = push (IsWithin later) vsyncs report within
            (subst (All (λ (t : TimelineValue). t.value ≤ value_of later.values t.timeline)) (sym tells.shows)
            (all_shown later (λ (t : TimelineValue). t.value ≤ value_of later.values t.timeline) (rising_timelines scene)
            (All-weaker IsTimeline (λ n. value_of later.values n ≤ value_of later.values n) (λ n is. omega arith) (rising_timelines scene) (rise_within scene))));
      }

  pub seen_too : (others : List (ℕ × ℕ)) (vsyncs : List VsyncRecords) (number : ℕ) (seen : Seen) → HasSeen scene signals vsyncs number seen → AreAmong signals others → HasSeen scene others vsyncs number seen
  seen_too others vsyncs number seen has among = record {
    are = record {
      from_1 = has.are.from_1;
      go_on = has.are.go_on;
      expected = has.are.expected;
      commit = has.are.commit;
      timelines = has.are.timelines;
      signalled = All-weaker (λ (v : VsyncRecords). All (WasSignalled signals) v.timelines) (λ (v : VsyncRecords). All (WasSignalled others) v.timelines)
          (λ v all. All-weaker (WasSignalled signals) (WasSignalled others) (λ t was. still t was) v.timelines all) vsyncs has.are.signalled;
    };
    numbers = has.numbers;
    values = has.values;
  }
    where
      still : (t : TimelineValue) → WasSignalled signals t → WasSignalled others t
      still t was = by_test (t.value == 0) was
        where
          by_test : (b : Bool) → (b || list_any (λ (s : ℕ × ℕ). (s.0 == t.timeline) && (s.1 == t.value)) signals) ≡ true
              → (b || list_any (λ (s : ℕ × ℕ). (s.0 == t.timeline) && (s.1 == t.value)) others) ≡ true
          by_test true was = refl
          by_test false was =
              let any = Any-from_list_any (λ (s : ℕ × ℕ). (s.0 == t.timeline) && (s.1 == t.value)) signals was in
              let there = among any.1 (any.0, any.2, any.3) in
              list_any-from_Any (λ (s : ℕ × ℕ). (s.0 == t.timeline) && (s.1 == t.value)) others (there.0, any.1, there.1, there.2, any.4)

-- The values that points reach: of each timeline the greatest; and what a vsync shows of the timelines is what was seen.
use Rattle.std.proofs.Common.{◌≡◌, ℕ, zero, suc, ◌+◌, ◌-◌, ◌<◌, ◌≤◌, max, Bool, true, false, cond, ◌&&◌, ◌||◌, List, [], ◌∷◌, length, map, filter, get_or, set, refl, ap, sym, ◌∙◌, subst, true≢false, arith, inl, inr}
use Rattle.std.specs.Prelude.{◌==◌, ◌⊎◌}
use Rattle.std.specs.List.{All, flat_map, list_any, range_with_len}
use Rattle.std.proofs.lemmas.Bool.{cases_eq, eq-eqb, eqb-true, ne_eqb}
use Rattle.std.proofs.lemmas.List.{ext_get_or, get_or-replicate, get_or-set_other, get_or-set_same, length-set}
use Rattle.std.proofs.lemmas.List.Elements.{All-append, All-cons, All-head, All-nil, All-tail}
use Rattle.std.proofs.lemmas.List.Folds.{list_any-append}
use Rattle.sf_base.specs.Fences.{Fence, no_points, value_of, with_point}
use Rattle.sf_base.specs.Points.{greatest, value_at}
use Rattle.sf_base.specs.declared.fences.Seen.{Seen}
use Rattle.sf_base.proofs.PointLemmas.{value_else, value_here}
use Rattle.sf_script_scene.specs.Scene.{SceneValue}
use Rattle.sf_actor.specs.Points.{reached_by}
use Rattle.sf_actor.specs.Scripts.{with_points}
use Rattle.sf_record.specs.declared.event.VsyncRecords.{VsyncRecords}
use Rattle.law_played.specs.Commits.{point_of, seen_by}
use Rattle.law_played.specs.Seeing.{value_shown}
use Rattle.law_played.specs.Runs.{rising}
use Rattle.law_played.specs.Vsyncs.{rising_timelines}

abbrev IsFrom1 : ℕ × ℕ → Type 0
IsFrom1 p = 1 ≤ p.0

long_with : (fence : Fence) (t v : ℕ) → length fence.values ≡ 64 → length (with_point fence t v).values ≡ 64
unfolding with_point
long_with fence t v long = length-set fence.values (t - 1) (max (value_of fence.values t) v) ∙ long

-- one point more
value_with : (fence : Fence) (u v t : ℕ) → length fence.values ≡ 64 → 1 ≤ u → 1 ≤ t → t ≤ 64
    → value_of (with_point fence u v).values t ≡ max (value_of fence.values t) (value_at t (u, v))
unfolding with_point
value_with fence u v t long from_1 least most = by_place (cases_eq u t)
  where
    by_place : (u ≡ t) ⊎ (u ≡ t → ⊥) → get_or (set fence.values (u - 1) (max (get_or fence.values (u - 1) 0) v)) (t - 1) 0 ≡ max (get_or fence.values (t - 1) 0) (value_at t (u, v))
    by_place (inl same) =
        let here = get_or-set_same fence.values (t - 1) (max (get_or fence.values (t - 1) 0) v) 0 (omega (arith, long, least, most)) in
        subst (λ w. get_or (set fence.values (w - 1) (max (get_or fence.values (w - 1) 0) v)) (t - 1) 0 ≡ max (get_or fence.values (t - 1) 0) (value_at t (w, v))) (sym same)
        (here ∙ ap (λ n. max (get_or fence.values (t - 1) 0) n) (sym (value_here t v)))
    by_place (inr apart) =
        let other = get_or-set_other fence.values (u - 1) (t - 1) (max (get_or fence.values (u - 1) 0) v) 0 (λ e. apart (omega (arith, e, from_1, least))) in
        let none = value_else t u v apart in
        other ∙ omega (arith, none)

-- several
pub values_with : (fence : Fence) (points : List (ℕ × ℕ)) → length fence.values ≡ 64 → All IsFrom1 points
    → (length (with_points fence points).values ≡ 64)
    × ((t : ℕ) → 1 ≤ t → t ≤ 64 → value_of (with_points fence points).values t ≡ max (value_of fence.values t) (greatest t points))
values_with fence [] long all = (long, λ t least most. omega arith)
values_with fence (p ∷ ps) long all =
    let rest = values_with (with_point fence p.0 p.1) ps (long_with fence p.0 p.1 long) (All-tail IsFrom1 p ps all) in (
      rest.0,
      λ t least most.
          let here = value_with fence p.0 p.1 t long (All-head IsFrom1 p ps all) least most in
          let later = rest.1 t least most in
          omega (arith, here, later),
    )

none_there : (t : ℕ) → 1 ≤ t → t ≤ 64 → value_of no_points.values t ≡ 0
unfolding no_points
none_there t least most = get_or-replicate 64 (t - 1) 0 0 (omega arith)

long_none : length no_points.values ≡ 64
unfolding no_points
long_none = refl

-- values that are the greatest of each timeline's points are those that the points reach
pub reached_is : (seen : Seen) (points : List (ℕ × ℕ)) → length seen.values ≡ 64 → All IsFrom1 points → ((t : ℕ) → 1 ≤ t → t ≤ 64 → value_of seen.values t ≡ greatest t points)
    → reached_by (with_points no_points points) ≡ seen
reached_is seen points long from_1 greatest_is =
    let with' = values_with no_points points long_none from_1 in
    let values : (with_points no_points points).values ≡ seen.values =
    ext_get_or 0 (with_points no_points points).values seen.values (with'.0 ∙ sym long)
    (λ i in'.
    let most : i + 1 ≤ 64 = let n = with'.0 in omega (arith, n, in') in
    let least : 1 ≤ i + 1 = omega arith in
    let here = with'.1 (i + 1) least most in
    let none = none_there (i + 1) least most in
    let there = greatest_is (i + 1) least most in
    let at : i + 1 - 1 ≡ i = omega arith in
    subst (λ k. get_or (with_points no_points points).values k 0 ≡ get_or seen.values k 0) at (omega (arith, here, none, there))) in
    λ i. record { values = values i }

-- of timelines with one value each
module _ (value : ℕ → ℕ) where
  greatest_of : (t : ℕ) (timelines : List ℕ) → greatest t (map (λ n. (n, value n)) timelines) ≡ cond (list_any (λ n. n == t) timelines) (value t) 0
  greatest_of t [] = refl
  greatest_of t (n ∷ ns) = by_test (greatest_of t ns) (cases_eq n t)
    where
      more : (b : Bool) → max (value t) (cond b (value t) 0) ≡ value t
      more true = omega arith
      more false = omega arith

      by_test : greatest t (map (λ n. (n, value n)) ns) ≡ cond (list_any (λ n. n == t) ns) (value t) 0 → (n ≡ t) ⊎ (n ≡ t → ⊥)
          → max (value_at t (n, value n)) (greatest t (map (λ n. (n, value n)) ns)) ≡ cond ((n == t) || list_any (λ n. n == t) ns) (value t) 0
      by_test rest (inl same) =
          let here : value_at t (n, value n) ≡ value t = subst (λ m. value_at t (m, value m) ≡ value t) (sym same) (value_here t (value t)) in
          (λ i. max (here i) (rest i)) ∙ (more (list_any (λ n. n == t) ns) ∙ ap (λ b. cond (b || list_any (λ n. n == t) ns) (value t) 0) (sym (eq-eqb n t same)))
      by_test rest (inr apart) =
          let none = value_else t n (value n) apart in
          (λ i. max (none i) (rest i)) ∙ (omega arith ∙ ap (λ b. cond (b || list_any (λ n. n == t) ns) (value t) 0) (sym (ne_eqb n t apart)))

-- which timelines are among those that rise
any_flat : {X Y : Type 0} (p : Y → Bool) (f : X → List Y) (xs : List X) → list_any p (flat_map f xs) ≡ list_any (λ x. list_any p (f x)) xs
any_flat p f [] = refl
any_flat p f (x ∷ xs) = list_any-append p (f x) (flat_map f xs) ∙ ap (λ b. list_any p (f x) || b) (any_flat p f xs)

any_kept : (t n : ℕ) (items : List ℕ) → list_any (λ k. k == t) (filter (λ k. k == n) items) ≡ ((n == t) && list_any (λ k. k == t) items)
any_kept t n [] = by_test (n == t)
  where
    by_test : (b : Bool) → false ≡ (b && false)
    by_test true = refl
    by_test false = refl
any_kept t n (k ∷ ks) = by_tests (any_kept t n ks) (cases_eq k n)
  where
    by_both : (b r : Bool) → (b || (b && r)) ≡ (b && (b || r))
    by_both true r = refl
    by_both false r = refl

    by_apart : (b c r : Bool) → (c ≡ true → b ≡ false) → (b && r) ≡ (b && (c || r))
    by_apart true true r apart = absurd (true≢false (apart refl))
    by_apart true false r apart = refl
    by_apart false c r apart = refl

    by_tests : list_any (λ k. k == t) (filter (λ k. k == n) ks) ≡ ((n == t) && list_any (λ k. k == t) ks) → (k ≡ n) ⊎ (k ≡ n → ⊥)
        → list_any (λ k. k == t) (cond (k == n) (k ∷ filter (λ k. k == n) ks) (filter (λ k. k == n) ks)) ≡ ((n == t) && ((k == t) || list_any (λ k. k == t) ks))
    by_tests rest (inl same) =
        rw (eq-eqb k n same) (ap (λ b. (k == t) || b) rest
        ∙ (ap (λ m. (m == t) || ((n == t) && list_any (λ k. k == t) ks)) same
        ∙ (by_both (n == t) (list_any (λ k. k == t) ks)
        ∙ ap (λ m. (n == t) && ((m == t) || list_any (λ k. k == t) ks)) (sym same))))
    by_tests rest (inr apart) =
        rw (ne_eqb k n apart) (rest ∙ by_apart (n == t) (k == t) (list_any (λ k. k == t) ks) (λ e. ne_eqb n t (λ f. apart (eqb-true k t e ∙ sym f))))

absorbed : (b : Bool) (t : ℕ) (rest : List ℕ) → (b || list_any (λ k. (k == t) && b) rest) ≡ b
absorbed true t rest = refl
absorbed false t [] = refl
absorbed false t (k ∷ ks) = by_test (k == t) (absorbed false t ks)
  where
    by_test : (c : Bool) → list_any (λ k. (k == t) && false) ks ≡ false → ((c && false) || list_any (λ k. (k == t) && false) ks) ≡ false
    by_test true rest = rest
    by_test false rest = rest

any_of_range : (a n t : ℕ) (b : Bool) → a ≤ t → t < a + n → list_any (λ k. (k == t) && b) (range_with_len a n) ≡ b
any_of_range a zero t b least most = absurd (omega (arith, least, most))
any_of_range a (suc n) t b least most = by_place (any_of_range (a + 1) n t b) (cases_eq a t)
  where
    by_place : (a + 1 ≤ t → t < a + 1 + n → list_any (λ k. (k == t) && b) (range_with_len (a + 1) n) ≡ b) → (a ≡ t) ⊎ (a ≡ t → ⊥)
        → (((a == t) && b) || list_any (λ k. (k == t) && b) (range_with_len (a + 1) n)) ≡ b
    by_place rest (inl same) = rw (eq-eqb a t same) (absorbed b t (range_with_len (a + 1) n))
    by_place rest (inr apart) = rw (ne_eqb a t apart) (rest (omega (arith, least, apart)) (omega (arith, most)))

-- a declared timeline is among those that rise
is_among : (t : ℕ) (timelines : List ℕ) → 1 ≤ t → t ≤ 64 → list_any (λ k. k == t) (rising (λ timeline. timeline) 64 timelines) ≡ list_any (λ k. k == t) timelines
is_among t timelines least most =
    any_flat (λ k. k == t) (λ n. filter (λ item. item == n) timelines) (range_with_len 1 64)
    ∙ ((λ i. list_any (λ n. any_kept t n timelines i) (range_with_len 1 64))
    ∙ any_of_range 1 64 t (list_any (λ k. k == t) timelines) least (omega (arith, most)))

-- the timelines that rise have numbers from 1 on
from_1 : (value : ℕ → ℕ) (timelines : List ℕ) → All (λ n. 1 ≤ n) timelines → All IsFrom1 (map (λ n. (n, value n)) timelines)
from_1 value [] all = All-nil IsFrom1
from_1 value (n ∷ ns) all = All-cons IsFrom1 (n, value n) (map (λ n. (n, value n)) ns) (All-head (λ n. 1 ≤ n) n ns all) (from_1 value ns (All-tail (λ n. 1 ≤ n) n ns all))

all_of_number : (n : ℕ) (items : List ℕ) → 1 ≤ n → All (λ k. 1 ≤ k) (filter (λ k. k == n) items)
all_of_number n [] least = All-nil (λ k. 1 ≤ k)
all_of_number n (k ∷ ks) least = by_test (all_of_number n ks least) (k == n) refl
  where
    by_test : All (λ k. 1 ≤ k) (filter (λ k. k == n) ks) → (b : Bool) → (k == n) ≡ b → All (λ k. 1 ≤ k) (cond b (k ∷ filter (λ k. k == n) ks) (filter (λ k. k == n) ks))
    by_test rest true e = All-cons (λ k. 1 ≤ k) k (filter (λ k. k == n) ks) (let same = eqb-true k n e in omega (arith, same, least)) rest
    by_test rest false e = rest

all_from_1 : (a n : ℕ) (items : List ℕ) → 1 ≤ a → All (λ k. 1 ≤ k) (flat_map (λ m. filter (λ k. k == m) items) (range_with_len a n))
all_from_1 a zero items least = All-nil (λ k. 1 ≤ k)
all_from_1 a (suc n) items least =
    All-append (λ k. 1 ≤ k) (filter (λ k. k == a) items) (flat_map (λ m. filter (λ k. k == m) items) (range_with_len (a + 1) n)) (all_of_number a items least)
    (all_from_1 (a + 1) n items (omega arith))

points_shown : (seen : Seen) (timelines : List ℕ) → map point_of (map (value_shown seen) timelines) ≡ map (λ n. (n, value_of seen.values n)) timelines
points_shown seen [] = refl
points_shown seen (n ∷ ns) = ap (λ rest. (n, value_of seen.values n) ∷ rest) (points_shown seen ns)

pub seen_is : (scene : SceneValue) (seen : Seen) (vsync : VsyncRecords) → length seen.values ≡ 64 → vsync.timelines ≡ map (value_shown seen) (rising_timelines scene)
    → ((t : ℕ) → 1 ≤ t → t ≤ 64 → list_any (λ k. k == t) scene.timelines ≡ false → value_of seen.values t ≡ 0) → seen_by vsync ≡ seen
unfolding rising_timelines
seen_is scene seen vsync long shown undeclared =
    let rises = rising (λ timeline. timeline) 64 scene.timelines in
    ap (λ points. reached_by (with_points no_points points)) (ap (map point_of) shown ∙ points_shown seen rises)
    ∙ reached_is seen (map (λ n. (n, value_of seen.values n)) rises) long (from_1 (value_of seen.values) rises (all_from_1 1 64 scene.timelines (omega arith)))
    (λ t least most. by_test t least most (list_any (λ k. k == t) scene.timelines) refl
    ∙ sym (greatest_of (value_of seen.values) t rises ∙ ap (λ b. cond b (value_of seen.values t) 0) (is_among t scene.timelines least most)))
  where
    by_test : (t : ℕ) → 1 ≤ t → t ≤ 64 → (b : Bool) → list_any (λ k. k == t) scene.timelines ≡ b → value_of seen.values t ≡ cond (list_any (λ k. k == t) scene.timelines) (value_of seen.values t) 0
    by_test t least most true e = rw e refl
    by_test t least most false e = undeclared t least most e ∙ sym (ap (λ b. cond b (value_of seen.values t) 0) e)

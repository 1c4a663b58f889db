-- Rectangles that don't meet share no point, and one that has another has its points.
use Rattle.std.proofs.Common.{◌≡◌, ℕ, ℤ, Bool, true, false, not, ◌&&◌, ◌||◌, List, [], ◌∷◌, refl, ap, sym, ◌∙◌, arith, inl, inr}
use Rattle.std.specs.List.{filter, list_all, list_any}
use Rattle.std.proofs.lemmas.Bool.{and_from, and_parts, both_ways, false≢true, or_cases, or_left, or_right}
use Rattle.std.proofs.lemmas.Bool.Decides.{nat_tests}
use Rattle.std.proofs.lemmas.Int.{ints}
use Rattle.sf_base.specs.Geometry.{covers, is_within}
use Rattle.sf_base.specs.declared.geometry.Rect.{Rect}
use Rattle.sf_region.specs.Points.{has}
use Rattle.sf_damage.specs.inner.Meeting.{meets, rect_has, span_has, spans_meet}

span_point : (start other at : ℤ) (extent many : ℕ) → is_within start extent at ≡ true → is_within other many at ≡ true → spans_meet start extent other many ≡ true
span_point start other at extent many a b = grind (arith, ints, nat_tests)

pub rects_point : (r q : Rect) (x y : ℤ) → covers r x y ≡ true → covers q x y ≡ true → meets r q ≡ true
unfolding covers
rects_point r q x y a b =
    let one = and_parts (is_within r.x r.width x) _ a in
    let other = and_parts (is_within q.x q.width x) _ b in
    and_from (spans_meet r.x r.width q.x q.width) _ (span_point r.x q.x x r.width q.width one.0 other.0) (span_point r.y q.y y r.height q.height one.1 other.1)

region_point : (rs : List Rect) (q : Rect) (x y : ℤ) → has rs x y ≡ true → covers q x y ≡ true → list_any (λ part. meets part q) rs ≡ true
region_point [] q x y a b = absurd (false≢true a)
region_point (r ∷ rs) q x y a b = elim (or_cases (covers r x y) (has rs x y) a) [
  | inl here ↦ or_left (meets r q) (list_any (λ part. meets part q) rs) (rects_point r q x y here b)
  | inr later ↦ or_right (meets r q) (list_any (λ part. meets part q) rs) (region_point rs q x y later b)
]

filter_points : (rs : List Rect) (q : Rect) (x y : ℤ) → covers q x y ≡ true → has (filter (λ r. meets r q) rs) x y ≡ has rs x y
filter_points [] q x y here = refl
filter_points (r ∷ rs) q x y here = by_test (meets r q) (covers r x y) refl refl (filter_points rs q x y here)
  where
    by_test : (m c : Bool) → meets r q ≡ m → covers r x y ≡ c → has (filter (λ s. meets s q) rs) x y ≡ has rs x y → has (filter (λ s. meets s q) (r ∷ rs)) x y ≡ has (r ∷ rs) x y
    by_test true c e f rest = rw e (ap (λ h. covers r x y || h) rest)
    by_test false false e f rest = rw (e, f) rest
    by_test false true e f rest = absurd (false≢true (sym e ∙ rects_point r q x y f here))

-- of what hides a rectangle only those that it meets count
pub left_points : (rs met : List Rect) (q : Rect) → met ≡ filter (λ r. meets r q) rs → (x y : ℤ) → (covers q x y && not (has met x y)) ≡ (covers q x y && not (has rs x y))
left_points rs met q is x y = by_test (covers q x y) refl
  where
    by_test : (c : Bool) → covers q x y ≡ c → (covers q x y && not (has met x y)) ≡ (covers q x y && not (has rs x y))
    by_test true e = rw is (ap (λ h. covers q x y && not h) (filter_points rs q x y e))
    by_test false e = rw e refl

by_points : (h c : Bool) → (h ≡ true → c ≡ true → ⊥) → (false ≡ (h && c)) × (h ≡ (h && not c)) × (c ≡ (c && not h))
by_points true true apart = absurd (apart refl refl)
by_points true false apart = (refl, refl, refl)
by_points false true apart = (refl, refl, refl)
by_points false false apart = (refl, refl, refl)

-- a rectangle that a region does not meet has none of its points
pub apart_points : (rs : List Rect) (q : Rect) (b : Bool) → b ≡ list_any (λ part. meets part q) rs → b ≡ false → (x y : ℤ) → (false ≡ (has rs x y && covers q x y)) × (has rs x y ≡ (has rs x y && not (covers q x y))) × (covers q x y ≡ (covers q x y && not (has rs x y)))
apart_points rs q b is lacks x y = by_points (has rs x y) (covers q x y) (λ h c. both_ways b lacks (is ∙ region_point rs q x y h c))

span_more : (start other at : ℤ) (extent many : ℕ) → span_has start extent other many ≡ true → is_within other many at ≡ true → is_within start extent at ≡ true
span_more start other at extent many a b = grind (arith, ints, nat_tests)

-- a rectangle that has all of another has each of its points
pub rect_more : (r q : Rect) (x y : ℤ) → rect_has r q ≡ true → covers q x y ≡ true → covers r x y ≡ true
unfolding covers
rect_more r q x y a b =
    let whole = and_parts (span_has r.x r.width q.x q.width) _ a in
    let point = and_parts (is_within q.x q.width x) _ b in
    and_from (is_within r.x r.width x) _ (span_more r.x q.x x r.width q.width whole.0 point.0) (span_more r.y q.y y r.height q.height whole.1 point.1)

all_more : (q : Rect) (rs : List Rect) (x y : ℤ) → list_all (λ part. rect_has q part) rs ≡ true → has rs x y ≡ true → covers q x y ≡ true
all_more q [] x y a b = absurd (false≢true b)
all_more q (r ∷ rs) x y a b =
    let parts = and_parts (rect_has q r) _ a in
    elim (or_cases (covers r x y) (has rs x y) b) [
      | inl here ↦ rect_more q r x y parts.0 here
      | inr later ↦ all_more q rs x y parts.1 later
    ]

by_whole : (h c : Bool) → (h ≡ true → c ≡ true) → (h ≡ (h && c)) × (false ≡ (h && not c))
by_whole true true within = (refl, refl)
by_whole true false within = absurd (false≢true (within refl))
by_whole false c within = (refl, refl)

-- a rectangle that has all rectangles of a region leaves nothing of it
pub whole_points : (rs : List Rect) (q : Rect) (b : Bool) → b ≡ list_all (λ part. rect_has q part) rs → b ≡ true → (x y : ℤ) → (has rs x y ≡ (has rs x y && covers q x y)) × (false ≡ (has rs x y && not (covers q x y)))
whole_points rs q b is whole x y = by_whole (has rs x y) (covers q x y) (λ h. all_more q rs x y (sym is ∙ whole) h)

-- rectangles of which one has all of a window have each of its points
pub one_more : (rs : List Rect) (w : Rect) (x y : ℤ) → list_any (λ r. rect_has r w) rs ≡ true → covers w x y ≡ true → has rs x y ≡ true
one_more [] w x y a b = absurd (false≢true a)
one_more (r ∷ rs) w x y a b = elim (or_cases (rect_has r w) (list_any (λ s. rect_has s w) rs) a) [
  | inl here ↦ or_left (covers r x y) (has rs x y) (rect_more r w x y here b)
  | inr later ↦ or_right (covers r x y) (has rs x y) (one_more rs w x y later b)
]

-- A rectangle of which another that shares a point with it is taken away.
use Rattle.std.proofs.Common.{◌≡◌, ◌≢◌, ℕ, ◌<◌, ◌≤◌, List, [], ◌∷◌, ◌++◌, refl, sym, ◌∙◌, ap, append_assoc, arith, ⊎_elim, Bool, true, false}
use Rattle.std.specs.Prelude.{◌&&◌, ◌||◌, not, nat_le, nat_lt, min, max, if◌then◌else◌}
use Rattle.std.proofs.lemmas.Bool.{le-ltb, lt-ltb, or_from, cases_lt, false≢true}
use Rattle.std.proofs.lemmas.Bool.Decides.{nat_tests}
use Rattle.sf_base.specs.declared.geometry.Rect.{Rect}
use Rattle.sf_region.specs.Edges.{left, right, top, bottom, first_offset, past_all}
use Rattle.sf_region.specs.Spans.{on, row, rect_of, rects_of, span_between, IsSpread}
use Rattle.sf_region.specs.Canonical.{IsCanonical, IsFull}
use Rattle.sf_region.specs.inner.Bands.{AreMet, IsBuilt, band_between}
use Rattle.sf_region.specs.declared.spans.Span.{Span}
use Rattle.sf_region.proofs.SpanLemmas.{span_before, span_after, span_in, or_false, on-append}
use Rattle.sf_region.proofs.RowLemmas.{full_left, full_right, full_top, full_bottom, row-append, row_done}
use Rattle.sf_region.proofs.BandLemmas.{built_all, built_turn, ends_rects, from_first, row_rects_above, row_rects_in}

no_rects : (xs : List Rect) → xs ++ [] ≡ xs
no_rects [] = refl
no_rects (x ∷ xs) = ap (λ z. x ∷ z) (no_rects xs)

-- spans between offsets

on_between : (a b x : ℕ) → on (span_between a b) x ≡ (nat_le a x && nat_lt x b)
on_between a b x = ⊎_elim
    (λ (some : a < b). rw (lt-ltb a b some) (or_false (nat_le a x && nat_lt x b)))
    (λ (none : b ≤ a). rw (le-ltb a b none) (⊎_elim
    (λ (low : x < a). sym (span_before a b x low))
    (λ (high : a ≤ x). sym (span_after a b x (omega (arith, none, high))))
    (cases_lt x a)))
    (cases_lt a b)

spread_between : (a b : ℕ) → first_offset ≤ a → b ≤ past_all → IsSpread (span_between a b)
spread_between a b from to = ⊎_elim
    (λ (some : a < b). rw (lt-ltb a b some) (record { from = from; some = some; to = to }, tt, tt))
    (λ (none : b ≤ a). rw (le-ltb a b none) tt)
    (cases_lt a b)

-- the spans beside a gap
sides : ℕ → ℕ → ℕ → ℕ → List Span
sides l s e r = span_between l s ++ span_between e r

on_sides : (l s e r x : ℕ) → on (sides l s e r) x ≡ ((nat_le l x && nat_lt x s) || (nat_le e x && nat_lt x r))
unfolding sides
on_sides l s e r x = on-append (span_between l s) (span_between e r) x ∙ rw (on_between l s x, on_between e r x) refl

spread_sides : (l s e r : ℕ) → first_offset ≤ l → l ≤ s → s < e → e ≤ r → r ≤ past_all → IsSpread (sides l s e r)
unfolding sides
spread_sides l s e r from low gap high to = ⊎_elim
    (λ (some : l < s). ⊎_elim
    (λ (more : e < r). rw (lt-ltb l s some, lt-ltb e r more) (record { from = from; some = some; to = omega (arith, gap, high, to) }, (gap, tt), (record { from = omega (arith, from, low, gap); some = more; to = to }, tt, tt)))
    (λ (no_more : r ≤ e). rw (lt-ltb l s some, le-ltb e r no_more) (record { from = from; some = some; to = omega (arith, gap, high, to) }, tt, tt))
    (cases_lt e r))
    (λ (none : s ≤ l). rw (le-ltb l s none) (⊎_elim
    (λ (more : e < r). rw (lt-ltb e r more) (record { from = omega (arith, from, low, gap); some = more; to = to }, tt, tt))
    (λ (no_more : r ≤ e). rw (le-ltb e r no_more) tt)
    (cases_lt e r)))
    (cases_lt l s)

-- they are not the whole span: the gap is missing
sides_differ : (l s e r : ℕ) → l ≤ s → s < e → e ≤ r → sides l s e r ≢ span_between l r
sides_differ l s e r low gap high = λ same.
    let out : on (sides l s e r) s ≡ false = on_sides l s e r s ∙ or_from _ _ (span_after l s s (omega arith)) (span_before e r s gap) in
    let in_it : on (span_between l r) s ≡ true = on_between l r s ∙ span_in l r s low (omega (arith, gap, high)) in
    false≢true (sym out ∙ (ap (λ ss. on ss s) same ∙ in_it))

-- bands between heights

band_some : (ss : List Span) (p q : ℕ) → p < q → band_between ss p q ≡ rects_of ss p q
band_some ss p q h = rw (lt-ltb p q h) refl

band_none : (ss : List Span) (p q : ℕ) → q ≤ p → band_between ss p q ≡ []
band_none ss p q h = rw (le-ltb p q h) refl

rects_of-append : (xs ys : List Span) (t b : ℕ) → rects_of (xs ++ ys) t b ≡ rects_of xs t b ++ rects_of ys t b
rects_of-append [] ys t b = refl
rects_of-append (x ∷ xs) ys t b = ap (λ z. rect_of x t b ∷ z) (rects_of-append xs ys t b)

on_band : (ss : List Span) (p q x y : ℕ) → IsSpread ss → on (row (band_between ss p q) y) x ≡ ((nat_le p y && nat_lt y q) && on ss x)
on_band ss p q x y spread = ⊎_elim
    (λ (low : y < p). rw (span_before p q y low) (⊎_elim
    (λ (some : p < q). rw (band_some ss p q some, row_rects_above ss p q y low) refl)
    (λ (none : q ≤ p). rw (band_none ss p q none) refl)
    (cases_lt p q)))
    (λ (high : p ≤ y). ⊎_elim
    (λ (in_it : y < q). rw (span_in p q y high in_it, band_some ss p q (omega (arith, high, in_it)), row_rects_in ss p q y spread high in_it) refl)
    (λ (past : q ≤ y). rw (span_after p q y past) (⊎_elim
    (λ (some : p < q). rw (band_some ss p q some, row_done q (rects_of ss p q) y (ends_rects ss p q (omega (arith, some))) past) refl)
    (λ (none : q ≤ p). rw (band_none ss p q none) refl)
    (cases_lt p q)))
    (cases_lt y q))
    (cases_lt y p)

-- one rectangle
on_one : (r : Rect) (x y : ℕ) → on (row (r ∷ []) y) x ≡ ((nat_le (top r) y && nat_lt y (bottom r)) && (nat_le (left r) x && nat_lt x (right r)))
on_one r x y = by_test (nat_le (top r) y && nat_lt y (bottom r))
  where
    by_test : (c : Bool) → on (if c then record { start = left r; end = right r } ∷ [] else []) x ≡ (c && (nat_le (left r) x && nat_lt x (right r)))
    by_test true = or_false (nat_le (left r) x && nat_lt x (right r))
    by_test false = refl

-- what is left, in the order in which it is built
abbrev pub left_beside : (l r t b s e u d : ℕ) → List Rect
left_beside l r t b s e u d = ((band_between (span_between l r) t u ++ band_between (span_between l s) u d) ++ band_between (span_between e r) u d) ++ band_between (span_between l r) d b

built_open : (now : List Span) (from : ℕ) → IsSpread now → first_offset ≤ from → IsBuilt [] now from
built_open now from spread h = record { banded = tt; done = tt; spread = spread; began = from_first now from h; differ = tt }

middle : (l s e r u d : ℕ) (above : List Rect) → u < d → (above ++ band_between (span_between l s) u d) ++ band_between (span_between e r) u d ≡ above ++ rects_of (sides l s e r) u d
unfolding sides
middle l s e r u d above some =
    rw (band_some (span_between l s) u d some, band_some (span_between e r) u d some, rects_of-append (span_between l s) (span_between e r) u d)
    (append_assoc above (rects_of (span_between l s) u d) (rects_of (span_between e r) u d))

left_canonical : (l r t b s e u d : ℕ) → first_offset ≤ l → l ≤ s → s < e → e ≤ r → r ≤ past_all → first_offset ≤ t → t ≤ u → u < d → d ≤ b → b ≤ past_all → IsCanonical (left_beside l r t b s e u d)
left_canonical l r t b s e u d from low gap high to first upper some lower last =
    let whole : List Span = span_between l r in
    let beside : List Span = sides l s e r in
    let above : List Rect = band_between whole t u in
    let spread : IsSpread whole = spread_between l r from to in
    let spread_beside : IsSpread beside = spread_sides l s e r from low gap high to in
    let built : IsBuilt above beside u = ⊎_elim
    (λ (more : t < u). rw (band_some whole t u more) (built_turn [] whole beside t u (built_open whole t spread first) more (omega (arith, first, upper)) (omega (arith, some, lower, last)) spread_beside (sides_differ l s e r low gap high)))
    (λ (none : u ≤ t). rw (band_none whole t u none) (built_open beside u spread_beside (omega (arith, first, upper))))
    (cases_lt t u) in
    rw (middle l s e r u d above some) (⊎_elim
    (λ (more : d < b). rw (band_some whole d b more)
    (built_all (above ++ rects_of beside u d) whole d b
    (built_turn above beside whole u d built some (omega (arith, first, upper, some)) (omega (arith, lower, last)) spread (λ same. sides_differ l s e r low gap high (sym same))) more last))
    (λ (none : b ≤ d). rw (band_none whole d b none, no_rects (above ++ rects_of beside u d)) (built_all above beside u d built some (omega (arith, lower, last))))
    (cases_lt d b))

on_left : (l r t b s e u d x y : ℕ) → first_offset ≤ l → s ≤ past_all → first_offset ≤ e → r ≤ past_all → on (row (left_beside l r t b s e u d) y) x
    ≡ (((((nat_le t y && nat_lt y u) && (nat_le l x && nat_lt x r)) || ((nat_le u y && nat_lt y d) && (nat_le l x && nat_lt x s))) || ((nat_le u y && nat_lt y d) && (nat_le e x && nat_lt x r))) || ((nat_le d y && nat_lt y b) && (nat_le l x && nat_lt x r)))
on_left l r t b s e u d x y from a c to =
    let w = span_between l r in
    let o = band_between w t u in
    let p = band_between (span_between l s) u d in
    let q = band_between (span_between e r) u d in
    let z = band_between w d b in
    rw (
      row-append ((o ++ p) ++ q) z y,
      row-append (o ++ p) q y,
      row-append o p y,
      on-append ((row o y ++ row p y) ++ row q y) (row z y) x,
      on-append (row o y ++ row p y) (row q y) x,
      on-append (row o y) (row p y) x,
      on_band w t u x y (spread_between l r from to),
      on_band (span_between l s) u d x y (spread_between l s from a),
      on_band (span_between e r) u d x y (spread_between e r c to),
      on_band w d b x y (spread_between l r from to),
      on_between l r x,
      on_between l s x,
      on_between e r x,
    ) refl

tests : (l r t b gl gr gt gb s e u d x y : ℕ) → s ≡ max gl l → e ≡ min gr r → u ≡ max gt t → d ≡ min gb b → s < e → u < d
    → (((((nat_le t y && nat_lt y u) && (nat_le l x && nat_lt x r)) || ((nat_le u y && nat_lt y d) && (nat_le l x && nat_lt x s))) || ((nat_le u y && nat_lt y d) && (nat_le e x && nat_lt x r))) || ((nat_le d y && nat_lt y b) && (nat_le l x && nat_lt x r)))
    ≡ (((nat_le t y && nat_lt y b) && (nat_le l x && nat_lt x r)) && not ((nat_le gt y && nat_lt y gb) && (nat_le gl x && nat_lt x gr)))
tests l r t b gl gr gt gb s e u d x y is_s is_e is_u is_d wide high = grind (arith, nat_tests)

-- the clipped edges of the hole, and what is left around it
pub record IsLeft (r h : Rect) (s e u d : ℕ) (rects : List Rect) : Type 0 where
  pub start : s ≡ max (left h) (left r)
  pub end : e ≡ min (right h) (right r)
  pub upper : u ≡ max (top h) (top r)
  pub lower : d ≡ min (bottom h) (bottom r)
  pub is : rects ≡ left_beside (left r) (right r) (top r) (bottom r) s e u d

pub is_left : (r h : Rect) (span gap : Span) (t b ht hb s e u d : ℕ) (none one two three all : List Rect)
    → span ≡ record { start = left r; end = right r } → gap ≡ record { start = left h; end = right h } → t ≡ top r → b ≡ bottom r → ht ≡ top h → hb ≡ bottom h
    → s ≡ max gap.start span.start → e ≡ min gap.end span.end → u ≡ max ht t → d ≡ min hb b
    → none ≡ [] → one ≡ none ++ band_between (span_between span.start span.end) t u → two ≡ one ++ band_between (span_between span.start s) u d
    → three ≡ two ++ band_between (span_between e span.end) u d → all ≡ three ++ band_between (span_between span.start span.end) d b
    → IsLeft r h s e u d all
is_left r h span gap t b ht hb s e u d none one two three all is_span is_gap is_t is_b is_ht is_hb is_s is_e is_u is_d is_none is_one is_two is_three is_all = record {
  start = rw (is_gap, is_span) at is_s;
  end = rw (is_gap, is_span) at is_e;
  upper = rw (is_ht, is_t) at is_u;
  lower = rw (is_hb, is_b) at is_d;
  is = rw (is_all, is_three, is_two, is_one, is_none, is_span, is_t, is_b) refl;
}

pub hole_canonical : (r h : Rect) (s e u d : ℕ) (rects : List Rect) → IsFull r → IsFull h → AreMet r h → IsLeft r h s e u d rects → IsCanonical rects
hole_canonical r h s e u d rects full hole met is =
    let rl = full_left r full in
    let rr = full_right r full in
    let rt = full_top r full in
    let rb = full_bottom r full in
    rw is.is (left_canonical (left r) (right r) (top r) (bottom r) s e u d rl
    (omega (arith, is.start)) (omega (arith, is.start, is.end, met.before, met.after, full.wide, hole.wide)) (omega (arith, is.end)) rr rt
    (omega (arith, is.upper)) (omega (arith, is.upper, is.lower, met.above, met.below, full.high, hole.high)) (omega (arith, is.lower)) rb)

pub hole_kept : (r h : Rect) (s e u d : ℕ) (rects : List Rect) → IsFull r → IsFull h → AreMet r h → IsLeft r h s e u d rects
    → (x y : ℕ) → on (row rects y) x ≡ (on (row (r ∷ []) y) x && not (on (row (h ∷ []) y) x))
hole_kept r h s e u d rects full hole met is x y =
    let rl = full_left r full in
    let rr = full_right r full in
    let hl = full_left h hole in
    rw (is.is, on_one r x y, on_one h x y)
    (on_left (left r) (right r) (top r) (bottom r) s e u d x y rl
    (omega (arith, is.start, rr, full.wide, met.after, hole.wide)) (omega (arith, is.end, rl, hl, full.wide, hole.wide)) rr
    ∙ tests (left r) (right r) (top r) (bottom r) (left h) (right h) (top h) (bottom h) s e u d x y is.start is.end is.upper is.lower
    (omega (arith, is.start, is.end, met.before, met.after, full.wide, hole.wide)) (omega (arith, is.upper, is.lower, met.above, met.below, full.high, hole.high)))

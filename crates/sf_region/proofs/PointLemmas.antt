-- Points of regions, and offsets in rows.
use Rattle.std.proofs.Common.{◌≡◌, ℕ, zero, suc, ◌+◌, ◌-◌, ◌<◌, ◌≤◌, List, [], ◌∷◌, ◌++◌, refl, sym, ◌∙◌, ap, append_assoc, arith, ⊎_elim, Bool, true, false}
use Rattle.std.specs.Prelude.{◌&&◌, ◌||◌, nat_le, nat_lt, int_le, int_lt, ℤ, pos, negsuc, ◌+ℤ◌, ◌≤ℤ◌, ◌<ℤ◌, ◌⊎◌, length}
use Rattle.std.proofs.lemmas.Bool.{lt-leb, le-leb, le-ltb, lt-ltb, and_left, and_right, and_parts, ltb-true, cases_lt}
use Rattle.std.proofs.lemmas.Int.{ints, by_lt_z}
use Rattle.std.specs.Prelude.{slice_index_or, take}
use Rattle.sf_base.specs.declared.geometry.Rect.{Rect}
use Rattle.sf_region.specs.Edges.{offset, left, right, top, bottom}
use Rattle.sf_base.specs.Geometry.{covers}
use Rattle.sf_region.specs.Points.{has, IsInBounds, neg_far}
use Rattle.sf_region.specs.Spans.{on, keeps, row, rect_of, rects_of, IsProper, IsSpread}
use Rattle.sf_region.specs.Canonical.{IsFull, IsBanded, IsCanonical, IsDisjoint}
use Rattle.sf_region.specs.declared.spans.Span.{Span}
use Rattle.sf_region.specs.declared.combine.Combine.{Combine}
use Rattle.sf_region.proofs.SpanLemmas.{span_in, span_before, span_after, on_after}
use Rattle.sf_region.proofs.RowLemmas.{row_in, row_above, row_below, after_row}
use Rattle.sf_region.proofs.BandLemmas.{no_span, rects_of-snoc}
use Rattle.std.proofs.lemmas.List.{take_more}

-- offsets keep the order of coordinates
offset_less : (x z : ℤ) → neg_far ≤ℤ z → x <ℤ z → offset x < offset z
offset_less (pos m) (pos n) h g = omega (arith, ints, h, g)
offset_less (pos m) (negsuc n) h g = absurd (omega (arith, ints, h, g))
offset_less (negsuc m) (pos n) h g = omega (arith, ints, h, g)
offset_less (negsuc m) (negsuc n) h g = omega (arith, ints, h, g)

offset_most : (z x : ℤ) → neg_far ≤ℤ z → z ≤ℤ x → offset z ≤ offset x
offset_most (pos m) (pos n) h g = omega (arith, ints, h, g)
offset_most (pos m) (negsuc n) h g = absurd (omega (arith, ints, h, g))
offset_most (negsuc m) (pos n) h g = omega (arith, ints, h, g)
offset_most (negsuc m) (negsuc n) h g = omega (arith, ints, h, g)

offset_plus : (z : ℤ) (n : ℕ) → neg_far ≤ℤ z → offset (z +ℤ pos n) ≡ offset z + n
offset_plus (pos m) n h = omega (arith, ints, h)
offset_plus (negsuc m) n h = ⊎_elim
    (λ (low : n < m + 1).
    let e : negsuc m +ℤ pos n ≡ negsuc (m - n) = omega (arith, ints, low) in
    rw e (omega (arith, ints, h, low)))
    (λ (high : m + 1 ≤ n).
    let e : negsuc m +ℤ pos n ≡ pos (n - (m + 1)) = omega (arith, ints, high) in
    rw e (omega (arith, ints, h, high)))
    (cases_lt n (m + 1))

pub le_true : (z x : ℤ) → z ≤ℤ x → int_le z x ≡ true
le_true z x h = grind (arith, ints)

pub le_false : (z x : ℤ) → x <ℤ z → int_le z x ≡ false
le_false z x h = grind (arith, ints)

pub lt_true : (x z : ℤ) → x <ℤ z → int_lt x z ≡ true
lt_true x z h = grind (arith, ints)

pub lt_false : (x z : ℤ) → z ≤ℤ x → int_lt x z ≡ false
lt_false x z h = grind (arith, ints)

le_offset : (z x : ℤ) → neg_far ≤ℤ z → int_le z x ≡ nat_le (offset z) (offset x)
le_offset z x h = by_lt_z x z
    (λ (less : x <ℤ z). le_false z x less ∙ sym (lt-leb (offset z) (offset x) (offset_less x z h less)))
    (λ (most : z ≤ℤ x). le_true z x most ∙ sym (le-leb (offset z) (offset x) (offset_most z x h most)))

lt_offset : (x z : ℤ) → neg_far ≤ℤ z → int_lt x z ≡ nat_lt (offset x) (offset z)
lt_offset x z h = by_lt_z x z
    (λ (less : x <ℤ z). lt_true x z less ∙ sym (lt-ltb (offset x) (offset z) (offset_less x z h less)))
    (λ (most : z ≤ℤ x). lt_false x z most ∙ sym (le-ltb (offset x) (offset z) (offset_most z x h most)))

more_far : (z : ℤ) (n : ℕ) → neg_far ≤ℤ z → neg_far ≤ℤ (z +ℤ pos n)
more_far z n h = omega (arith, ints, h)

within_offset : (z x : ℤ) (n : ℕ) → neg_far ≤ℤ z → (int_le z x && int_lt x (z +ℤ pos n)) ≡ (nat_le (offset z) (offset x) && nat_lt (offset x) (offset z + n))
within_offset z x n h = rw (le_offset z x h, lt_offset x (z +ℤ pos n) (more_far z n h), offset_plus z n h) refl

pub covers_is : (r : Rect) (x y : ℤ) → IsInBounds r → covers r x y ≡ ((nat_le (left r) (offset x) && nat_lt (offset x) (right r)) && (nat_le (top r) (offset y) && nat_lt (offset y) (bottom r)))
unfolding covers left right top bottom
covers_is r x y near = rw (within_offset r.x x r.width near.left, within_offset r.y y r.height near.top) refl

and_true : (b : Bool) → (b && true) ≡ b
and_true true = refl
and_true false = refl

-- a point is in a region where its column is in its row's spans
pub has_is : (rs : List Rect) (x y : ℤ) → IsBanded rs → has rs x y ≡ on (row rs (offset y)) (offset x)
has_is [] x y b = refl
has_is (r ∷ rs) x y b =
    let wide : Bool = nat_le (left r) (offset x) && nat_lt (offset x) (right r) in
    let tall : Bool = nat_le (top r) (offset y) && nat_lt (offset y) (bottom r) in
    let is : covers r x y ≡ (wide && tall) = covers_is r x y b.0.near in
    let rest : has rs x y ≡ on (row rs (offset y)) (offset x) = has_is rs x y b.2 in
    ⊎_elim
    (λ (low : offset y < top r).
    let none : covers r x y ≡ false = is ∙ and_right wide tall (span_before (top r) (bottom r) (offset y) low) in
    ap (λ z. z || has rs x y) none ∙ (rest ∙ ap (λ z. on z (offset x)) (sym (row_above r rs (offset y) low))))
    (λ (high : top r ≤ offset y). ⊎_elim
    (λ (in_it : offset y < bottom r).
    let all : covers r x y ≡ wide = is ∙ (ap (λ z. wide && z) (span_in (top r) (bottom r) (offset y) high in_it) ∙ and_true wide) in
    ap (λ z. z || has rs x y) all ∙ (ap (λ z. wide || z) rest ∙ ap (λ z. on z (offset x)) (sym (row_in r rs (offset y) high in_it))))
    (λ (past : bottom r ≤ offset y).
    let none : covers r x y ≡ false = is ∙ and_right wide tall (span_after (top r) (bottom r) (offset y) past) in
    ap (λ z. z || has rs x y) none ∙ (rest ∙ ap (λ z. on z (offset x)) (sym (row_below r rs (offset y) past))))
    (cases_lt (offset y) (bottom r)))
    (cases_lt (offset y) (top r))

pub combined_points : (how : Combine) (out first second : List Rect) → IsBanded out → IsBanded first → IsBanded second
    → ((x y : ℕ) → on (row out y) x ≡ keeps how (on (row first y) x) (on (row second y) x))
    → (x y : ℤ) → has out x y ≡ keeps how (has first x y) (has second x y)
combined_points how out first second a b c is x y =
    has_is out x y a ∙ (is (offset x) (offset y) ∙ rw (has_is first x y b, has_is second x y c) refl)

-- one rectangle
is_full : (r : Rect) → IsInBounds r → 0 < r.width → 0 < r.height → IsFull r
unfolding left right top bottom
is_full r near wide high = record { near = near; wide = omega (arith, wide); high = omega (arith, high) }

pub one_canonical : (r : Rect) → IsInBounds r → 0 < r.width → 0 < r.height → IsCanonical (r ∷ [])
one_canonical r near wide high =
    let full = is_full r near wide high in
    record {
      banded = (full, tt, tt);
      changes = ((λ e. no_span _ _ (sym (row_below r [] (bottom r) (omega arith)) ∙ (e ∙ row_in r [] (top r) (omega arith) full.high))), tt);
    }

none_within : (z x : ℤ) → (int_le z x && int_lt x (z +ℤ pos 0)) ≡ false
none_within z x = by_lt_z x z
    (λ (less : x <ℤ z). and_left _ _ (le_false z x less))
    (λ (most : z ≤ℤ x). and_right _ _ (lt_false x (z +ℤ pos 0) (omega (arith, ints, most))))

pub covers_none : (r : Rect) (x y : ℤ) → (r.width ≡ 0) ⊎ (r.height ≡ 0) → covers r x y ≡ false
unfolding covers
covers_none r x y h = ⊎_elim
    (λ (narrow : r.width ≡ 0). rw narrow (and_left _ _ (none_within r.x x)))
    (λ (low : r.height ≡ 0). rw low (and_right _ _ (none_within r.y y)))
    h

or_none : (b : Bool) → (b || false) ≡ b
or_none true = refl
or_none false = refl

pub has_one : (r : Rect) (x y : ℤ) → has (r ∷ []) x y ≡ covers r x y
has_one r x y = or_none (covers r x y)

-- a span among spread ones
pub proper_at : (ss : List Span) (k : ℕ) (d : Span) → IsSpread ss → k < length ss → IsProper (slice_index_or ss k d)
proper_at [] k d a h = absurd (omega (arith, h))
proper_at (s ∷ ss) zero d a h = a.0
proper_at (s ∷ ss) (suc k) d a h = proper_at ss k d a.2 (omega (arith, h))

-- the rectangles of a row, one more
pub push_more : (now rects old : List Rect) (ss : List Span) (k : ℕ) (d : Span) (r : Rect) (t b : ℕ) → now ≡ rects ++ r ∷ [] → rects ≡ old ++ rects_of (take k ss) t b
    → r ≡ rect_of (slice_index_or ss k d) t b → k < length ss → now ≡ old ++ rects_of (take (k + 1) ss) t b
push_more now rects old ss k d r t b is was made h =
    let one : rects_of (take (k + 1) ss) t b ≡ rects_of (take k ss) t b ++ rect_of (slice_index_or ss k d) t b ∷ [] =
    ap (λ z. rects_of z t b) (take_more ss k d h) ∙ rects_of-snoc (take k ss) (slice_index_or ss k d) t b in
    is ∙ (ap (λ z. z ++ r ∷ []) was ∙ (append_assoc old (rects_of (take k ss) t b) (r ∷ []) ∙ ap (λ z. old ++ z) (ap (λ z. rects_of (take k ss) t b ++ z ∷ []) made ∙ sym one)))

-- no pixel is covered twice
pub disjoint : (rs : List Rect) → IsBanded rs → IsDisjoint rs
disjoint [] b = tt
disjoint (r ∷ rs) b = (
  (λ x y h.
      let parts = and_parts _ _ (sym (covers_is r x y b.0.near) ∙ h) in
      let across = and_parts _ _ parts.0 in
      let down = and_parts _ _ parts.1 in
      let right_of : offset x < right r = ltb-true _ _ across.1 in
      has_is rs x y b.2 ∙ on_after (right r) (row rs (offset y)) (offset x) (after_row r rs (offset y) b.1 (ltb-true _ _ down.1)) (omega (arith, right_of))),
  disjoint rs b.2,
)

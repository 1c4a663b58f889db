-- Regions that are moved.
use Rattle.std.proofs.Common.{◌≡◌, ℕ, zero, suc, ◌+◌, ◌-◌, ◌<◌, ◌≤◌, List, [], ◌∷◌, ◌++◌, refl, subst, sym, ◌∙◌, ap, arith, ⊎_elim, true, inl, inr}
use Rattle.std.specs.Prelude.{◌&&◌, int_le, int_lt, ℤ, pos, negsuc, ◌+ℤ◌, ◌-ℤ◌, ◌≤ℤ◌, ◌<ℤ◌, length, slice_index_or, take, map}
use Rattle.std.specs.List.{All}
use Rattle.std.proofs.lemmas.Bool.{cases_lt, and_from, and_parts, or_left, or_right}
use Rattle.std.proofs.lemmas.Int.{ints, by_lt_z}
use Rattle.std.proofs.lemmas.List.{take_more}
use Rattle.sf_base.specs.declared.geometry.Rect.{Rect}
use Rattle.sf_region.specs.Edges.{offset, left, right, top, bottom}
use Rattle.sf_base.specs.Geometry.{covers}
use Rattle.sf_region.specs.Points.{has, moved, IsInBounds, StaysInBounds, neg_far}
use Rattle.sf_region.specs.Spans.{row}
use Rattle.sf_region.specs.Canonical.{IsFull, Follows, AllFollow, IsBanded, Changes, IsCanonical}
use Rattle.sf_region.specs.declared.spans.Span.{Span}
use Rattle.sf_region.proofs.BandLemmas.{span_same}
use Rattle.sf_region.proofs.RowLemmas.{row_in, row_above, row_below}
use Rattle.sf_region.proofs.PointLemmas.{le_true, le_false, lt_true, lt_false}

-- how far a number lies above 0, and below
abbrev pub above : ℤ → ℕ
above (pos n) = n
above (negsuc n) = 0

abbrev pub below : ℤ → ℕ
below (pos n) = 0
below (negsuc n) = suc n

moved_offset : (z d : ℤ) → neg_far ≤ℤ z → neg_far ≤ℤ (z +ℤ d) → offset (z +ℤ d) + below d ≡ offset z + above d
moved_offset (pos m) (pos k) h g = omega (arith, ints, h, g)
moved_offset (pos m) (negsuc k) h g = ⊎_elim
    (λ (low : m < suc k).
    let e : pos m +ℤ negsuc k ≡ negsuc (k - m) = omega (arith, ints, low) in
    let near : neg_far ≤ℤ negsuc (k - m) = subst (λ z. neg_far ≤ℤ z) e g in
    rw e (omega (arith, ints, near, low)))
    (λ (high : suc k ≤ m).
    let e : pos m +ℤ negsuc k ≡ pos (m - suc k) = omega (arith, ints, high) in
    rw e (omega (arith, high)))
    (cases_lt m (suc k))
moved_offset (negsuc m) (pos k) h g = ⊎_elim
    (λ (low : k < suc m).
    let e : negsuc m +ℤ pos k ≡ negsuc (m - k) = omega (arith, ints, low) in
    rw e (omega (arith, ints, h, low)))
    (λ (high : suc m ≤ k).
    let e : negsuc m +ℤ pos k ≡ pos (k - suc m) = omega (arith, ints, high) in
    rw e (omega (arith, ints, h, high)))
    (cases_lt k (suc m))
moved_offset (negsuc m) (negsuc k) h g = omega (arith, ints, h, g)

-- the edges of a rectangle and of the moved one
record MovedEdges (mx nx my ny : ℕ) (r q : Rect) : Type 0 where
  left : left q + mx ≡ left r + nx
  right : right q + mx ≡ right r + nx
  top : top q + my ≡ top r + ny
  bottom : bottom q + my ≡ bottom r + ny

edges_of : (dx dy : ℤ) (r : Rect) → IsInBounds r → IsInBounds (moved dx dy r) → MovedEdges (below dx) (above dx) (below dy) (above dy) r (moved dx dy r)
unfolding left right top bottom moved
edges_of dx dy r a b =
    let across : offset (r.x +ℤ dx) + below dx ≡ offset r.x + above dx = moved_offset r.x dx a.left b.left in
    let down : offset (r.y +ℤ dy) + below dy ≡ offset r.y + above dy = moved_offset r.y dy a.top b.top in
    record { left = across; right = omega (arith, across); top = down; bottom = omega (arith, down) }

-- each rectangle is near when it is moved
abbrev pub AllNear : ℤ → ℤ → List Rect → Type 0
AllNear dx dy [] = Unit {0}
AllNear dx dy (r ∷ rs) = IsInBounds (moved dx dy r) × AllNear dx dy rs

follows_moved : (mx nx my ny : ℕ) (r r' q q' : Rect) → MovedEdges mx nx my ny r r' → MovedEdges mx nx my ny q q' → Follows r q → Follows r' q'
follows_moved mx nx my ny r r' q q' a b f = ⊎_elim
    (λ (later : bottom r ≤ top q). inl (omega (arith, later, a.bottom, b.top)))
    (λ (here : (top q ≡ top r) × (bottom q ≡ bottom r) × (right r < left q)).
    inr (omega (arith, here.0, a.top, b.top), omega (arith, here.1, a.bottom, b.bottom), omega (arith, here.2, a.right, b.left)))
    f

full_moved : (mx nx my ny : ℕ) (r q : Rect) → MovedEdges mx nx my ny r q → IsInBounds q → IsFull r → IsFull q
full_moved mx nx my ny r q e near f = record { near = near; wide = omega (arith, e.left, e.right, f.wide); high = omega (arith, e.top, e.bottom, f.high) }

follow_moved : (dx dy : ℤ) (r : Rect) (rs : List Rect) → IsInBounds r → IsInBounds (moved dx dy r) → IsBanded rs → AllNear dx dy rs → AllFollow r rs → AllFollow (moved dx dy r) (map (moved dx dy) rs)
follow_moved dx dy r [] near near' b a f = tt
follow_moved dx dy r (q ∷ qs) near near' b a f =
    (follows_moved _ _ _ _ r (moved dx dy r) q (moved dx dy q) (edges_of dx dy r near near') (edges_of dx dy q b.0.near a.0) f.0, follow_moved dx dy r qs near near' b.2 a.1 f.1)

banded_moved : (dx dy : ℤ) (rs : List Rect) → IsBanded rs → AllNear dx dy rs → IsBanded (map (moved dx dy) rs)
banded_moved dx dy [] b a = tt
banded_moved dx dy (r ∷ rs) b a = (
  full_moved _ _ _ _ r (moved dx dy r) (edges_of dx dy r b.0.near a.0) a.0 b.0,
  follow_moved dx dy r rs b.0.near a.0 b.2 a.1 b.1,
  banded_moved dx dy rs b.2 a.1,
)

-- the spans of a row and of the moved one
abbrev MovedSpans : ℕ → ℕ → List Span → List Span → Type 0
MovedSpans m n [] [] = Unit {0}
MovedSpans m n [] (q ∷ qs) = ⊥
MovedSpans m n (s ∷ ss) [] = ⊥
MovedSpans m n (s ∷ ss) (q ∷ qs) = (q.start + m ≡ s.start + n) × (q.end + m ≡ s.end + n) × MovedSpans m n ss qs

spans_back : (m n : ℕ) (ss xs ts ys : List Span) → MovedSpans m n ss xs → MovedSpans m n ts ys → xs ≡ ys → ss ≡ ts
spans_back m n [] [] [] [] a b e = refl
spans_back m n [] [] [] (y ∷ ys) a b e = absurd b
spans_back m n [] [] (s ∷ ss) [] a b e = absurd b
spans_back m n [] [] (s ∷ ss) (y ∷ ys) a b e = cc
spans_back m n [] (x ∷ xs) ts ys a b e = absurd a
spans_back m n (s ∷ ss) [] ts ys a b e = absurd a
spans_back m n (s ∷ ss) (x ∷ xs) [] [] a b e = cc
spans_back m n (s ∷ ss) (x ∷ xs) [] (y ∷ ys) a b e = absurd b
spans_back m n (s ∷ ss) (x ∷ xs) (t ∷ ts) [] a b e = absurd b
spans_back m n (s ∷ ss) (x ∷ xs) (t ∷ ts) (y ∷ ys) a b e =
    let first : x ≡ y = cc in
    let rest : xs ≡ ys = cc in
    let starts : x.start ≡ y.start = ap (λ (z : Span). z.start) first in
    let ends : x.end ≡ y.end = ap (λ (z : Span). z.end) first in
    let one : s ≡ t = span_same s t (omega (arith, a.0, b.0, starts)) (omega (arith, a.1, b.1, ends)) in
    rw (one, spans_back m n ss xs ts ys a.2 b.2 rest) refl

row_moved : (dx dy : ℤ) (rs : List Rect) (p p' : ℕ) → IsBanded rs → AllNear dx dy rs → p' + below dy ≡ p + above dy
    → MovedSpans (below dx) (above dx) (row rs p) (row (map (moved dx dy) rs) p')
row_moved dx dy [] p p' b a is = tt
row_moved dx dy (r ∷ rs) p p' b a is =
    let e = edges_of dx dy r b.0.near a.0 in
    let rest = row_moved dx dy rs p p' b.2 a.1 is in
    ⊎_elim
    (λ (low : p < top r). rw (row_above r rs p low, row_above (moved dx dy r) (map (moved dx dy) rs) p' (omega (arith, is, low, e.top))) rest)
    (λ (high : top r ≤ p). ⊎_elim
    (λ (in_it : p < bottom r).
    rw (row_in r rs p high in_it, row_in (moved dx dy r) (map (moved dx dy) rs) p' (omega (arith, is, high, e.top)) (omega (arith, is, in_it, e.bottom))) (e.left, e.right, rest))
    (λ (past : bottom r ≤ p). rw (row_below r rs p past, row_below (moved dx dy r) (map (moved dx dy) rs) p' (omega (arith, is, past, e.bottom))) rest)
    (cases_lt p (bottom r)))
    (cases_lt p (top r))

changes_moved : (dx dy : ℤ) (all rs : List Rect) → IsBanded all → AllNear dx dy all → IsBanded rs → AllNear dx dy rs → Changes all rs → Changes (map (moved dx dy) all) (map (moved dx dy) rs)
changes_moved dx dy all [] ball aall b a c = tt
changes_moved dx dy all (r ∷ rs) ball aall b a c =
    let e = edges_of dx dy r b.0.near a.0 in (
      (λ eq. c.0 (spans_back (below dx) (above dx) _ _ _ _
          (row_moved dx dy all (bottom r) (bottom (moved dx dy r)) ball aall e.bottom)
          (row_moved dx dy all (top r) (top (moved dx dy r)) ball aall e.top) eq)),
      changes_moved dx dy all rs ball aall b.2 a.1 c.1,
    )

pub canonical_moved : (dx dy : ℤ) (rs : List Rect) → IsCanonical rs → AllNear dx dy rs → IsCanonical (map (moved dx dy) rs)
canonical_moved dx dy rs so near =
    record { banded = banded_moved dx dy rs so.banded near; changes = changes_moved dx dy rs rs so.banded near so.banded near so.changes }

-- the points of a moved region
within_moved : (z x d : ℤ) (n : ℕ) → (int_le (z +ℤ d) (x +ℤ d) && int_lt (x +ℤ d) ((z +ℤ d) +ℤ pos n)) ≡ (int_le z x && int_lt x (z +ℤ pos n))
within_moved z x d n =
    let low : int_le (z +ℤ d) (x +ℤ d) ≡ int_le z x = by_lt_z x z
    (λ (less : x <ℤ z). le_false (z +ℤ d) (x +ℤ d) (omega (arith, ints, less)) ∙ sym (le_false z x less))
    (λ (most : z ≤ℤ x). le_true (z +ℤ d) (x +ℤ d) (omega (arith, ints, most)) ∙ sym (le_true z x most)) in
    let high : int_lt (x +ℤ d) ((z +ℤ d) +ℤ pos n) ≡ int_lt x (z +ℤ pos n) = by_lt_z x (z +ℤ pos n)
    (λ (less : x <ℤ (z +ℤ pos n)). lt_true (x +ℤ d) ((z +ℤ d) +ℤ pos n) (omega (arith, ints, less)) ∙ sym (lt_true x (z +ℤ pos n) less))
    (λ (most : (z +ℤ pos n) ≤ℤ x). lt_false (x +ℤ d) ((z +ℤ d) +ℤ pos n) (omega (arith, ints, most)) ∙ sym (lt_false x (z +ℤ pos n) most)) in
    rw (low, high) refl

covers_moved : (dx dy : ℤ) (r : Rect) (x y : ℤ) → covers (moved dx dy r) (x +ℤ dx) (y +ℤ dy) ≡ covers r x y
unfolding covers moved
covers_moved dx dy r x y = rw (within_moved r.x x dx r.width, within_moved r.y y dy r.height) refl

pub has_moved : (dx dy : ℤ) (rs : List Rect) (x y : ℤ) → has (map (moved dx dy) rs) (x +ℤ dx) (y +ℤ dy) ≡ has rs x y
has_moved dx dy [] x y = refl
has_moved dx dy (r ∷ rs) x y = rw (covers_moved dx dy r x y, has_moved dx dy rs x y) refl

-- moved rectangles, one more
map-snoc : (f : Rect → Rect) (rs : List Rect) (r : Rect) → map f (rs ++ r ∷ []) ≡ map f rs ++ f r ∷ []
map-snoc f [] r = refl
map-snoc f (x ∷ rs) r = ap (λ z. f x ∷ z) (map-snoc f rs r)

pub moved_more : (f : Rect → Rect) (now before : List Rect) (rs : List Rect) (k : ℕ) (d r : Rect) → now ≡ before ++ r ∷ [] → before ≡ map f (take k rs)
    → r ≡ f (slice_index_or rs k d) → k < length rs → now ≡ map f (take (k + 1) rs)
moved_more f now before rs k d r is was made h =
    is ∙ (ap (λ z. z ++ r ∷ []) was ∙ (ap (λ z. map f (take k rs) ++ z ∷ []) made ∙ sym (ap (map f) (take_more rs k d h) ∙ map-snoc f (take k rs) (slice_index_or rs k d))))

-- a region whose moved pixels are near has near moved rectangles
covers_at : (r : Rect) (x y : ℤ) → r.x ≤ℤ x → x <ℤ (r.x +ℤ pos r.width) → r.y ≤ℤ y → y <ℤ (r.y +ℤ pos r.height) → covers r x y ≡ true
unfolding covers
covers_at r x y a b c d = and_from _ _ (and_from _ _ (le_true r.x x a) (lt_true x (r.x +ℤ pos r.width) b)) (and_from _ _ (le_true r.y y c) (lt_true y (r.y +ℤ pos r.height) d))

sizes : (r : Rect) → IsFull r → (0 < r.width) × (0 < r.height)
unfolding left right top bottom
sizes r f = (omega (arith, f.wide), omega (arith, f.high))

near_moved : (dx dy : ℤ) (r : Rect) (rs : List Rect) → IsFull r → StaysInBounds dx dy (r ∷ rs) → IsInBounds (moved dx dy r)
unfolding moved
near_moved dx dy r rs f stays =
    let size = sizes r f in
    let last_x : ℤ = (r.x +ℤ pos r.width) -ℤ pos 1 in
    let last_y : ℤ = (r.y +ℤ pos r.height) -ℤ pos 1 in
    let first = stays r.x r.y (or_left _ _ (covers_at r r.x r.y (omega (arith, ints)) (omega (arith, ints, size.0)) (omega (arith, ints)) (omega (arith, ints, size.1)))) in
    let last = stays last_x last_y (or_left _ _ (covers_at r last_x last_y (omega (arith, ints, size.0)) (omega (arith, ints)) (omega (arith, ints, size.1)) (omega (arith, ints)))) in
    record {
      left = first.0;
      right = omega (arith, ints, last.1);
      top = first.2;
      bottom = omega (arith, ints, last.3);
    }

pub stays_near : (dx dy : ℤ) (rs : List Rect) → IsBanded rs → StaysInBounds dx dy rs → AllNear dx dy rs
stays_near dx dy [] b s = tt
stays_near dx dy (r ∷ rs) b s = (near_moved dx dy r rs b.0 s, stays_near dx dy rs b.2 (λ x y h. s x y (or_right _ _ h)))

pub all_from : (dx dy : ℤ) (rs : List Rect) → AllNear dx dy rs → All (λ r. IsInBounds (moved dx dy r)) rs
all_from dx dy [] a k d h = absurd (omega (arith, h))
all_from dx dy (r ∷ rs) a zero d h = a.0
all_from dx dy (r ∷ rs) a (suc k) d h = all_from dx dy rs a.1 k d (omega (arith, h))

-- what a covered pixel tells
le_from : (a b : ℤ) → int_le a b ≡ true → a ≤ℤ b
le_from a b h = grind (arith, ints)

lt_from : (a b : ℤ) → int_lt a b ≡ true → a <ℤ b
lt_from a b h = grind (arith, ints)

pub covered : (r : Rect) (x y : ℤ) → covers r x y ≡ true → (r.x ≤ℤ x) × (x <ℤ (r.x +ℤ pos r.width)) × (r.y ≤ℤ y) × (y <ℤ (r.y +ℤ pos r.height))
unfolding covers
covered r x y h =
    let parts = and_parts _ _ h in
    let across = and_parts _ _ parts.0 in
    let down = and_parts _ _ parts.1 in
    (le_from _ _ across.0, lt_from _ _ across.1, le_from _ _ down.0, lt_from _ _ down.1)

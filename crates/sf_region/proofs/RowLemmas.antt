-- Rows of bands.
use Rattle.std.proofs.Common.{◌≡◌, ℕ, ◌+◌, ◌<◌, ◌≤◌, List, [], ◌∷◌, ◌++◌, refl, sym, ◌∙◌, ap, arith, ⊎_elim}
use Rattle.std.specs.Prelude.{ℤ, pos, negsuc, ◌+ℤ◌, ◌≤ℤ◌, length, slice_index_or}
use Rattle.std.proofs.lemmas.Bool.{cases_lt}
use Rattle.std.proofs.lemmas.Int.{ints}
use Rattle.sf_base.specs.declared.geometry.Rect.{Rect}
use Rattle.sf_region.specs.Edges.{offset, left, right, top, bottom, first_offset, past_all}
use Rattle.sf_region.specs.Points.{far, neg_far}
use Rattle.sf_region.specs.Spans.{row, AllAfter, IsSpread, AllEndBelow, AllEndBy}
use Rattle.sf_region.specs.Canonical.{IsFull, AllFollow, IsBanded}
use Rattle.sf_region.specs.inner.Bands.{IsAheadRows}
use Rattle.sf_region.proofs.SpanLemmas.{span_before, span_after, span_in}

-- a rectangle that has a row, and one that has not
pub row_in : (r : Rect) (rs : List Rect) (y : ℕ) → top r ≤ y → y < bottom r → row (r ∷ rs) y ≡ record { start = left r; end = right r } ∷ row rs y
row_in r rs y h g = rw (span_in (top r) (bottom r) y h g) refl

pub row_above : (r : Rect) (rs : List Rect) (y : ℕ) → y < top r → row (r ∷ rs) y ≡ row rs y
row_above r rs y h = rw (span_before (top r) (bottom r) y h) refl

pub row_below : (r : Rect) (rs : List Rect) (y : ℕ) → bottom r ≤ y → row (r ∷ rs) y ≡ row rs y
row_below r rs y h = rw (span_after (top r) (bottom r) y h) refl

pub row-append : (xs ys : List Rect) (y : ℕ) → row (xs ++ ys) y ≡ row xs y ++ row ys y
row-append [] ys y = refl
row-append (r ∷ xs) ys y = ⊎_elim
    (λ (low : y < top r). row_above r (xs ++ ys) y low ∙ (row-append xs ys y ∙ sym (ap (λ z. z ++ row ys y) (row_above r xs y low))))
    (λ (high : top r ≤ y). ⊎_elim
    (λ (in_it : y < bottom r). row_in r (xs ++ ys) y high in_it ∙ (ap (λ z. record { start = left r; end = right r } ∷ z) (row-append xs ys y) ∙ sym (ap (λ z. z ++ row ys y) (row_in r xs y high in_it))))
    (λ (past : bottom r ≤ y). row_below r (xs ++ ys) y past ∙ (row-append xs ys y ∙ sym (ap (λ z. z ++ row ys y) (row_below r xs y past))))
    (cases_lt y (bottom r)))
    (cases_lt y (top r))

pub row_done : (t : ℕ) (rs : List Rect) (p : ℕ) → AllEndBy t rs → t ≤ p → row rs p ≡ []
row_done t [] p a h = refl
row_done t (r ∷ rs) p a h = row_below r rs p (omega (arith, a.0, h)) ∙ row_done t rs p a.1 h

-- rectangles that follow one start at its first row, or below its last
row_following : (r : Rect) (rs : List Rect) (p : ℕ) → IsFull r → AllFollow r rs → p < top r → row rs p ≡ []
row_following r [] p f a h = refl
row_following r (q ∷ qs) p f a h =
    row_above q qs p (⊎_elim
    (λ (later : bottom r ≤ top q). omega (arith, later, f.high, h))
    (λ (here : (top q ≡ top r) × (bottom q ≡ bottom r) × (right r < left q)). omega (arith, here.0, h))
    a.0) ∙ row_following r qs p f a.1 h

pub row_over : (r : Rect) (rs : List Rect) (p : ℕ) → IsBanded (r ∷ rs) → p < top r → row (r ∷ rs) p ≡ []
row_over r rs p b h = row_above r rs p h ∙ row_following r rs p b.0 b.1 h

-- the rows of a band are the same
same_following : (r : Rect) (rs : List Rect) (p q : ℕ) → AllFollow r rs → top r ≤ p → p < bottom r → top r ≤ q → q < bottom r → row rs p ≡ row rs q
same_following r [] p q a p0 p1 q0 q1 = refl
same_following r (s ∷ ss) p q a p0 p1 q0 q1 = ⊎_elim
    (λ (later : bottom r ≤ top s).
    row_above s ss p (omega (arith, later, p1)) ∙ (same_following r ss p q a.1 p0 p1 q0 q1 ∙ sym (row_above s ss q (omega (arith, later, q1)))))
    (λ (here : (top s ≡ top r) × (bottom s ≡ bottom r) × (right r < left s)).
    row_in s ss p (omega (arith, here.0, p0)) (omega (arith, here.1, p1)) ∙
    (ap (λ z. record { start = left s; end = right s } ∷ z) (same_following r ss p q a.1 p0 p1 q0 q1) ∙
    sym (row_in s ss q (omega (arith, here.0, q0)) (omega (arith, here.1, q1)))))
    a.0

pub same_band : (r : Rect) (rs : List Rect) (p q : ℕ) → IsBanded (r ∷ rs) → top r ≤ p → p < bottom r → top r ≤ q → q < bottom r → row (r ∷ rs) p ≡ row (r ∷ rs) q
same_band r rs p q b p0 p1 q0 q1 =
    row_in r rs p p0 p1 ∙ (ap (λ z. record { start = left r; end = right r } ∷ z) (same_following r rs p q b.1 p0 p1 q0 q1) ∙ sym (row_in r rs q q0 q1))

-- edges of near rectangles
offset_low : (z : ℤ) → neg_far ≤ℤ z → first_offset ≤ offset z
offset_low (pos n) h = omega (arith, ints)
offset_low (negsuc n) h = omega (arith, ints, h)

offset_high : (z : ℤ) (n : ℕ) → neg_far ≤ℤ z → (z +ℤ pos n) ≤ℤ far → offset z + n ≤ past_all
offset_high (pos m) n h g = omega (arith, ints, h, g)
offset_high (negsuc m) n h g = omega (arith, ints, h, g)

pub full_left : (r : Rect) → IsFull r → first_offset ≤ left r
unfolding left
full_left r f = offset_low r.x f.near.left

pub full_right : (r : Rect) → IsFull r → right r ≤ past_all
unfolding right
full_right r f = offset_high r.x r.width f.near.left f.near.right

pub full_top : (r : Rect) → IsFull r → first_offset ≤ top r
unfolding top
full_top r f = offset_low r.y f.near.top

pub full_bottom : (r : Rect) → IsFull r → bottom r ≤ past_all
unfolding bottom
full_bottom r f = offset_high r.y r.height f.near.top f.near.bottom

-- the row of bands is spread
pub after_row : (r : Rect) (rs : List Rect) (p : ℕ) → AllFollow r rs → p < bottom r → AllAfter (right r) (row rs p)
after_row r [] p a h = tt
after_row r (q ∷ qs) p a h = ⊎_elim
    (λ (later : bottom r ≤ top q). rw (row_above q qs p (omega (arith, later, h))) (after_row r qs p a.1 h))
    (λ (here : (top q ≡ top r) × (bottom q ≡ bottom r) × (right r < left q)). ⊎_elim
    (λ (low : p < top q). rw (row_above q qs p low) (after_row r qs p a.1 h))
    (λ (high : top q ≤ p). rw (row_in q qs p high (omega (arith, here.1, h))) (here.2, after_row r qs p a.1 h))
    (cases_lt p (top q)))
    a.0

pub spread_row : (rs : List Rect) (p : ℕ) → IsBanded rs → IsSpread (row rs p)
spread_row [] p b = tt
spread_row (r ∷ rs) p b = ⊎_elim
    (λ (low : p < top r). rw (row_above r rs p low) (spread_row rs p b.2))
    (λ (high : top r ≤ p). ⊎_elim
    (λ (in_it : p < bottom r).
    rw (row_in r rs p high in_it)
    (record { from = full_left r b.0; some = b.0.wide; to = full_right r b.0 }, after_row r rs p b.1 in_it, spread_row rs p b.2))
    (λ (past : bottom r ≤ p). rw (row_below r rs p past) (spread_row rs p b.2))
    (cases_lt p (bottom r)))
    (cases_lt p (top r))

-- what is ahead
ends_following : (r : Rect) (rs : List Rect) (y : ℕ) → AllFollow r rs → IsBanded rs → y < bottom r → AllEndBelow y rs
ends_following r [] y a b h = tt
ends_following r (q ∷ qs) y a b h = (
  ⊎_elim
      (λ (later : bottom r ≤ top q). omega (arith, later, b.0.high, h))
      (λ (here : (top q ≡ top r) × (bottom q ≡ bottom r) × (right r < left q)). omega (arith, here.1, h))
      a.0,
  ends_following r qs y a.1 b.2 h,
)

pub ahead_rows : (r : Rect) (rs : List Rect) (y : ℕ) → IsBanded (r ∷ rs) → y < bottom r → IsAheadRows (r ∷ rs) y
ahead_rows r rs y b h = record { banded = b; ends = (h, ends_following r rs y b.1 b.2 h) }

pub ahead_first_row : (rs : List Rect) → IsBanded rs → IsAheadRows rs first_offset
ahead_first_row [] b = record { banded = b; ends = tt }
ahead_first_row (r ∷ rs) b = ahead_rows r rs first_offset b (omega (arith, full_top r b.0, b.0.high))

pub ahead_by : (rs : List Rect) (y : ℕ) (d : Rect) → 1 ≤ length rs → IsBanded rs → y < bottom (slice_index_or rs 0 d) → IsAheadRows rs y
ahead_by [] y d h b g = absurd (omega (arith, h))
ahead_by (r ∷ rs) y d h b g = ahead_rows r rs y b g

-- the row at which the first of some bands changes
pub to_top : (rs : List Rect) (y p : ℕ) (d : Rect) → 1 ≤ length rs → IsBanded rs → y ≤ p → p < top (slice_index_or rs 0 d) → row rs p ≡ row rs y
to_top [] y p d h b from to = absurd (omega (arith, h))
to_top (r ∷ rs) y p d h b from to = row_over r rs p b to ∙ sym (row_over r rs y b (omega (arith, from, to)))

pub to_bottom : (rs : List Rect) (y p : ℕ) (d : Rect) → 1 ≤ length rs → IsBanded rs → top (slice_index_or rs 0 d) ≤ y → y ≤ p → p < bottom (slice_index_or rs 0 d) → row rs p ≡ row rs y
to_bottom [] y p d h b low from to = absurd (omega (arith, h))
to_bottom (r ∷ rs) y p d h b low from to = same_band r rs p y b (omega (arith, low, from)) to low (omega (arith, from, to))

pub top_within : (rs : List Rect) (d : Rect) → 1 ≤ length rs → IsBanded rs → top (slice_index_or rs 0 d) ≤ past_all
top_within [] d h b = absurd (omega (arith, h))
top_within (r ∷ rs) d h b = omega (arith, full_bottom r b.0, b.0.high)

pub bottom_within : (rs : List Rect) (d : Rect) → 1 ≤ length rs → IsBanded rs → bottom (slice_index_or rs 0 d) ≤ past_all
bottom_within [] d h b = absurd (omega (arith, h))
bottom_within (r ∷ rs) d h b = full_bottom r b.0

pub above_first : (rs : List Rect) (y : ℕ) (d : Rect) → 1 ≤ length rs → IsBanded rs → y < top (slice_index_or rs 0 d) → row rs y ≡ []
above_first [] y d h b low = absurd (omega (arith, h))
above_first (r ∷ rs) y d h b low = row_over r rs y b low

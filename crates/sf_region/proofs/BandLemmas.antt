-- Bands that are built from top to bottom.
use Rattle.std.proofs.Common.{◌≡◌, ◌≢◌, ℕ, ◌-◌, ◌<◌, ◌≤◌, List, [], ◌∷◌, ◌++◌, refl, sym, ◌∙◌, ap, arith, ⊎_elim, Bool, true, false, inl, inr}
use Rattle.std.specs.Prelude.{◌&&◌, nat_eq, pos, negsuc, ◌-ℤ◌, min}
use Rattle.std.specs.Bool.{Decides}
use Rattle.std.specs.Cmp.Lexicographic.{pointwise}
use Rattle.std.proofs.lemmas.Bool.{cases_lt, false≢true, eqb-true, eq-eqb, and_parts, and_from}
use Rattle.std.proofs.lemmas.Int.{ints}
use Rattle.std.proofs.lemmas.Slice.Eq.{slice_eq-Decides}
use Rattle.sf_base.specs.declared.geometry.Rect.{Rect}
use Rattle.sf_region.specs.Edges.{offset, left, right, top, bottom, first_offset, past_all}
use Rattle.sf_region.specs.Points.{IsInBounds}
use Rattle.sf_region.specs.Spans.{on, keeps, row, rect_of, rects_of, IsProper, AllAfter, IsSpread, AllEndBy}
use Rattle.sf_region.specs.Canonical.{IsFull, AllFollow, IsBanded, Changes, IsCanonical}
use Rattle.sf_region.specs.inner.Bands.{IsAheadRows, FromFirst, Differ, IsBuilt, Turned, IsCombined}
use Rattle.sf_region.specs.declared.spans.Span.{Span}
use Rattle.sf_region.specs.declared.combine.Combine.{Combine}
use Rattle.sf_region.proofs.SpanLemmas.{keeps_none}
use Rattle.sf_region.proofs.RowLemmas.{row_in, row_above, row_below, row-append, row_done, full_top, full_bottom, ahead_first_row}

pub append_nil : (xs : List Span) → xs ++ [] ≡ xs
append_nil [] = refl
append_nil (x ∷ xs) = ap (λ z. x ∷ z) (append_nil xs)

-- the rectangle of a span
pub offset_back : (n : ℕ) → offset (pos n -ℤ pos 67108864) ≡ n
offset_back n = ⊎_elim
    (λ (low : n < 67108864).
    let e : pos n -ℤ pos 67108864 ≡ negsuc (67108863 - n) = omega (arith, ints, low) in
    rw e (omega (arith, low)))
    (λ (high : 67108864 ≤ n).
    let e : pos n -ℤ pos 67108864 ≡ pos (n - 67108864) = omega (arith, ints, high) in
    rw e (omega (arith, high)))
    (cases_lt n 67108864)

pub left_is : (s : Span) (t b : ℕ) → left (rect_of s t b) ≡ s.start
unfolding left rect_of
left_is s t b = offset_back s.start

pub right_is : (s : Span) (t b : ℕ) → s.start ≤ s.end → right (rect_of s t b) ≡ s.end
unfolding right rect_of
right_is s t b h = rw (offset_back s.start) (omega (arith, h))

pub top_is : (s : Span) (t b : ℕ) → top (rect_of s t b) ≡ t
unfolding top rect_of
top_is s t b = offset_back t

pub bottom_is : (s : Span) (t b : ℕ) → t ≤ b → bottom (rect_of s t b) ≡ b
unfolding bottom rect_of
bottom_is s t b h = rw (offset_back t) (omega (arith, h))

near_rect : (s : Span) (t b : ℕ) → IsProper s → first_offset ≤ t → t < b → b ≤ past_all → IsInBounds (rect_of s t b)
unfolding rect_of
near_rect s t b p from h to = record {
  left = omega (arith, ints, p.from);
  right = omega (arith, ints, p.some, p.to);
  top = omega (arith, ints, from);
  bottom = omega (arith, ints, h, to);
}

full_rect : (s : Span) (t b : ℕ) → IsProper s → first_offset ≤ t → t < b → b ≤ past_all → IsFull (rect_of s t b)
full_rect s t b p from h to = record {
  near = near_rect s t b p from h to;
  wide = rw (left_is s t b, right_is s t b (omega (arith, p.some))) p.some;
  high = rw (top_is s t b, bottom_is s t b (omega (arith, h))) h;
}

-- the rectangles of a row
pub row_rects_in : (ss : List Span) (t b p : ℕ) → IsSpread ss → t ≤ p → p < b → row (rects_of ss t b) p ≡ ss
row_rects_in [] t b p a from to = refl
row_rects_in (s ∷ ss) t b p a from to =
    row_in (rect_of s t b) (rects_of ss t b) p (omega (arith, top_is s t b, from)) (omega (arith, bottom_is s t b (omega (arith, from, to)), to)) ∙
    rw (left_is s t b, right_is s t b (omega (arith, a.0.some)), row_rects_in ss t b p a.2 from to) refl

pub row_rects_above : (ss : List Span) (t b p : ℕ) → p < t → row (rects_of ss t b) p ≡ []
row_rects_above [] t b p h = refl
row_rects_above (s ∷ ss) t b p h = row_above (rect_of s t b) (rects_of ss t b) p (omega (arith, top_is s t b, h)) ∙ row_rects_above ss t b p h

pub ends_rects : (ss : List Span) (t b : ℕ) → t ≤ b → AllEndBy b (rects_of ss t b)
ends_rects [] t b h = tt
ends_rects (s ∷ ss) t b h = (omega (arith, bottom_is s t b h), ends_rects ss t b h)

follow_rects : (r : Rect) (ss : List Span) (t b n : ℕ) → right r ≡ n → top r ≡ t → bottom r ≡ b → t ≤ b → AllAfter n ss → AllFollow r (rects_of ss t b)
follow_rects r [] t b n is_right is_top is_bottom h a = tt
follow_rects r (s ∷ ss) t b n is_right is_top is_bottom h a =
    (inr (top_is s t b ∙ sym is_top, bottom_is s t b h ∙ sym is_bottom, omega (arith, is_right, left_is s t b, a.0)), follow_rects r ss t b n is_right is_top is_bottom h a.1)

pub from_first : (ss : List Span) (t : ℕ) → first_offset ≤ t → FromFirst ss t
from_first [] t h = tt
from_first (s ∷ ss) t h = h

pub banded_rects : (ss : List Span) (t b : ℕ) → IsSpread ss → FromFirst ss t → t < b → b ≤ past_all → IsBanded (rects_of ss t b)
banded_rects [] t b a from h to = tt
banded_rects (s ∷ ss) t b a from h to = (
  full_rect s t b a.0 from h to,
  follow_rects (rect_of s t b) ss t b s.end (right_is s t b (omega (arith, a.0.some))) (top_is s t b) (bottom_is s t b (omega (arith, h))) (omega (arith, h)) a.1,
  banded_rects ss t b a.2 (from_first ss t from) h to,
)

-- bands below bands
abbrev AllStart : ℕ → List Rect → Type 0
AllStart t [] = Unit {0}
AllStart t (r ∷ rs) = (t ≤ top r) × AllStart t rs

start_rects : (ss : List Span) (t b : ℕ) → AllStart t (rects_of ss t b)
start_rects [] t b = tt
start_rects (s ∷ ss) t b = (omega (arith, top_is s t b), start_rects ss t b)

follow_start : (r : Rect) (t : ℕ) (rs : List Rect) → bottom r ≤ t → AllStart t rs → AllFollow r rs
follow_start r t [] h a = tt
follow_start r t (q ∷ qs) h a = (inl (omega (arith, h, a.0)), follow_start r t qs h a.1)

follow-append : (r : Rect) (xs ys : List Rect) → AllFollow r xs → AllFollow r ys → AllFollow r (xs ++ ys)
follow-append r [] ys a b = b
follow-append r (x ∷ xs) ys a b = (a.0, follow-append r xs ys a.1 b)

banded-append : (t : ℕ) (xs ys : List Rect) → IsBanded xs → AllEndBy t xs → IsBanded ys → AllStart t ys → IsBanded (xs ++ ys)
banded-append t [] ys a e b s = b
banded-append t (x ∷ xs) ys a e b s = (a.0, follow-append x xs ys a.1 (follow_start x t ys e.0 s), banded-append t xs ys a.2 e.1 b s)

ends-append : (t y : ℕ) (xs ys : List Rect) → AllEndBy t xs → t ≤ y → AllEndBy y ys → AllEndBy y (xs ++ ys)
ends-append t y [] ys a h b = b
ends-append t y (x ∷ xs) ys a h b = (omega (arith, a.0, h), ends-append t y xs ys a.1 h b)

-- the rows of bands that are done and of one that is drawn down to a height
pub row_drawn_before : (rects : List Rect) (now : List Span) (from y p : ℕ) → p < from → row (rects ++ rects_of now from y) p ≡ row rects p
row_drawn_before rects now from y p h =
    row-append rects (rects_of now from y) p ∙ (ap (λ z. row rects p ++ z) (row_rects_above now from y p h) ∙ append_nil (row rects p))

pub row_drawn : (rects : List Rect) (now : List Span) (from y p : ℕ) → AllEndBy from rects → IsSpread now → from ≤ p → p < y → row (rects ++ rects_of now from y) p ≡ now
row_drawn rects now from y p e a low high =
    row-append rects (rects_of now from y) p ∙ rw (row_done from rects p e low, row_rects_in now from y p a low high) refl

pub row_drawn_after : (rects : List Rect) (now : List Span) (from y p : ℕ) → AllEndBy from rects → from ≤ y → y ≤ p → row (rects ++ rects_of now from y) p ≡ []
row_drawn_after rects now from y p e h high =
    row_done y (rects ++ rects_of now from y) p (ends-append from y rects (rects_of now from y) e h (ends_rects now from y h)) high

-- below each band another row stands
differ-append : (all : List Rect) (now : List Span) (from : ℕ) (xs ys : List Rect) → Differ all now from xs → Differ all now from ys → Differ all now from (xs ++ ys)
differ-append all now from [] ys a b = b
differ-append all now from (x ∷ xs) ys a b = (a.0, a.1, differ-append all now from xs ys a.2 b)

below_old : (rects : List Rect) (now : List Span) (from y : ℕ) (r : Rect) → AllEndBy from rects → IsSpread now → from < y → top r < bottom r → bottom r ≤ from
    → (bottom r < from → row rects (bottom r) ≢ row rects (top r)) → (bottom r ≡ from → now ≢ row rects (top r))
    → row (rects ++ rects_of now from y) (bottom r) ≢ row (rects ++ rects_of now from y) (top r)
below_old rects now from y r e a h high by less same = ⊎_elim
    (λ (low : bottom r < from). λ eq. less low (sym (row_drawn_before rects now from y (bottom r) low) ∙ (eq ∙ row_drawn_before rects now from y (top r) (omega (arith, high, by)))))
    (λ (at : from ≤ bottom r). λ eq. same (omega (arith, by, at))
    (sym (row_drawn rects now from y (bottom r) e a at (omega (arith, by, h))) ∙ (eq ∙ row_drawn_before rects now from y (top r) (omega (arith, high, by)))))
    (cases_lt (bottom r) from)

differ_old : (rects : List Rect) (now next : List Span) (from y : ℕ) (rs : List Rect) → AllEndBy from rects → IsSpread now → from < y
    → IsBanded rs → AllEndBy from rs → Differ rects now from rs → Differ (rects ++ rects_of now from y) next y rs
differ_old rects now next from y [] e a h b by d = tt
differ_old rects now next from y (r ∷ rs) e a h b by d =
    ((λ low. below_old rects now from y r e a h b.0.high by.0 d.0 d.1), (λ at. absurd (omega (arith, by.0, h, at))), differ_old rects now next from y rs e a h b.2 by.1 d.2)

differ_new : (rects : List Rect) (now next : List Span) (from y : ℕ) (ss : List Span) → AllEndBy from rects → IsSpread now → from < y → next ≢ now
    → Differ (rects ++ rects_of now from y) next y (rects_of ss from y)
differ_new rects now next from y [] e a h new = tt
differ_new rects now next from y (s ∷ ss) e a h new = (
  (λ low. absurd (omega (arith, bottom_is s from y (omega (arith, h)), low))),
  (λ at eq. new (eq ∙ (ap (row (rects ++ rects_of now from y)) (top_is s from y) ∙ row_drawn rects now from y from e a (omega arith) h))),
  differ_new rects now next from y ss e a h new,
)

pub built_turn : (rects : List Rect) (now next : List Span) (from y : ℕ) → IsBuilt rects now from → from < y → first_offset ≤ y → y ≤ past_all → IsSpread next → next ≢ now
    → IsBuilt (rects ++ rects_of now from y) next y
built_turn rects now next from y so h lower upper spread new = record {
  banded = banded-append from rects (rects_of now from y) so.banded so.done (banded_rects now from y so.spread so.began h upper) (start_rects now from y);
  done = ends-append from y rects (rects_of now from y) so.done (omega (arith, h)) (ends_rects now from y (omega (arith, h)));
  spread = spread;
  began = from_first next y lower;
  differ = differ-append _ next y rects (rects_of now from y)
      (differ_old rects now next from y rects so.done so.spread h so.banded so.done so.differ)
      (differ_new rects now next from y now so.done so.spread h new);
}

changes-append : (all xs ys : List Rect) → Changes all xs → Changes all ys → Changes all (xs ++ ys)
changes-append all [] ys a b = b
changes-append all (x ∷ xs) ys a b = (a.0, changes-append all xs ys a.1 b)

changes_old : (rects : List Rect) (now : List Span) (from y : ℕ) (rs : List Rect) → AllEndBy from rects → IsSpread now → from < y
    → IsBanded rs → AllEndBy from rs → Differ rects now from rs → Changes (rects ++ rects_of now from y) rs
changes_old rects now from y [] e a h b by d = tt
changes_old rects now from y (r ∷ rs) e a h b by d = (below_old rects now from y r e a h b.0.high by.0 d.0 d.1, changes_old rects now from y rs e a h b.2 by.1 d.2)

changes_new : (rects : List Rect) (now : List Span) (from y : ℕ) (ss : List Span) → AllEndBy from rects → IsSpread now → from < y → [] ≢ now
    → Changes (rects ++ rects_of now from y) (rects_of ss from y)
changes_new rects now from y [] e a h some = tt
changes_new rects now from y (s ∷ ss) e a h some = (
  (λ eq. some (sym (row_drawn_after rects now from y (bottom (rect_of s from y)) e (omega (arith, h)) (omega (arith, bottom_is s from y (omega (arith, h)))))
      ∙ (eq ∙ (ap (row (rects ++ rects_of now from y)) (top_is s from y) ∙ row_drawn rects now from y from e a (omega arith) h)))),
  changes_new rects now from y ss e a h some,
)

pub no_span : (s : Span) (ss : List Span) → [] ≢ s ∷ ss
no_span s ss e = cc

changes_last : (rects : List Rect) (now : List Span) (from y : ℕ) → AllEndBy from rects → IsSpread now → from < y → Changes (rects ++ rects_of now from y) (rects_of now from y)
changes_last rects [] from y e a h = tt
changes_last rects (s ∷ ss) from y e a h = changes_new rects (s ∷ ss) from y (s ∷ ss) e a h (no_span s ss)

pub built_all : (rects : List Rect) (now : List Span) (from y : ℕ) → IsBuilt rects now from → from < y → y ≤ past_all → IsCanonical (rects ++ rects_of now from y)
built_all rects now from y so h upper = record {
  banded = banded-append from rects (rects_of now from y) so.banded so.done (banded_rects now from y so.spread so.began h upper) (start_rects now from y);
  changes = changes-append _ rects (rects_of now from y)
      (changes_old rects now from y rects so.done so.spread h so.banded so.done so.differ)
      (changes_last rects now from y so.done so.spread h);
}

-- beyond all bands
row_beyond : (rs : List Rect) (p : ℕ) → IsBanded rs → past_all ≤ p → row rs p ≡ []
row_beyond [] p b h = refl
row_beyond (r ∷ rs) p b h = row_below r rs p (omega (arith, full_bottom r b.0, h)) ∙ row_beyond rs p b.2 h

row_before : (rs : List Rect) (p : ℕ) → IsBanded rs → p < first_offset → row rs p ≡ []
row_before [] p b h = refl
row_before (r ∷ rs) p b h = row_above r rs p (omega (arith, full_top r b.0, h)) ∙ row_before rs p b.2 h

-- two regions, combined
pub combined_none : (how : Combine) (first second : List Rect) → IsBanded first → IsBanded second → IsCombined how first second first second [] [] 33554431 first_offset
combined_none how first second a b = record {
  ahead_first = ahead_first_row first a;
  ahead_second = ahead_first_row second b;
  drawn = omega arith;
  lower = omega arith;
  upper = omega arith;
  same_first = λ p h. refl;
  same_second = λ p h. refl;
  built = record { banded = tt; done = tt; spread = tt; began = tt; differ = tt };
  kept = λ x p h. sym (rw (row_before first p a h, row_before second p b h) (keeps_none how));
}

kept_same : (how : Combine) (all_first all_second first second : List Rect) (rects : List Rect) (now : List Span) (from y later : ℕ)
    → IsCombined how all_first all_second first second rects now from y → y < later
    → ((x p : ℕ) → y ≤ p → p < later → on now x ≡ keeps how (on (row all_first p) x) (on (row all_second p) x))
    → (x p : ℕ) → p < later → on (row (rects ++ rects_of now from later) p) x ≡ keeps how (on (row all_first p) x) (on (row all_second p) x)
kept_same how all_first all_second first second rects now from y later so more is x p h = ⊎_elim
    (λ (low : p < y). ⊎_elim
    (λ (before : p < from).
    ap (λ z. on z x) (row_drawn_before rects now from later p before ∙ sym (row_drawn_before rects now from y p before)) ∙ so.kept x p low)
    (λ (within : from ≤ p).
    ap (λ z. on z x) (row_drawn rects now from later p so.built.done so.built.spread within h ∙ sym (row_drawn rects now from y p so.built.done so.built.spread within low)) ∙ so.kept x p low)
    (cases_lt p from))
    (λ (high : y ≤ p). ap (λ z. on z x) (row_drawn rects now from later p so.built.done so.built.spread (omega (arith, so.drawn, high)) h) ∙ is x p high h)
    (cases_lt p y)

kept_turn : (how : Combine) (all_first all_second first second : List Rect) (rects : List Rect) (now next : List Span) (from y later : ℕ)
    → IsCombined how all_first all_second first second rects now from y → y < later → IsSpread next
    → ((x p : ℕ) → y ≤ p → p < later → on next x ≡ keeps how (on (row all_first p) x) (on (row all_second p) x))
    → (x p : ℕ) → p < later → on (row ((rects ++ rects_of now from y) ++ rects_of next y later) p) x ≡ keeps how (on (row all_first p) x) (on (row all_second p) x)
kept_turn how all_first all_second first second rects now next from y later so more spread is x p h = ⊎_elim
    (λ (low : p < y). ap (λ z. on z x) (row_drawn_before (rects ++ rects_of now from y) next y later p low) ∙ so.kept x p low)
    (λ (high : y ≤ p).
    ap (λ z. on z x) (row_drawn (rects ++ rects_of now from y) next y later p
    (ends-append from y rects (rects_of now from y) so.built.done (omega (arith, so.drawn)) (ends_rects now from y (omega (arith, so.drawn)))) spread high h) ∙ is x p high h)
    (cases_lt p y)

pub combined_more : (how : Combine) (all_first all_second first second later_first later_second : List Rect) (rects rects' : List Rect) (now now' next first_row second_row : List Span) (from from' y later next_first next_second : ℕ)
    → IsCombined how all_first all_second first second rects now from y
    → first_row ≡ row first y → second_row ≡ row second y
    → IsSpread next → ((x : ℕ) → on next x ≡ keeps how (on first_row x) (on second_row x))
    → Turned rects now from next y rects' now' from'
    → y < next_first → next_first ≤ past_all → ((p : ℕ) → y ≤ p → p < next_first → row first p ≡ row first y)
    → y < next_second → ((p : ℕ) → y ≤ p → p < next_second → row second p ≡ row second y)
    → later ≡ min next_first next_second
    → IsAheadRows later_first later → IsAheadRows later_second later
    → ((p : ℕ) → later ≤ p → row later_first p ≡ row first p) → ((p : ℕ) → later ≤ p → row later_second p ≡ row second p)
    → IsCombined how all_first all_second later_first later_second rects' now' from' later
combined_more how all_first all_second first second later_first later_second rects rects' now now' next first_row second_row from from' y later next_first next_second
    so is_first is_second spread is_next turned more_first to_first same_first more_second same_second is_later ahead_f ahead_s later_f later_s =
    let more : y < later = omega (arith, is_later, more_first, more_second) in
    let is : (x p : ℕ) → y ≤ p → p < later → on next x ≡ keeps how (on (row all_first p) x) (on (row all_second p) x) = λ x p from to.
    is_next x ∙ rw (is_first, is_second, ← same_first p from (omega (arith, to, is_later)), ← same_second p from (omega (arith, to, is_later)), so.same_first p from, so.same_second p from) refl in
    let upper : later ≤ past_all = omega (arith, is_later, to_first) in
    let lower : first_offset ≤ later = omega (arith, so.lower, more) in
    let rest_first : (p : ℕ) → later ≤ p → row later_first p ≡ row all_first p = λ p h. later_f p h ∙ so.same_first p (omega (arith, more, h)) in
    let rest_second : (p : ℕ) → later ≤ p → row later_second p ≡ row all_second p = λ p h. later_s p h ∙ so.same_second p (omega (arith, more, h)) in
    ⊎_elim
    (λ (same : (next ≡ now) × (rects' ≡ rects) × (now' ≡ now) × (from' ≡ from)).
    rw (same.1, same.2, same.3) (record {
      ahead_first = ahead_f;
      ahead_second = ahead_s;
      drawn = omega (arith, so.drawn, more);
      lower = lower;
      upper = upper;
      same_first = rest_first;
      same_second = rest_second;
      built = so.built;
      kept = kept_same how all_first all_second first second rects now from y later so more (λ x p from to. ap (λ z. on z x) (sym same.0) ∙ is x p from to);
    }))
    (λ (other : (next ≢ now) × (rects' ≡ rects ++ rects_of now from y) × (now' ≡ next) × (from' ≡ y)).
    rw (other.1, other.2, other.3) (record {
      ahead_first = ahead_f;
      ahead_second = ahead_s;
      drawn = more;
      lower = lower;
      upper = upper;
      same_first = rest_first;
      same_second = rest_second;
      built = built_turn rects now next from y so.built so.drawn so.lower so.upper spread other.0;
      kept = kept_turn how all_first all_second first second rects now next from y later so more spread is;
    }))
    turned

pub combined_all : (how : Combine) (all_first all_second first second : List Rect) (rects : List Rect) (now : List Span) (from y : ℕ)
    → IsCombined how all_first all_second first second rects now from y → past_all ≤ y → IsBanded all_first → IsBanded all_second
    → (x p : ℕ) → on (row (rects ++ rects_of now from y) p) x ≡ keeps how (on (row all_first p) x) (on (row all_second p) x)
combined_all how all_first all_second first second rects now from y so end a b x p = ⊎_elim
    (λ (low : p < y). so.kept x p low)
    (λ (high : y ≤ p).
    ap (λ z. on z x) (row_drawn_after rects now from y p so.built.done (omega (arith, so.drawn)) high)
    ∙ sym (rw (row_beyond all_first p a (omega (arith, end, high)), row_beyond all_second p b (omega (arith, end, high))) (keeps_none how)))
    (cases_lt p y)

-- whether two rows are the same
decide : (x y : Bool) (P : Type 0) → (x ≡ true → y ≡ true → P) → (P → x ≡ true) → (P → y ≡ true) → Decides (x && y) P
decide x y P f g h = ((λ e. let both = and_parts x y e in f both.0 both.1), (λ p. and_from x y (g p) (h p)))

pub span_same : (a b : Span) → a.start ≡ b.start → a.end ≡ b.end → a ≡ b
span_same a b p q =
    let e : record { start = a.start; end = a.end } ≡ record { start = b.start; end = b.end } = rw (p, q) refl in e

pub span_decides : (a b : Span) → Decides (nat_eq a.start b.start && nat_eq a.end b.end) (a ≡ b)
span_decides a b =
    decide _ _ (a ≡ b) (λ p q. span_same a b (eqb-true _ _ p) (eqb-true _ _ q))
    (λ e. eq-eqb _ _ (ap (λ (s : Span). s.start) e)) (λ e. eq-eqb _ _ (ap (λ (s : Span). s.end) e))

rows_false : (xs ys : List Span) (r : Bool) → Decides r (xs ≡ ys) → r ≡ false → xs ≢ ys
rows_false xs ys r d h = λ e. false≢true (sym h ∙ d.1 e)

pub same_rows : (xs ys : List Span) (r : Bool) → r ≡ pointwise (λ (a b : Span). nat_eq a.start b.start && nat_eq a.end b.end) xs ys → r ≡ true → xs ≡ ys
same_rows xs ys r is h = (slice_eq-Decides span_decides xs ys r is).0 h

pub other_rows : (xs ys : List Span) (r : Bool) → r ≡ pointwise (λ (a b : Span). nat_eq a.start b.start && nat_eq a.end b.end) xs ys → r ≡ false → xs ≢ ys
other_rows xs ys r is h = rows_false xs ys r (slice_eq-Decides span_decides xs ys r is) h

-- a row of rectangles, one more
pub rects_of-snoc : (ss : List Span) (s : Span) (t b : ℕ) → rects_of (ss ++ s ∷ []) t b ≡ rects_of ss t b ++ rect_of s t b ∷ []
rects_of-snoc [] s t b = refl
rects_of-snoc (x ∷ ss) s t b = ap (λ z. rect_of x t b ∷ z) (rects_of-snoc ss s t b)

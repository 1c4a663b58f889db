-- Equal sets have equal lists.
use Rattle.std.proofs.Common.{◌≡◌, ◌≢◌, ℕ, ◌<◌, ◌≤◌, List, [], ◌∷◌, refl, sym, ◌∙◌, ap, arith, ⊎_elim, Bool, true, false, inl, inr}
use Rattle.std.specs.Prelude.{ℤ, pos, negsuc, ◌-ℤ◌, ◌≤ℤ◌, ◌⊎◌}
use Rattle.std.specs.Prelude.{◌&&◌, nat_eq}
use Rattle.std.specs.Bool.{Decides}
use Rattle.std.specs.Ordering.{int_eq}
use Rattle.std.specs.Cmp.Lexicographic.{pointwise}
use Rattle.std.proofs.lemmas.Bool.{cases_lt, false≢true, or_left, or_from}
use Rattle.std.proofs.lemmas.Slice.Eq.{slice_eq-Decides}
use Rattle.std.proofs.lemmas.Int.{ints}
use Rattle.sf_base.proofs.Decisions.{rect_decides}
use Rattle.sf_base.specs.declared.geometry.Rect.{Rect}
use Rattle.sf_region.specs.Edges.{offset, left, right, top, bottom}
use Rattle.sf_region.specs.Points.{has, IsInBounds, neg_far}
use Rattle.sf_region.specs.Spans.{on, row, IsSpread}
use Rattle.sf_region.specs.Canonical.{IsFull, AllFollow, IsBanded, Changes, IsCanonical}
use Rattle.sf_region.specs.declared.spans.Span.{Span}
use Rattle.sf_region.proofs.SpanLemmas.{span_in, span_before, span_after, on_after, on_dropped}
use Rattle.sf_region.proofs.RowLemmas.{row_in, row_above, row_below, row_over, spread_row}
use Rattle.sf_region.proofs.BandLemmas.{span_same, offset_back, no_span}
use Rattle.sf_region.proofs.PointLemmas.{has_is}

-- spans
on_start : (s : Span) (ss : List Span) → IsSpread (s ∷ ss) → on (s ∷ ss) s.start ≡ true
on_start s ss a = or_left _ _ (span_in s.start s.end s.start (omega arith) a.0.some)

start_le : (t : Span) (ts : List Span) (x : ℕ) → IsSpread (t ∷ ts) → on (t ∷ ts) x ≡ true → t.start ≤ x
start_le t ts x a h = ⊎_elim
    (λ (low : x < t.start).
    absurd (false≢true (sym (or_from _ _ (span_before t.start t.end x low) (on_after t.end ts x a.1 (omega (arith, low, a.0.some)))) ∙ h)))
    (λ (high : t.start ≤ x). high)
    (cases_lt x t.start)

end_le : (s t : Span) (ss ts : List Span) → IsSpread (s ∷ ss) → IsSpread (t ∷ ts) → ((x : ℕ) → on (s ∷ ss) x ≡ on (t ∷ ts) x) → s.start ≡ t.start → s.end ≤ t.end
end_le s t ss ts a b is starts = ⊎_elim
    (λ (less : t.end < s.end).
    let one : on (s ∷ ss) t.end ≡ true = or_left _ _ (span_in s.start s.end t.end (omega (arith, starts, b.0.some)) less) in
    let two : on (t ∷ ts) t.end ≡ false = or_from _ _ (span_after t.start t.end t.end (omega arith)) (on_after t.end ts t.end b.1 (omega arith)) in
    absurd (false≢true (sym two ∙ (sym (is t.end) ∙ one))))
    (λ (most : s.end ≤ t.end). most)
    (cases_lt t.end s.end)

rest_same : (s t : Span) (ss ts : List Span) → IsSpread (s ∷ ss) → IsSpread (t ∷ ts) → ((x : ℕ) → on (s ∷ ss) x ≡ on (t ∷ ts) x) → s.end ≡ t.end → (x : ℕ) → on ss x ≡ on ts x
rest_same s t ss ts a b is ends x = ⊎_elim
    (λ (low : x < s.end). on_after s.end ss x a.1 (omega (arith, low)) ∙ sym (on_after t.end ts x b.1 (omega (arith, low, ends))))
    (λ (high : s.end ≤ x). on_dropped s ss s.end x (omega arith) high ∙ (is x ∙ sym (on_dropped t ts t.end x (omega arith) (omega (arith, high, ends)))))
    (cases_lt x s.end)

same_spans : (ss ts : List Span) → IsSpread ss → IsSpread ts → ((x : ℕ) → on ss x ≡ on ts x) → ss ≡ ts
same_spans [] [] a b is = refl
same_spans [] (t ∷ ts) a b is = absurd (false≢true (is t.start ∙ on_start t ts b))
same_spans (s ∷ ss) [] a b is = absurd (false≢true (sym (is s.start) ∙ on_start s ss a))
same_spans (s ∷ ss) (t ∷ ts) a b is =
    let back : (x : ℕ) → on (t ∷ ts) x ≡ on (s ∷ ss) x = λ x. sym (is x) in
    let one = start_le t ts s.start b (back s.start ∙ on_start s ss a) in
    let two = start_le s ss t.start a (is t.start ∙ on_start t ts b) in
    let starts : s.start ≡ t.start = omega (arith, one, two) in
    let three = end_le s t ss ts a b is starts in
    let four = end_le t s ts ss b a back (sym starts) in
    let ends : s.end ≡ t.end = omega (arith, three, four) in
    let first : s ≡ t = span_same s t starts ends in
    let rest : ss ≡ ts = same_spans ss ts a.2 b.2 (rest_same s t ss ts a b is ends) in
    ap (λ z. z ∷ ss) first ∙ ap (λ z. t ∷ z) rest

-- in a region each rectangle's rows are the same
abbrev Apart : Rect → Rect → Type 0
Apart q r = (bottom q ≤ top r) ⊎ ((bottom r ≤ top q) ⊎ ((top r ≡ top q) × (bottom r ≡ bottom q)))

abbrev AllApart : Rect → List Rect → Type 0
AllApart q [] = Unit {0}
AllApart q (r ∷ rs) = Apart q r × AllApart q rs

abbrev EachApart : List Rect → List Rect → Type 0
EachApart all [] = Unit {0}
EachApart all (q ∷ qs) = AllApart q all × EachApart all qs

steady : (q : Rect) (rs : List Rect) (p : ℕ) → AllApart q rs → top q ≤ p → p < bottom q → row rs p ≡ row rs (top q)
steady q [] p a low high = refl
steady q (r ∷ rs) p a low high = ⊎_elim
    (λ (later : bottom q ≤ top r).
    row_above r rs p (omega (arith, later, high)) ∙ (steady q rs p a.1 low high ∙ sym (row_above r rs (top q) (omega (arith, later, low, high)))))
    (λ (other : (bottom r ≤ top q) ⊎ ((top r ≡ top q) × (bottom r ≡ bottom q))). ⊎_elim
    (λ (before : bottom r ≤ top q).
    row_below r rs p (omega (arith, before, low)) ∙ (steady q rs p a.1 low high ∙ sym (row_below r rs (top q) before)))
    (λ (same : (top r ≡ top q) × (bottom r ≡ bottom q)).
    row_in r rs p (omega (arith, same.0, low)) (omega (arith, same.1, high)) ∙
    (ap (λ z. record { start = left r; end = right r } ∷ z) (steady q rs p a.1 low high) ∙
    sym (row_in r rs (top q) (omega (arith, same.0)) (omega (arith, same.1, low, high)))))
    other)
    a.0

apart_follow : (r : Rect) (rs : List Rect) → AllFollow r rs → AllApart r rs
apart_follow r [] a = tt
apart_follow r (q ∷ qs) a =
    (⊎_elim (λ (later : bottom r ≤ top q). inl later) (λ (here : (top q ≡ top r) × (bottom q ≡ bottom r) × (right r < left q)). inr (inr (here.0, here.1))) a.0, apart_follow r qs a.1)

apart_more : (r : Rect) (all qs : List Rect) → AllFollow r qs → EachApart all qs → EachApart (r ∷ all) qs
apart_more r all [] a e = tt
apart_more r all (q ∷ qs) a e =
    ((⊎_elim (λ (later : bottom r ≤ top q). inr (inl later)) (λ (here : (top q ≡ top r) × (bottom q ≡ bottom r) × (right r < left q)). inr (inr (sym here.0, sym here.1))) a.0, e.0), apart_more r all qs a.1 e.1)

each_apart : (rs : List Rect) → IsBanded rs → EachApart rs rs
each_apart [] b = tt
each_apart (r ∷ rs) b = ((inr (inr (refl, refl)), apart_follow r rs b.1), apart_more r rs rs b.1 (each_apart rs b.2))

-- a rectangle is told by its edges
offset_same : (x y : ℤ) → neg_far ≤ℤ x → neg_far ≤ℤ y → offset x ≡ offset y → x ≡ y
offset_same (pos m) (pos n) h g e = let is : m ≡ n = omega (arith, e) in ap pos is
offset_same (pos m) (negsuc n) h g e = absurd (omega (arith, ints, h, g, e))
offset_same (negsuc m) (pos n) h g e = absurd (omega (arith, ints, h, g, e))
offset_same (negsuc m) (negsuc n) h g e = let is : m ≡ n = omega (arith, ints, h, g, e) in ap negsuc is

pub rect_by : (r q : Rect) → r.x ≡ q.x → r.y ≡ q.y → r.width ≡ q.width → r.height ≡ q.height → r ≡ q
rect_by r q a b c d =
    let e : record { x = r.x; y = r.y; width = r.width; height = r.height } ≡ record { x = q.x; y = q.y; width = q.width; height = q.height } = rw (a, b, c, d) refl in e

same_rect : (r q : Rect) → IsInBounds r → IsInBounds q → left r ≡ left q → right r ≡ right q → top r ≡ top q → bottom r ≡ bottom q → r ≡ q
unfolding left right top bottom
same_rect r q a b l rr t bb = rect_by r q (offset_same r.x q.x a.left b.left l) (offset_same r.y q.y a.top b.top t) (omega (arith, l, rr)) (omega (arith, t, bb))

-- the first rectangles
top_le : (r q : Rect) (rs qs : List Rect) → IsBanded (r ∷ rs) → IsBanded (q ∷ qs) → ((y : ℕ) → row (r ∷ rs) y ≡ row (q ∷ qs) y) → top r ≤ top q
top_le r q rs qs a b is = ⊎_elim
    (λ (low : top q < top r).
    absurd (no_span _ _ (sym (row_over r rs (top q) a low) ∙ (is (top q) ∙ row_in q qs (top q) (omega arith) b.0.high))))
    (λ (high : top r ≤ top q). high)
    (cases_lt (top q) (top r))

bottom_le : (as_all bs_all : List Rect) (r q : Rect) → ((y : ℕ) → row as_all y ≡ row bs_all y) → AllApart q bs_all → IsFull r → top r ≡ top q
    → (row as_all (bottom r) ≢ row as_all (top r)) → bottom q ≤ bottom r
bottom_le as_all bs_all r q is apart full tops change = ⊎_elim
    (λ (less : bottom r < bottom q).
    absurd (change (is (bottom r) ∙ (steady q bs_all (bottom r) apart (omega (arith, tops, full.high)) less ∙ (ap (row bs_all) (sym tops) ∙ sym (is (top r)))))))
    (λ (most : bottom q ≤ bottom r). most)
    (cases_lt (bottom r) (bottom q))

tail_of : (s t : Span) (ss ts : List Span) → s ∷ ss ≡ t ∷ ts → ss ≡ ts
tail_of s t ss ts e = cc

head_of : (s t : Span) (ss ts : List Span) → s ∷ ss ≡ t ∷ ts → s ≡ t
head_of s t ss ts e = cc

rest_rows : (r q : Rect) (rs qs : List Rect) → ((y : ℕ) → row (r ∷ rs) y ≡ row (q ∷ qs) y) → top r ≡ top q → bottom r ≡ bottom q → (y : ℕ) → row rs y ≡ row qs y
rest_rows r q rs qs is tops bottoms y = ⊎_elim
    (λ (low : y < top r). sym (row_above r rs y low) ∙ (is y ∙ row_above q qs y (omega (arith, low, tops))))
    (λ (high : top r ≤ y). ⊎_elim
    (λ (in_it : y < bottom r).
    let e : record { start = left r; end = right r } ∷ row rs y ≡ record { start = left q; end = right q } ∷ row qs y =
    sym (row_in r rs y high in_it) ∙ (is y ∙ row_in q qs y (omega (arith, high, tops)) (omega (arith, in_it, bottoms))) in
    tail_of _ _ _ _ e)
    (λ (past : bottom r ≤ y). sym (row_below r rs y past) ∙ (is y ∙ row_below q qs y (omega (arith, past, bottoms))))
    (cases_lt y (bottom r)))
    (cases_lt y (top r))

same_lists : (all_a all_b as_ bs : List Rect) → ((y : ℕ) → row all_a y ≡ row all_b y) → EachApart all_a as_ → EachApart all_b bs
    → IsBanded as_ → IsBanded bs → Changes all_a as_ → Changes all_b bs → ((y : ℕ) → row as_ y ≡ row bs y) → as_ ≡ bs
same_lists all_a all_b [] [] whole ea eb a b ca cb is = refl
same_lists all_a all_b [] (q ∷ qs) whole ea eb a b ca cb is = absurd (no_span _ _ (is (top q) ∙ row_in q qs (top q) (omega arith) b.0.high))
same_lists all_a all_b (r ∷ rs) [] whole ea eb a b ca cb is = absurd (no_span _ _ (sym (is (top r)) ∙ row_in r rs (top r) (omega arith) a.0.high))
same_lists all_a all_b (r ∷ rs) (q ∷ qs) whole ea eb a b ca cb is =
    let back : (y : ℕ) → row (q ∷ qs) y ≡ row (r ∷ rs) y = λ y. sym (is y) in
    let whole_back : (y : ℕ) → row all_b y ≡ row all_a y = λ y. sym (whole y) in
    let one = top_le r q rs qs a b is in
    let two = top_le q r qs rs b a back in
    let tops : top r ≡ top q = omega (arith, one, two) in
    let three = bottom_le all_a all_b r q whole eb.0 a.0 tops ca.0 in
    let four = bottom_le all_b all_a q r whole_back ea.0 b.0 (sym tops) cb.0 in
    let bottoms : bottom r ≡ bottom q = omega (arith, three, four) in
    let firsts : record { start = left r; end = right r } ∷ row rs (top r) ≡ record { start = left q; end = right q } ∷ row qs (top r) =
    sym (row_in r rs (top r) (omega arith) a.0.high) ∙ (is (top r) ∙ row_in q qs (top r) (omega (arith, tops)) (omega (arith, bottoms, a.0.high))) in
    let span = head_of _ _ _ _ firsts in
    let first : r ≡ q = same_rect r q a.0.near b.0.near (ap (λ (s : Span). s.start) span) (ap (λ (s : Span). s.end) span) tops bottoms in
    let rest : rs ≡ qs = same_lists all_a all_b rs qs whole ea.1 eb.1 a.2 b.2 ca.1 cb.1 (rest_rows r q rs qs is tops bottoms) in
    ap (λ z. z ∷ rs) first ∙ ap (λ z. q ∷ z) rest

pub same_region : (rs qs : List Rect) → IsCanonical rs → IsCanonical qs → ((x y : ℤ) → has rs x y ≡ has qs x y) → rs ≡ qs
same_region rs qs a b is =
    let at : (x y : ℕ) → on (row rs y) x ≡ on (row qs y) x = λ x y.
    let zx : ℤ = pos x -ℤ pos 67108864 in
    let zy : ℤ = pos y -ℤ pos 67108864 in
    let one : has rs zx zy ≡ on (row rs y) x = has_is rs zx zy a.banded ∙ rw (offset_back x, offset_back y) refl in
    let two : has qs zx zy ≡ on (row qs y) x = has_is qs zx zy b.banded ∙ rw (offset_back x, offset_back y) refl in
    sym one ∙ (is zx zy ∙ two) in
    let rows : (y : ℕ) → row rs y ≡ row qs y = λ y. same_spans (row rs y) (row qs y) (spread_row rs y a.banded) (spread_row qs y b.banded) (λ x. at x y) in
    same_lists rs qs rs qs rows (each_apart rs a.banded) (each_apart qs b.banded) a.banded b.banded a.changes b.changes rows

-- whether two lists of rectangles are the same
pub lists_decide : (rs qs : List Rect) (b : Bool)
    → b ≡ pointwise (λ (r q : Rect). int_eq r.x q.x && (int_eq r.y q.y && (nat_eq r.width q.width && nat_eq r.height q.height))) rs qs → Decides b (rs ≡ qs)
lists_decide rs qs b is = slice_eq-Decides rect_decides rs qs b is

-- Places in spans.
use Rattle.std.proofs.Common.{◌≡◌, ℕ, ◌+◌, ◌<◌, ◌≤◌, List, [], ◌∷◌, ◌++◌, refl, sym, ◌∙◌, arith, ⊎_elim, Bool, true, false}
use Rattle.std.specs.Prelude.{◌&&◌, ◌||◌, nat_le, nat_lt, min, Option, Some, None, length, slice_index_or}
use Rattle.std.proofs.lemmas.Bool.{lt-leb, le-leb, le-ltb, lt-ltb, and_left, and_right, and_from, or_from, or_left, or_right, cases_lt}
use Rattle.sf_region.specs.Edges.{first_offset, past_all}
use Rattle.sf_region.specs.Spans.{on, keeps, IsProper, AllAfter, AllBefore, IsSpread, IsAhead, closed, next_open, next_done, BeganBetween, IsSwept}
use Rattle.sf_region.specs.declared.spans.Span.{Span}
use Rattle.sf_region.specs.declared.combine.Combine.{Combine}
use Rattle.sf_region.specs.declared.combine.Combine.TheVariants.{Union, Intersect, Subtract}

pub keeps_none : (how : Combine) → keeps how false false ≡ false
keeps_none Union = refl
keeps_none Intersect = refl
keeps_none Subtract = refl

-- one span
pub span_before : (s e p : ℕ) → p < s → (nat_le s p && nat_lt p e) ≡ false
span_before s e p h = and_left _ _ (lt-leb s p h)

pub span_after : (s e p : ℕ) → e ≤ p → (nat_le s p && nat_lt p e) ≡ false
span_after s e p h = and_right _ _ (le-ltb p e h)

pub span_in : (s e p : ℕ) → s ≤ p → p < e → (nat_le s p && nat_lt p e) ≡ true
span_in s e p h g = and_from _ _ (le-leb s p h) (lt-ltb p e g)

pub or_false : (b : Bool) → (b || false) ≡ b
or_false true = refl
or_false false = refl

-- spans
pub on_after : (n : ℕ) (ss : List Span) (p : ℕ) → AllAfter n ss → p ≤ n → on ss p ≡ false
on_after n [] p a h = refl
on_after n (s ∷ ss) p a h = or_from _ _ (span_before s.start s.end p (omega (arith, a.0, h))) (on_after n ss p a.1 h)

pub on_before : (n : ℕ) (ss : List Span) (p : ℕ) → AllBefore n ss → n ≤ p + 1 → on ss p ≡ false
on_before n [] p a h = refl
on_before n (s ∷ ss) p a h = or_from _ _ (span_after s.start s.end p (omega (arith, a.0, h))) (on_before n ss p a.1 h)

pub on_first : (ss : List Span) (p : ℕ) → IsSpread ss → p < first_offset → on ss p ≡ false
on_first [] p a h = refl
on_first (s ∷ ss) p a h = or_from _ _ (span_before s.start s.end p (omega (arith, a.0.from, h))) (on_first ss p a.2 h)

pub on_last : (ss : List Span) (p : ℕ) → IsSpread ss → past_all ≤ p → on ss p ≡ false
on_last [] p a h = refl
on_last (s ∷ ss) p a h = or_from _ _ (span_after s.start s.end p (omega (arith, a.0.to, h))) (on_last ss p a.2 h)

or-assoc : (a b c : Bool) → (a || (b || c)) ≡ ((a || b) || c)
or-assoc true b c = refl
or-assoc false b c = refl

pub on-append : (xs ys : List Span) (p : ℕ) → on (xs ++ ys) p ≡ (on xs p || on ys p)
on-append [] ys p = refl
on-append (s ∷ xs) ys p = rw (on-append xs ys p) (or-assoc (nat_le s.start p && nat_lt p s.end) (on xs p) (on ys p))

pub all_after_less : (m n : ℕ) (ss : List Span) → m ≤ n → AllAfter n ss → AllAfter m ss
all_after_less m n [] h a = tt
all_after_less m n (s ∷ ss) h a = (omega (arith, a.0, h), all_after_less m n ss h a.1)

pub all_before_more : (m n : ℕ) (ss : List Span) → m ≤ n → AllBefore m ss → AllBefore n ss
all_before_more m n [] h a = tt
all_before_more m n (s ∷ ss) h a = (omega (arith, a.0, h), all_before_more m n ss h a.1)

pub all_before_snoc : (n : ℕ) (ss : List Span) (t : Span) → AllBefore n ss → t.end < n → AllBefore n (ss ++ t ∷ [])
all_before_snoc n [] t a h = (h, tt)
all_before_snoc n (s ∷ ss) t a h = (a.0, all_before_snoc n ss t a.1 h)

all_after_snoc : (n : ℕ) (ss : List Span) (t : Span) → AllAfter n ss → n < t.start → AllAfter n (ss ++ t ∷ [])
all_after_snoc n [] t a h = (h, tt)
all_after_snoc n (s ∷ ss) t a h = (a.0, all_after_snoc n ss t a.1 h)

pub spread_snoc : (ss : List Span) (t : Span) → IsSpread ss → AllBefore t.start ss → IsProper t → IsSpread (ss ++ t ∷ [])
spread_snoc [] t a b h = (h, tt, tt)
spread_snoc (s ∷ ss) t a b h = (a.0, all_after_snoc s.end ss t a.1 b.0, spread_snoc ss t a.2 b.1 h)

-- the first span tells of the offsets before its end
pub inside_is : (s : Span) (ss : List Span) (x : ℕ) → IsSpread (s ∷ ss) → x < s.end → on (s ∷ ss) x ≡ nat_le s.start x
inside_is s ss x a h = ⊎_elim
    (λ (low : x < s.start). or_from _ _ (span_before s.start s.end x low) (on_after s.end ss x a.1 (omega (arith, h))) ∙ sym (lt-leb s.start x low))
    (λ (high : s.start ≤ x). or_left _ _ (span_in s.start s.end x high h) ∙ sym (le-leb s.start x high))
    (cases_lt x s.start)

pub same_before : (s : Span) (ss : List Span) (x p : ℕ) → IsSpread (s ∷ ss) → x < s.start → x ≤ p → p < s.start → on (s ∷ ss) p ≡ on (s ∷ ss) x
same_before s ss x p a h from to =
    let end = a.0.some in
    let one : on (s ∷ ss) p ≡ false = inside_is s ss p a (omega (arith, end, to)) ∙ lt-leb s.start p to in
    let two : on (s ∷ ss) x ≡ false = inside_is s ss x a (omega (arith, end, h)) ∙ lt-leb s.start x h in
    one ∙ sym two

pub same_within : (s : Span) (ss : List Span) (x p : ℕ) → IsSpread (s ∷ ss) → s.start ≤ x → x ≤ p → p < s.end → on (s ∷ ss) p ≡ on (s ∷ ss) x
same_within s ss x p a h from to =
    let one : on (s ∷ ss) p ≡ true = or_left _ _ (span_in s.start s.end p (omega (arith, h, from)) to) in
    let two : on (s ∷ ss) x ≡ true = or_left _ _ (span_in s.start s.end x h (omega (arith, from, to))) in
    one ∙ sym two

pub on_dropped : (s : Span) (ss : List Span) (x p : ℕ) → s.end ≤ x → x ≤ p → on ss p ≡ on (s ∷ ss) p
on_dropped s ss x p h from = rw (span_after s.start s.end p (omega (arith, h, from))) refl

pub ahead_first : (ss : List Span) → IsSpread ss → IsAhead ss first_offset
ahead_first [] a = record { spread = a; ends = tt }
ahead_first (s ∷ ss) a = record { spread = a; ends = omega (arith, a.0.from, a.0.some) }

-- a step of the sweep
pub drawn_before : (out : List Span) (began : Option ℕ) (inside : Bool) (x next p : ℕ) → BeganBetween out began x → x < next → p < x
    → on (closed (next_done out began inside x) (next_open began inside x) next) p ≡ on (closed out began x) p
drawn_before out None true x next p b h low =
    on-append out (record { start = x; end = next } ∷ []) p ∙ rw (span_before x next p low) (or_false (on out p))
drawn_before out None false x next p b h low = refl
drawn_before out (Some s) true x next p b h low =
    on-append out (record { start = s; end = next } ∷ []) p ∙ rw (lt-ltb p next (omega (arith, h, low)), ← lt-ltb p x low) (sym (on-append out (record { start = s; end = x } ∷ []) p))
drawn_before out (Some s) false x next p b h low = refl

pub drawn_at : (out : List Span) (began : Option ℕ) (inside : Bool) (x next p : ℕ) → BeganBetween out began x → x < next → x ≤ p → p < next
    → on (closed (next_done out began inside x) (next_open began inside x) next) p ≡ inside
drawn_at out None true x next p b h from to =
    on-append out (record { start = x; end = next } ∷ []) p ∙ or_right _ _ (or_left _ _ (span_in x next p from to))
drawn_at out None false x next p b h from to = on_before x out p b (omega (arith, from))
drawn_at out (Some s) true x next p b h from to =
    on-append out (record { start = s; end = next } ∷ []) p ∙ or_right _ _ (or_left _ _ (span_in s next p (omega (arith, b.2, from)) to))
drawn_at out (Some s) false x next p b h from to =
    on-append out (record { start = s; end = x } ∷ []) p ∙ or_from _ _ (on_before s out p b.0 (omega (arith, b.2, from))) (or_from _ _ (span_after s x p from) refl)

pub done_spread : (out : List Span) (began : Option ℕ) (inside : Bool) (x : ℕ) → IsSpread out → BeganBetween out began x → x ≤ past_all
    → IsSpread (next_done out began inside x)
done_spread out began true x a b to = a
done_spread out None false x a b to = a
done_spread out (Some s) false x a b to = spread_snoc out _ a b.0 (record { from = b.1; some = b.2; to = to })

pub next_between : (out : List Span) (began : Option ℕ) (inside : Bool) (x next : ℕ) → BeganBetween out began x → first_offset ≤ x → x < next
    → BeganBetween (next_done out began inside x) (next_open began inside x) next
next_between out None true x next b from h = (b, from, h)
next_between out None false x next b from h = all_before_more x next out (omega (arith, h)) b
next_between out (Some s) true x next b from h = (b.0, b.1, omega (arith, b.2, h))
next_between out (Some s) false x next b from h =
    all_before_snoc next out _ (all_before_more s next out (omega (arith, b.2, h)) b.0) h

pub swept_none : (how : Combine) (first second : List Span) → IsSpread first → IsSpread second
    → IsSwept how first second first second [] None first_offset
swept_none how first second a b = record {
  ahead_first = ahead_first first a;
  ahead_second = ahead_first second b;
  from = omega arith;
  to = omega arith;
  same_first = λ p h. refl;
  same_second = λ p h. refl;
  spread = tt;
  between = tt;
  kept = λ p h. sym (rw (on_first first p a h, on_first second p b h) (keeps_none how));
}

pub swept_more : (how : Combine) (all_first all_second first second later_first later_second done later_done : List Span) (began later_open : Option ℕ) (inside in_first in_second : Bool) (x next next_first next_second : ℕ)
    → IsSwept how all_first all_second first second done began x
    → in_first ≡ on first x → in_second ≡ on second x → inside ≡ keeps how in_first in_second
    → x < next_first → next_first ≤ past_all → ((p : ℕ) → x ≤ p → p < next_first → on first p ≡ on first x)
    → x < next_second → ((p : ℕ) → x ≤ p → p < next_second → on second p ≡ on second x)
    → next ≡ min next_first next_second
    → later_done ≡ next_done done began inside x → later_open ≡ next_open began inside x
    → IsAhead later_first next → IsAhead later_second next
    → ((p : ℕ) → next ≤ p → on later_first p ≡ on first p) → ((p : ℕ) → next ≤ p → on later_second p ≡ on second p)
    → IsSwept how all_first all_second later_first later_second later_done later_open next
swept_more how all_first all_second first second later_first later_second done later_done began later_open inside in_first in_second x next next_first next_second
    so is_first is_second is_inside more_first to_first same_first more_second same_second is_next is_done is_open ahead_f ahead_s later_f later_s =
    let more : x < next = omega (arith, is_next, more_first, more_second) in
    rw (is_done, is_open) (record {
      ahead_first = ahead_f;
      ahead_second = ahead_s;
      from = omega (arith, so.from, more);
      to = omega (arith, is_next, to_first);
      same_first = λ p h. later_f p h ∙ so.same_first p (omega (arith, more, h));
      same_second = λ p h. later_s p h ∙ so.same_second p (omega (arith, more, h));
      spread = done_spread done began inside x so.spread so.between so.to;
      between = next_between done began inside x next so.between so.from more;
      kept = λ p h. ⊎_elim
          (λ (low : p < x). drawn_before done began inside x next p so.between more low ∙ so.kept p low)
          (λ (high : x ≤ p).
          drawn_at done began inside x next p so.between more high h ∙
          (is_inside ∙ rw (is_first, is_second, ← so.same_first p high, ← so.same_second p high, same_first p high (omega (arith, h, is_next)), same_second p high (omega (arith, h, is_next))) refl))
          (cases_lt p x);
    })

beyond : (done : List Span) (began : Option ℕ) (x p : ℕ) → BeganBetween done began x → x ≤ p → on (closed done began x) p ≡ false
beyond done None x p b h = on_before x done p b (omega (arith, h))
beyond done (Some s) x p b h =
    on-append done (record { start = s; end = x } ∷ []) p ∙ or_from _ _ (on_before s done p b.0 (omega (arith, b.2, h))) (or_from _ _ (span_after s x p h) refl)

-- the end of the sweep
pub swept_all : (how : Combine) (all_first all_second first second done : List Span) (began : Option ℕ) (x : ℕ)
    → IsSwept how all_first all_second first second done began x → past_all ≤ x → IsSpread all_first → IsSpread all_second
    → (p : ℕ) → on (next_done done began false x) p ≡ keeps how (on all_first p) (on all_second p)
swept_all how all_first all_second first second done began x so end a b p = ⊎_elim
    (λ (low : p < x). so.kept p low)
    (λ (high : x ≤ p).
    beyond done began x p so.between high ∙ sym (rw (on_last all_first p a (omega (arith, end, high)), on_last all_second p b (omega (arith, end, high))) (keeps_none how)))
    (cases_lt p x)

-- the first of some spans
pub inside_first : (ss : List Span) (x : ℕ) (d : Span) → 1 ≤ length ss → IsAhead ss x → nat_le (slice_index_or ss 0 d).start x ≡ on ss x
inside_first [] x d h a = absurd (omega (arith, h))
inside_first (s ∷ ss) x d h a = sym (inside_is s ss x a.spread a.ends)

pub before_first : (ss : List Span) (x : ℕ) (d : Span) → 1 ≤ length ss → IsAhead ss x → x < (slice_index_or ss 0 d).start
    → (p : ℕ) → x ≤ p → p < (slice_index_or ss 0 d).start → on ss p ≡ on ss x
before_first [] x d h a low p from to = absurd (omega (arith, h))
before_first (s ∷ ss) x d h a low p from to = same_before s ss x p a.spread low from to

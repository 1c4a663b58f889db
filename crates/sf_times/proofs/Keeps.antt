-- Each step keeps the rule.
use Rattle.std.proofs.Common.{◌≡◌, ℕ, true, zero, suc, ◌+◌, ◌<◌, ◌≤◌, ◌≢◌, max, List, [], ◌∷◌, ◌++◌, length, get_or, set, sym, refl, ap, ◌∙◌, subst, inl, inr, ⊎_elim, arith, le_refl, le_trans, length-set, get_or-set_other, get_or-set_same, replicate}
use Rattle.std.specs.List.{Contains, sum_by}
use Rattle.std.proofs.lemmas.List.Elements.{Contains-append_left, Contains-append_right, Contains-append_cases, Contains-push, Contains-push_cases}
use Rattle.std.proofs.lemmas.List.Sums.{sum_by-cons, sum_by-append}
use Rattle.std.proofs.lemmas.List.{set-get_or, get_or-replicate}
use mathlib.Core.Logic.{dite}
use mathlib.Core.Option.{Option, none, some, some-injective, some-ne-none}
use native.Mathlib.Decide.{dec_le, ℕ_discrete}
use lib.ListN.{get_elem?}
use Rattle.atomic_table.specs.Table.{State, Me, step, keeps, opening, Allows, Splits, Joins}
use Rattle.atomic_table.proofs.Lists.{at_set, set_here, set_else, at_snoc, at_longer}
use Rattle.sf_times.specs.declared.protocol.Knows.{Knows}
use Rattle.sf_base.specs.Points.{greatest, value_at}
use Rattle.sf_times.specs.inner.Rule.{WasSignalled, WasReached, live_of, Fits, Kept, Loads, Audits, Raises}
use Rattle.sf_times.specs.Seats.{opened, spent, lending, split_off, joined, loaded, raised, IsAlone, OnlyOwnSignals}
use Rattle.sf_base.proofs.Lists.{inside, same_at, sum_set, two_le}
use Rattle.sf_base.proofs.PointLemmas.{value_here, value_else, greatest-append, greatest-last, has_le}

abbrev St : Type 0
St = State (Unit {0}) Knows

abbrev M : Type 0
M = Me (Unit {0}) Knows

-- a signal leaves what the first seat, alone, was shown
pub still_told : (v : Knows) (q : ℕ × ℕ) → (IsAlone v → OnlyOwnSignals v) → IsAlone (raised v q) → OnlyOwnSignals (raised v q)
still_told v q told a = let own = told a in record {
  shown = λ p h. ⊎_elim inl (λ (g : Contains v.signals p). inr (Contains-append_left v.signals (q ∷ []) p g)) (own.shown p h);
  known = λ t low high. let le = own.known t low high in omega (arith, greatest-last t v.known q, greatest-last t v.signals q);
}

-- a view whose place in the rule is told anew: the words rise, what was told stays told
refit : (words words' : List ℕ) (views views' : List Knows) (j : ℕ) (u : Knows) → ((t : ℕ) → t < 65 → get_or words t 0 ≤ get_or words' t 0) → ((p : ℕ × ℕ) → WasReached views p → WasReached views' p)
    → (u.is_first ≡ true → (j ≡ 0) × (u.live ≡ 1) × (sum_by live_of views' ≤ 1 + u.out)) → Fits words views j u → Fits words' views' j u
refit words words' views views' j u up keep first f = record {
  below = λ t small. le_trans (f.below t small) (up t small);
  signals_below = λ t small. le_trans (f.signals_below t small) (up t small);
  told = λ p h. keep p (f.told p h);
  one = f.one;
  spent = f.spent;
  first = first;
}

-- what was told stays so where the view at id is replaced by one that has its signals
stays : (views : List Knows) (id : ℕ) (v w : Knows) → get_elem? views id ≡ some v → ((p : ℕ × ℕ) → Contains v.signals p → Contains w.signals p) → (p : ℕ × ℕ) → WasReached views p → WasReached (set views id w) p
stays views id v w at grow p = ⊎_elim inl (λ (h : WasSignalled views p). inr (dite (ℕ_discrete h.0 id)
    (λ e. (id, w, set_here views id w (inside views id v at), grow p (subst (λ (z : Knows). Contains z.signals p) (same_at views h.0 id h.1 v e h.2 at) h.3)))
    (λ ne. (h.0, h.1, set_else views id h.0 w ne ∙ h.2, h.3))))

risen : (words : List ℕ) (i n t : ℕ) → i < length words → get_or words i 0 ≤ n → get_or words t 0 ≤ get_or (set words i n) t 0
risen words i n t small up = dite (ℕ_discrete t i)
    (λ e. subst (λ (z : ℕ). get_or words z 0 ≤ get_or (set words i n) z 0) (sym e) (subst (λ (z : ℕ). get_or words i 0 ≤ z) (sym (get_or-set_same words i n 0 small)) up))
    (λ ne. subst (λ (z : ℕ). get_or words t 0 ≤ z) (sym (get_or-set_other words i t n 0 ne)) (le_refl _))

module _ (s : St) (r : Kept s) (id : ℕ) (v : Knows) (at : get_elem? s.views id ≡ some v) where
  -- a step of the seat id that raises the word i to n
  moved : (i n : ℕ) (w : Knows) → i < 65 → get_or s.words i 0 ≤ n → w.is_first ≡ v.is_first → w.live ≡ v.live → w.out ≡ v.out → v.live ≡ 1
      → ((p : ℕ × ℕ) → Contains v.signals p → Contains w.signals p)
      → ((t : ℕ) → t < 65 → greatest t w.known ≤ get_or (set s.words i n) t 0)
      → ((t : ℕ) → t < 65 → greatest t w.signals ≤ get_or (set s.words i n) t 0)
      → WasReached (set s.views id w) (i, n)
      → ((p : ℕ × ℕ) → Contains w.shown p → WasReached (set s.views id w) p)
      → (hs : List (Option (Unit {0}))) → Kept record { words = set s.words i n; homes = hs; views = set s.views id w }
  moved i n w small up first seats out one grow below signals_below new told hs =
      let wide = r.wide in
      let keep = stays s.views id v w at grow in
      let mono : (t : ℕ) → t < 65 → get_or s.words t 0 ≤ get_or (set s.words i n) t 0 = λ t _. risen s.words i n t (omega arith) up in
      let total : sum_by live_of (set s.views id w) ≡ sum_by live_of s.views = omega (arith, sum_set live_of s.views id v w at) in
      let mine = r.each id v at in
      record {
        wide = length-set s.words i n ∙ wide;
        met = λ t l. dite (ℕ_discrete t i)
            (λ e. subst (λ (z : ℕ × ℕ). WasReached (set s.views id w) z) (λ k. (sym e k, sym (ap (λ (y : ℕ). get_or (set s.words i n) y 0) e ∙ get_or-set_same s.words i n 0 (omega arith)) k)) new)
            (λ ne. subst (λ (z : ℕ). WasReached (set s.views id w) (t, z)) (sym (get_or-set_other s.words i t n 0 ne)) (keep (t, get_or s.words t 0) (r.met t l)));
        each = λ j u e. ⊎_elim
            (λ (h : (j ≡ id) × (w ≡ u)). subst (λ (z : ℕ × Knows). Fits (set s.words i n) (set s.views id w) z.0 z.1) (λ k. (sym h.0 k, h.1 k)) record {
              below = below;
              signals_below = signals_below;
              told = told;
              one = omega arith;
              spent = λ z. absurd (omega arith);
              first = λ f. let m = mine.first (sym first ∙ f) in (m.0, omega arith, omega (arith, m.2));
            })
            (λ (h : (j ≢ id) × (get_elem? s.views j ≡ some u)). let f = r.each j u h.1 in
            refit s.words (set s.words i n) s.views (set s.views id w) j u mono keep (λ z. let m = f.first z in (m.0, m.1, omega (arith, m.2))) f)
            (at_set s.views id j w u e);
      }

  -- the first seat, while no other is out, has all signals
  alone : v.is_first ≡ true → v.out ≡ 0 → (p : ℕ × ℕ) → WasSignalled s.views p → Contains v.signals p
  alone first out p h = dite (ℕ_discrete h.0 id)
      (λ e. subst (λ (z : Knows). Contains z.signals p) (same_at s.views h.0 id h.1 v e h.2 at) h.3)
      (λ ne. let m = (r.each id v at).first first in
      let two = two_le live_of s.views id h.0 v h.1 ne at h.2 in
      let gone : h.1.signals ≡ [] = (r.each h.0 h.1 h.2).spent (omega (arith, m.1, m.2)) in
      let none = subst (λ (z : List (ℕ × ℕ)). Contains z p) gone h.3 in absurd (omega (arith, none.1)))

  -- so no counter is above what it signalled
  alone_above : v.is_first ≡ true → v.out ≡ 0 → (t : ℕ) → t < 65 → get_or s.words t 0 ≤ greatest t v.signals
  alone_above first out t l = let n : ℕ = get_or s.words t 0 in
      ⊎_elim (λ (z : n ≡ 0). omega arith) (λ (h : WasSignalled s.views (t, n)). has_le t n v.signals (alone first out (t, n) h)) (r.met t l)

pub opens : (words : List ℕ) → words ≡ replicate 65 0 → Kept (opening words [] opened)
opens words e = record {
  wide = ap length e;
  met = λ t l. inl (ap (λ (z : List ℕ). get_or z t 0) e ∙ get_or-replicate 65 t 0 0 l);
  each = first_view;
}
  where
    first_view : (j : ℕ) (v : Knows) → get_elem? (opened ∷ []) j ≡ some v → Fits words (opened ∷ []) j v
    first_view zero v h = subst (λ (z : Knows). Fits words (opened ∷ []) zero z) (some-injective opened v h) record {
      below = λ t l. omega arith;
      signals_below = λ t l. omega arith;
      told = λ p c. absurd (omega (arith, c.1));
      one = omega arith;
      spent = λ _. refl;
      first = λ _. (refl, refl, omega arith);
    }
    first_view (suc j) v h = absurd (some-ne-none v (sym h))

pub loads : (slots id : ℕ) (me : M) (i : ℕ) → i < 65 → me.0.live ≡ 1 → Allows Kept slots id me i (λ n. n) (Loads (step slots i 0 0 none) me)
loads slots id me i small one s r _ at _ = let n : ℕ = get_or s.words i 0 in let v : Knows = me.0 in let w : Knows = loaded v (i, n) in
    let mine = r.each id v at in let here : WasReached s.views (i, n) = r.met i small in
    let keep = stays s.views id v w at (λ p h. h) in
    let same : set s.words i n ≡ s.words = set-get_or s.words i 0 in
    let known : (t : ℕ) → t < 65 → greatest t w.known ≤ get_or s.words t 0 = λ t l. dite (ℕ_discrete i t)
    (λ e. let a = mine.below t l in let b : value_at t (i, n) ≡ n = ap (λ (z : ℕ). value_at z (i, n)) (sym e) ∙ value_here i n in let c : n ≡ get_or s.words t 0 = ap (λ (z : ℕ). get_or s.words z 0) e in omega (arith, greatest-last t v.known (i, n)))
    (λ ne. let a = mine.below t l in let b = value_else t i n ne in omega (arith, greatest-last t v.known (i, n))) in (
      w,
      keeps,
      tt,
      moved s r id v at i n w small (le_refl n) refl refl refl one (λ p h. h)
          (λ t l. subst (λ (z : List ℕ). greatest t w.known ≤ get_or z t 0) (sym same) (known t l))
          (λ t l. subst (λ (z : List ℕ). greatest t w.signals ≤ get_or z t 0) (sym same) (mine.signals_below t l))
          (keep (i, n) here)
          (λ p h. keep p (⊎_elim (mine.told p) (λ (e : (i, n) ≡ p). subst (WasReached s.views) e here) (Contains-push_cases v.shown (i, n) p h)))
          s.homes,
      (
        refl,
        mine.below i small,
        mine.signals_below i small,
        λ (a : IsAlone v). let le = mine.signals_below i small in let above = alone_above s r id v at a.0 a.1 i small in omega arith,
        λ (a : IsAlone v). let all = alone s r id v at a.0 a.1 in record {
          shown = λ p h. ⊎_elim inl (λ (g : WasSignalled s.views p). inr (all p g))
              (⊎_elim (mine.told p) (λ (e : (i, n) ≡ p). subst (WasReached s.views) e here) (Contains-push_cases v.shown (i, n) p h));
          known = λ t low high. le_trans (known t (omega arith)) (alone_above s r id v at a.0 a.1 t (omega arith));
        },
      ),
    )

-- the points of a list with one more stay below the words, of which one rises to it
grown : (words : List ℕ) (ps : List (ℕ × ℕ)) (i k t : ℕ) → i < length words → greatest t ps ≤ get_or words t 0 → greatest t (ps ++ (i, k) ∷ []) ≤ get_or (set words i (max (get_or words i 0) k)) t 0
grown words ps i k t small le = dite (ℕ_discrete i t)
    (λ e. let n : ℕ = get_or words i 0 in
    let a : value_at t (i, k) ≡ k = ap (λ (z : ℕ). value_at z (i, k)) (sym e) ∙ value_here i k in
    let b : get_or (set words i (max n k)) t 0 ≡ max n k = ap (λ (z : ℕ). get_or (set words i (max n k)) z 0) (sym e) ∙ get_or-set_same words i (max n k) 0 small in
    let c : n ≡ get_or words t 0 = ap (λ (z : ℕ). get_or words z 0) e in omega (arith, greatest-last t ps (i, k)))
    (λ ne. let a = value_else t i k ne in let n : ℕ = get_or words i 0 in
    let b : get_or (set words i (max n k)) t 0 ≡ get_or words t 0 = get_or-set_other words i t (max n k) 0 (λ e. ne (sym e)) in omega (arith, greatest-last t ps (i, k)))

pub audits : (slots id : ℕ) (me : M) → me.0.live ≡ 1 → Allows Kept slots id me 0 (λ n. n) (Audits (step slots 0 0 0 none) me)
audits slots id me one s r _ at _ = let n : ℕ = get_or s.words 0 0 in let v : Knows = me.0 in
    let mine = r.each id v at in
    let keep = stays s.views id v v at (λ p h. h) in
    let same : set s.words 0 n ≡ s.words = set-get_or s.words 0 0 in (
      v,
      keeps,
      tt,
      moved s r id v at 0 n v (omega arith) (le_refl n) refl refl refl one (λ p h. h)
          (λ t l. subst (λ (z : List ℕ). greatest t v.known ≤ get_or z t 0) (sym same) (mine.below t l))
          (λ t l. subst (λ (z : List ℕ). greatest t v.signals ≤ get_or z t 0) (sym same) (mine.signals_below t l))
          (keep (0, n) (r.met 0 (omega arith)))
          (λ p h. keep p (mine.told p h))
          s.homes,
      (
        refl,
        λ (a : IsAlone v). let all = alone s r id v at a.0 a.1 in record {
          shown = λ p h. ⊎_elim inl (λ (g : WasSignalled s.views p). inr (all p g)) (mine.told p h);
          known = λ t low high. le_trans (mine.below t (omega arith)) (alone_above s r id v at a.0 a.1 t (omega arith));
        },
      ),
    )

pub raises : (slots id : ℕ) (me : M) (i k : ℕ) → i < 65 → me.0.live ≡ 1 → Allows Kept slots id me i (λ n. max n k) (Raises (step slots i k 0 none) me)
raises slots id me i k small one s r _ at _ = let n : ℕ = get_or s.words i 0 in let v : Knows = me.0 in let w : Knows = raised v (i, k) in
    let mine = r.each id v at in let wide = r.wide in
    let grow : (p : ℕ × ℕ) → Contains v.signals p → Contains w.signals p = λ p h. Contains-append_left v.signals ((i, k) ∷ []) p h in
    let keep = stays s.views id v w at grow in (
      w,
      keeps,
      tt,
      moved s r id v at i (max n k) w small (omega arith) refl refl refl one grow
          (λ t l. grown s.words v.known i k t (omega arith) (mine.below t l))
          (λ t l. grown s.words v.signals i k t (omega arith) (mine.signals_below t l))
          (dite (dec_le k n)
          (λ le. let e : n ≡ max n k = omega arith in subst (λ (z : ℕ). WasReached (set s.views id w) (i, z)) e (keep (i, n) (r.met i small)))
          (λ more. let e : k ≡ max n k = omega arith in subst (λ (z : ℕ). WasReached (set s.views id w) (i, z)) e (inr (id, w, set_here s.views id w (inside s.views id v at), Contains-push v.signals (i, k)))))
          (λ p h. keep p (mine.told p h))
          s.homes,
      refl,
    )

pub splits : (id : ℕ) (v : Knows) → v.is_first ≡ true → v.live ≡ 1 → Splits Kept id v (lending v) (split_off v)
splits id v first one s r at =
    let w : Knows = lending v in let new : Knows = split_off v in
    let mine = r.each id v at in let m = mine.first first in
    let views' : List Knows = set s.views id w ++ new ∷ [] in
    let keep : (p : ℕ × ℕ) → WasReached s.views p → WasReached views' p = λ p h. ⊎_elim inl (λ (g : WasSignalled (set s.views id w) p). inr (g.0, g.1, at_longer (set s.views id w) (new ∷ []) g.0 g.1 g.2, g.3)) (stays s.views id v w at (λ _ x. x) p h) in
    let total : sum_by live_of views' ≡ sum_by live_of s.views + 1 = omega (arith, sum_set live_of s.views id v w at, sum_by-append live_of (set s.views id w) (new ∷ []), sum_by-cons live_of new []) in
    record {
      wide = r.wide;
      met = λ t l. keep (t, get_or s.words t 0) (r.met t l);
      each = λ j u e. ⊎_elim
          (λ (a : get_elem? (set s.views id w) j ≡ some u). ⊎_elim
          (λ (h : (j ≡ id) × (w ≡ u)). subst (λ (z : ℕ × Knows). Fits s.words views' z.0 z.1) (λ k. (sym h.0 k, h.1 k)) record {
            below = mine.below;
            signals_below = mine.signals_below;
            told = λ p c. keep p (mine.told p c);
            one = omega arith;
            spent = λ z. absurd (omega arith);
            first = λ _. (m.0, m.1, omega (arith, m.2));
          })
          (λ (h : (j ≢ id) × (get_elem? s.views j ≡ some u)). let f = r.each j u h.1 in
          refit s.words s.words s.views views' j u (λ _ _. le_refl _) keep (λ z. absurd (h.0 ((f.first z).0 ∙ sym m.0))) f)
          (at_set s.views id j w u a))
          (λ (h : new ≡ u). subst (λ (z : Knows). Fits s.words views' j z) h record {
            below = mine.below;
            signals_below = λ t l. omega arith;
            told = λ p c. keep p (mine.told p c);
            one = omega arith;
            spent = λ _. refl;
            first = λ z. absurd (cc);
          })
          (at_snoc (set s.views id w) new u j e);
    }

pub joins : (id : ℕ) (v : Knows) (other : ℕ) (u : Knows) → v.is_first ≡ true → v.live ≡ 1 → u.live ≡ 1 → Joins Kept id v other u (joined v u) spent
joins id v other u first one live s r at apart there =
    let w : Knows = joined v u in
    let mid : List Knows = set s.views id w in
    let views' : List Knows = set mid other spent in
    let was : get_elem? s.views other ≡ some u = sym (set_else s.views id other w apart) ∙ there in
    let here : get_elem? views' id ≡ some w = set_else mid other id spent (λ e. apart (sym e)) ∙ set_here s.views id w (inside s.views id v at) in
    let mine = r.each id v at in let theirs = r.each other u was in let m = mine.first first in
    let keep : (p : ℕ × ℕ) → WasReached s.views p → WasReached views' p = λ p h. ⊎_elim inl (λ (g : WasSignalled s.views p). inr (dite (ℕ_discrete g.0 id)
    (λ e. (id, w, here, Contains-append_left v.signals u.signals p (subst (λ (z : Knows). Contains z.signals p) (same_at s.views g.0 id g.1 v e g.2 at) g.3)))
    (λ ne. dite (ℕ_discrete g.0 other)
    (λ e. (id, w, here, Contains-append_right v.signals u.signals p (subst (λ (z : Knows). Contains z.signals p) (same_at s.views g.0 other g.1 u e g.2 was) g.3)))
    (λ ne2. (g.0, g.1, set_else mid other g.0 spent ne2 ∙ (set_else s.views id g.0 w ne ∙ g.2), g.3))))) h in
    let total : sum_by live_of views' + 1 ≡ sum_by live_of s.views = omega (arith, sum_set live_of s.views id v w at, sum_set live_of mid other u spent there) in
    record {
      wide = r.wide;
      met = λ t l. keep (t, get_or s.words t 0) (r.met t l);
      each = λ j x e. ⊎_elim
          (λ (h : (j ≡ other) × (spent ≡ x)). subst (λ (z : Knows). Fits s.words views' j z) h.1 record {
            below = λ t l. omega arith;
            signals_below = λ t l. omega arith;
            told = λ p c. absurd (omega (arith, c.1));
            one = omega arith;
            spent = λ _. refl;
            first = λ z. absurd (cc);
          })
          (λ (o : (j ≢ other) × (get_elem? mid j ≡ some x)). ⊎_elim
          (λ (h : (j ≡ id) × (w ≡ x)). subst (λ (z : ℕ × Knows). Fits s.words views' z.0 z.1) (λ k. (sym h.0 k, h.1 k)) record {
            below = λ t l. let a = mine.below t l in let b = theirs.below t l in omega (arith, greatest-append t v.known u.known);
            signals_below = λ t l. let a = mine.signals_below t l in let b = theirs.signals_below t l in omega (arith, greatest-append t v.signals u.signals);
            told = λ p c. keep p (⊎_elim (mine.told p) (theirs.told p) (Contains-append_cases v.shown u.shown p c));
            one = omega arith;
            spent = λ z. absurd (omega arith);
            first = λ _. (m.0, m.1, omega (arith, m.2));
          })
          (λ (h : (j ≢ id) × (get_elem? s.views j ≡ some x)). let f = r.each j x h.1 in
          refit s.words s.words s.views views' j x (λ _ _. le_refl _) keep (λ z. absurd (h.0 ((f.first z).0 ∙ sym m.0))) f)
          (at_set s.views id j w x o.1))
          (at_set mid other j spent x e);
    }

-- Each step keeps the rule of the lock.
use Rattle.std.proofs.Common.{◌≡◌, ℕ, Bool, eqb, true, false, zero, suc, ◌+◌, ◌-◌, ◌<◌, ◌≤◌, ◌≢◌, ◌^◌, ◌%◌, cond, map, List, [], ◌∷◌, ◌++◌, ◌⊎◌, Some, None, length, get_or, set, sym, refl, ap, ◌∙◌, subst, inl, inr, ⊎_elim, arith, le_refl, length-set, get_or-set_other, get_or-set_same, eq-eqb, ne_eqb}
use Rattle.std.specs.List.{Contains, sum_by}
use Rattle.std.proofs.lemmas.List.{set-get_or}
use Rattle.std.proofs.lemmas.List.Sums.{sum_by-cons}
use Rattle.std.proofs.Math.Nat.{mod-eq_of_lt}
use mathlib.Core.Logic.{dite}
use mathlib.Core.Option.{Option, none, some, some-injective, some-ne-none}
use native.Mathlib.Decide.{ℕ_discrete}
use lib.ListN.{get_elem?}
use prog.Atomic.{either}
use Rattle.atomic_table.specs.Table.{State, Me, step, keeps, takes, gives, stepped, opening, Allows, Splits, Joins, put_back, rest}
use Rattle.atomic_table.proofs.Lists.{at_set, set_here, set_else, set_again, at_snoc, at_longer}
use Rattle.sf_calls.specs.declared.protocol.Knows.{Knows}
use Rattle.sf_calls.specs.declared.object.Entry.{Entry}
use Rattle.sf_calls.specs.declared.object.Answer.{Answer}
use Rattle.sf_calls.specs.Histories.{IsLegal, Begins, GoesOnWithout, calls_by, longer}
use Rattle.atomic_table.specs.Seated.{TableId}
use Rattle.sf_calls.specs.Passes.{TookAll}
use Rattle.sf_calls.specs.Views.{PassView, pass_view}
use Rattle.sf_calls.specs.inner.Rule.{ticket_at, number_at, Fits, Kept, opened, spent, giving, given, met, Draws, Asks, Finds, PassesOn, GivesUp, Recalls}
use Rattle.sf_base.proofs.Lists.{inside, same_at, at_le, sum_set, two_le, sum_snoc, zero_sum}
use Rattle.sf_calls.proofs.Histories.{begins_refl, begins_nil, begins_more, begins_trans, longer_begins, calls_here, calls-append, between, no_more}

abbrev one_if : Bool → ℕ
one_if t = cond t 1 0

pub ticket_here : (k n : ℕ) → k ≡ n → ticket_at k (Some n) ≡ 1
ticket_here k n e = ap one_if (eq-eqb k n e)

pub ticket_else : (k n : ℕ) → k ≢ n → ticket_at k (Some n) ≡ 0
ticket_else k n ne = ap one_if (ne_eqb k n ne)

abbrev live_if : ℕ → Bool → ℕ
live_if live t = cond t live 0

pub number_here : (b live by : ℕ) → b ≡ by → number_at b live by ≡ live
number_here b live by e = ap (live_if live) (eq-eqb b by e)

pub number_else : (b live by : ℕ) → b ≢ by → number_at b live by ≡ 0
number_else b live by ne = ap (live_if live) (ne_eqb b by ne)

pub served : (o : Rattle.std.proofs.Common.Option ℕ) (n : ℕ) → (o ≡ Some n) ⊎ (o ≢ Some n)
served None n = inr (λ e. absurd (cc))
served (Some k) n = dite (ℕ_discrete k n) (λ e. inl (ap (λ (z : ℕ). Some z) e)) (λ ne. inr (λ z. ne (let y : Some k ≡ Some n = z in cc)))

-- an element of a list with one more in front
first_or : {A P : Type 0} (a x : A) (xs : List A) → Contains (a ∷ xs) x → (a ≡ x → P) → (Contains xs x → P) → P
first_or a x xs (zero, small, is) here old = here is
first_or a x xs (suc k, small, is) here old = old (k, omega arith, is)

member : (xs : List ℕ) (b : ℕ) → Contains xs b ⊎ (Contains xs b → ⊥)
member [] b = inr (λ c. omega (arith, c.1))
member (x ∷ xs) b = dite (ℕ_discrete x b) (λ e. inl (0, omega arith, e))
    (λ ne. ⊎_elim (λ (c : Contains xs b). inl (suc c.0, omega (arith, c.1), c.2)) (λ (not : Contains xs b → ⊥). inr (λ d. first_or x b xs d (λ e. ne e) not)) (member xs b))

-- a number among those that were taken in was taken in with some history
taken_with : {X : Type 0} (took : List (ℕ × X)) (b : ℕ) → Contains (map (λ (p : ℕ × X). p.0) took) b → (h : X) × Contains took (b, h)
taken_with [] b c = absurd (omega (arith, c.1))
taken_with {X} (p ∷ ps) b c = first_or p.0 b (map (λ (p : ℕ × X). p.0) ps) c
    (λ same. (p.1, (zero, omega arith, λ i. (same i, p.1))))
    (λ old. let t = taken_with ps b old in (t.0, (suc t.1.0, omega (arith, t.1.1), t.1.2)))

module _ {O C R M : Type 0} (history : O → List (Entry C R)) (mark : O → M) (answers : M → List (Entry C R) → ℕ → C → Answer R → Type 0) (key : O) where
  abbrev S : Type 0
  S = Rattle.std.proofs.Common.Option O

  abbrev V : Type 0
  V = Knows C R M

  abbrev St : Type 0
  St = State S V

  abbrev Sat : Type 0
  Sat = Me S V

  abbrev Log : Type 0
  Log = List (Entry C R)

  abbrev Took : Type 0
  Took = ℕ × List (Entry C R)

  abbrev Place : Type 0
  Place = Option (Option S)

  abbrev Rule : St → Type 0
  Rule = Kept history mark answers key

  abbrev F : ℕ → ℕ → Place → Log → List ℕ → ℕ → V → Type 0
  F = Fits history mark answers key

  abbrev nobody : V
  nobody = spent

  abbrev ticket_in : ℕ → V → ℕ
  ticket_in k v = ticket_at k v.ticket

  abbrev number_in : ℕ → V → ℕ
  number_in b v = number_at b v.live v.by

  same_sum : (f : V → ℕ) (l : List V) (i : ℕ) (v w : V) → get_elem? l i ≡ some v → f w ≡ f v → sum_by f (set l i w) ≡ sum_by f l
  same_sum f l i v w at e = omega (arith, sum_set f l i v w at)

  module _ (s : St) (r : Rule s) (id : ℕ) (v : V) (at : get_elem? s.views id ≡ some v) where
    -- no other pass has the ticket
    lone_ticket : (k j : ℕ) (u : V) → v.ticket ≡ Some k → j ≢ id → get_elem? s.views j ≡ some u → u.ticket ≢ Some k
    lone_ticket k j u has ne there has2 =
        let a : ticket_in k v ≡ 1 = ap (ticket_at k) has ∙ ticket_here k k refl in
        let c : ticket_in k u ≡ 1 = ap (ticket_at k) has2 ∙ ticket_here k k refl in
        let two = two_le (ticket_in k) s.views id j v u ne at there in
        let most = r.single k in omega arith

    -- no other pass that is not taken in has the number
    lone_number : (j : ℕ) (u : V) → v.live ≡ 1 → u.live ≡ 1 → j ≢ id → get_elem? s.views j ≡ some u → u.by ≢ v.by
    lone_number j u live live2 ne there same =
        let a : number_in v.by v ≡ 1 = number_here v.by v.live v.by refl ∙ live in
        let c : number_in v.by u ≡ 1 = number_here v.by u.live u.by (sym same) ∙ live2 in
        let two = two_le (number_in v.by) s.views id j v u ne at there in
        let most = r.apart v.by in omega arith

    -- a step that leaves the homes, the history and the numbers, and raises the next ticket
    ticketed : (w : V) (words : List ℕ) → length words ≡ 3 → get_or words 1 0 ≡ get_or s.words 1 0 → get_or s.words 0 0 ≤ get_or words 0 0 → get_or words 0 0 < 2 ^ 64
        → w.is_first ≡ v.is_first → w.live ≡ v.live → w.by ≡ v.by → w.mark ≡ v.mark → w.gave ≡ v.gave → w.took ≡ v.took → w.start ≡ v.start → w.seen ≡ v.seen → w.inside ≡ v.inside → w.found ≡ v.found
        → ((k : ℕ) → w.ticket ≡ Some k → (get_or s.words 1 0 ≤ k) × (k < get_or words 0 0))
        → (v.inside ≡ true → w.ticket ≡ v.ticket)
        → ((k : ℕ) → sum_by (ticket_in k) (set s.views id w) ≤ 1)
        → Rule record { words = words; homes = s.homes; views = set s.views id w }
    ticketed w words wide serving up short first live by marked gave took start seen in_ found ticket in_ticket single =
        let mine = r.each id v at in
        let numbers : (b : ℕ) → sum_by (number_in b) (set s.views id w) ≡ sum_by (number_in b) s.views = λ b. same_sum (number_in b) s.views id v w at (λ i. number_at b (live i) (by i)) in
        record {
          wide = wide;
          one_home = r.one_home;
          log = r.log;
          cast = r.cast;
          legal = r.legal;
          since = r.since;
          callers = r.callers;
          order = let o = r.order in omega arith;
          short = short;
          home = ⊎_elim inl (λ (h : (get_elem? s.homes 0 ≡ some none) × ((j : ℕ) × (u : V) × (get_elem? s.views j ≡ some u) × (u.inside ≡ true) × (u.live ≡ 1))). inr (
            h.0,
            dite (ℕ_discrete h.1.0 id)
                (λ e. let q = same_at s.views h.1.0 id h.1.1 v e h.1.2 at in (id, w, set_here s.views id w (inside s.views id v at), in_ ∙ (ap (λ (z : V). z.inside) (sym q) ∙ h.1.3), live ∙ (ap (λ (z : V). z.live) (sym q) ∙ h.1.4)))
                (λ ne. (h.1.0, h.1.1, set_else s.views id h.1.0 w ne ∙ h.1.2, h.1.3, h.1.4)),
          )) r.home;
          single = single;
          apart = λ b. let a = r.apart b in let e = numbers b in omega arith;
          gone = λ j u p e f c. numbers p.0 ∙ ⊎_elim
              (λ (h : (j ≡ id) × (w ≡ u)). r.gone id v p at (sym first ∙ (ap (λ (z : V). z.is_first) h.1 ∙ f)) (subst (λ (z : List Took). Contains z p) (sym (ap (λ (z : V). z.took) h.1) ∙ took) c))
              (λ (h : (j ≢ id) × (get_elem? s.views j ≡ some u)). r.gone j u p h.1 f c)
              (at_set s.views id j w u e);
          each = λ j u e. ⊎_elim
              (λ (h : (j ≡ id) × (w ≡ u)). subst (λ (z : ℕ × V). F (get_or words 1 0) (get_or words 0 0) (get_elem? s.homes 0) r.log r.cast z.0 z.1) (λ i. (sym h.0 i, h.1 i)) record {
                marked = λ l. marked ∙ mine.marked (sym live ∙ l);
                begins = subst (λ (z : Log). Begins z r.log) (sym seen) mine.begins;
                own = λ l. ap (λ (z : ℕ). calls_by z r.log) by ∙ (mine.own (sym live ∙ l) ∙ (λ i. calls_by (sym by i) (sym seen i)));
                ticket = λ k t. let q = ticket k t in (omega (arith, q.0), q.1);
                inside = λ t. let q = mine.inside (sym in_ ∙ t) in (in_ticket (sym in_ ∙ t) ∙ (q.0 ∙ ap (λ (z : ℕ). Some z) (sym serving)), q.1, found ∙ q.2);
                number = λ l. subst (Contains r.cast) (sym by) (mine.number (sym live ∙ l));
                idle = λ t. let k = mine.idle (sym in_ ∙ t) in (subst (λ (z : Log × Log). Begins z.0 z.1) (λ i. (sym found i, sym seen i)) k.0, λ l. (λ i. calls_by (by i) (seen i)) ∙ (k.1 (sym live ∙ l) ∙ (λ i. calls_by (sym by i) (sym found i))));
                one = let o = mine.one in omega arith;
                start = λ f. start ∙ mine.start (sym first ∙ f);
                first = λ f. let q = mine.first (sym first ∙ f) in (
                  q.0,
                  live ∙ q.1,
                  q.2 ∙ (λ i. sym by i ∷ sym gave i),
                  (λ p c. let k = q.3 p (subst (λ (z : List Took). Contains z p) took c) in (k.0, k.1, subst (Begins p.1) (sym seen) k.2)),
                  subst (Begins (history key)) (sym seen) q.4,
                );
              })
              (λ (h : (j ≢ id) × (get_elem? s.views j ≡ some u)). let f = r.each j u h.1 in record {
                marked = f.marked;
                begins = f.begins;
                own = f.own;
                ticket = λ k t. let q = f.ticket k t in (omega (arith, q.0), omega (arith, q.1));
                inside = λ t. let q = f.inside t in (q.0 ∙ ap (λ (z : ℕ). Some z) (sym serving), q.1, q.2);
                number = f.number;
                idle = f.idle;
                one = f.one;
                start = f.start;
                first = f.first;
              })
              (at_set s.views id j w u e);
        }

  pub draws : (slots id : ℕ) (me : Sat) (old : ℕ) → old + 1 < 2 ^ 64 → me.0.ticket ≡ None → me.0.inside ≡ false → Allows Rule slots id me 0 (λ n. either (eqb n old) (old + 1) n) (Draws (step slots 0 old (old + 1) none) me)
  draws slots id me old room no_ticket out s r homes at small =
      let n : ℕ = get_or s.words 0 0 in let v : V = me.0 in
      dite (ℕ_discrete n old)
      (λ hit. let w : V = record v { ticket = Some n } in let words' : List ℕ = set s.words 0 (old + 1) in
      let wide = r.wide in
      let now : get_or words' 0 0 ≡ n + 1 = get_or-set_same s.words 0 (old + 1) 0 (omega arith) ∙ ap (λ (z : ℕ). z + 1) (sym hit) in
      let unborn : sum_by (ticket_in n) s.views ≡ 0 = zero_sum (ticket_in n) s.views (λ j u e. no_such n j u (λ k t. let q = (r.each j u e).ticket k t in omega (arith, q.1)) u.ticket (λ k t. t)) in
      let was : (k : ℕ) → ticket_in k v ≡ 0 = λ k. ap (ticket_at k) no_ticket in (
        w,
        keeps,
        tt,
        subst (λ b. Rule (stepped s 0 (either b (old + 1) n) id me.1 w keeps)) (sym (eq-eqb n old hit))
            (ticketed s r id v at w words' (length-set s.words 0 (old + 1) ∙ r.wide) (get_or-set_other s.words 0 1 (old + 1) 0 (λ e. omega arith)) (omega arith) (omega arith)
            refl refl refl refl refl refl refl refl refl refl
            (λ k t. let o = r.order in let e : n ≡ k = (let z : Some n ≡ Some k = t in cc) in (omega arith, omega arith))
            (λ t. absurd (let z : false ≡ true = sym out ∙ t in cc))
            (λ k. let q = sum_set (ticket_in k) s.views id v w at in let z = was k in let m = r.single k in dite (ℕ_discrete k n)
            (λ e. let h = ticket_here k n e in let u : sum_by (ticket_in k) s.views ≡ 0 = ap (λ (y : ℕ). sum_by (ticket_in y) s.views) e ∙ unborn in omega arith)
            (λ ne. let h = ticket_else k n ne in omega arith))),
        ((λ _. refl), λ miss. absurd (miss hit)),
      ))
      (λ miss. (
        v,
        keeps,
        tt,
        subst (λ b. Rule (stepped s 0 (either b (old + 1) n) id me.1 v keeps)) (sym (ne_eqb n old miss))
            (subst (λ (z : List ℕ × List V). Rule record { words = z.0; homes = s.homes; views = z.1 }) (λ i. (sym (set-get_or s.words 0 0) i, sym (set_again s.views id v at) i)) r),
        ((λ hit. absurd (miss hit)), λ _. refl),
      ))
    where
      no_such : (n j : ℕ) (u : V) → ((k : ℕ) → u.ticket ≡ Some k → k < n) → (o : Rattle.std.proofs.Common.Option ℕ) → ((k : ℕ) → o ≡ Some k → u.ticket ≡ Some k) → ticket_at n o ≡ 0
      no_such n j u low None is = refl
      no_such n j u low (Some k) is = ticket_else n k (λ e. let l = low k (is k refl) in omega arith)

  pub asks : (slots id : ℕ) (me : Sat) (b : ℕ) → Allows Rule slots id me 2 (λ _. b) (Asks (step slots 2 b 0 none) me)
  asks slots id me b s r homes at small = let v : V = me.0 in let w : V = record v { asked = b } in let mine = r.each id v at in (
    w,
    keeps,
    tt,
    ticketed s r id v at w (set s.words 2 b) (length-set s.words 2 b ∙ r.wide) (get_or-set_other s.words 2 1 b 0 (λ e. omega arith))
        (let e = get_or-set_other s.words 2 0 b 0 (λ e. omega arith) in omega arith)
        (let e = get_or-set_other s.words 2 0 b 0 (λ e. omega arith) in let l = r.short in omega arith)
        refl refl refl refl refl refl refl refl refl refl
        (λ k t. let q = mine.ticket k t in let e = get_or-set_other s.words 2 0 b 0 (λ e. omega arith) in (q.0, omega (arith, q.1)))
        (λ _. refl)
        (λ k. let q = same_sum (ticket_in k) s.views id v w at refl in let m = r.single k in omega arith),
    refl,
  )

  -- the pass whose ticket is served takes the object
  pub finds : (slots id : ℕ) (me : Sat) → me.0.inside ≡ false → me.0.live ≡ 1 → Allows Rule slots id me 1 (λ n. n) (Finds history mark answers (step slots 1 0 0 none) me)
  finds slots id me out live s r homes at small =
      let n : ℕ = get_or s.words 1 0 in let v : V = me.0 in let words' : List ℕ = set s.words 1 n in
      let same_words : words' ≡ s.words = set-get_or s.words 1 0 in
      let stays : Rule record { words = words'; homes = s.homes; views = set s.views id v } = subst (λ (z : List ℕ × List V). Rule record { words = z.0; homes = s.homes; views = z.1 }) (λ i. (sym same_words i, sym (set_again s.views id v at) i)) r in
      ⊎_elim enters (λ not. waits not stays) (served v.ticket n)
    where
      Goal : Type 0
      Goal = (w : V) × (a : Rattle.atomic_table.specs.Table.Act S) × Rattle.atomic_table.specs.Table.Valid s.homes me.1 a × Rule (stepped s 1 (get_or s.words 1 0) id me.1 w a)
          × Finds history mark answers (step slots 1 0 0 none) me (get_or s.words 1 0) (w, Rattle.atomic_table.specs.Table.carried_after me.1 a)

      waits : me.0.ticket ≢ Some (get_or s.words 1 0) → Rule record { words = set s.words 1 (get_or s.words 1 0); homes = s.homes; views = set s.views id me.0 } → Goal
      waits not kept = (me.0, keeps, tt, kept, ((λ e. absurd (not e)), λ _. refl))

      enters : me.0.ticket ≡ Some (get_or s.words 1 0) → Goal
      enters mine_is =
          let n : ℕ = get_or s.words 1 0 in let v : V = me.0 in let mine = r.each id v at in
          let words' : List ℕ = set s.words 1 n in
          let same : (i : ℕ) → get_or words' i 0 ≡ get_or s.words i 0 = λ i. ap (λ (z : List ℕ). get_or z i 0) (set-get_or s.words 1 0) in
          ⊎_elim
          (λ (h : (o : O) × (get_elem? s.homes 0 ≡ some (some (Some o))) × (history o ≡ r.log) × (mark o ≡ mark key)).
          let o : O = h.0 in let w : V = record v { inside = true; found = history o } in
          let one = r.one_home in
          let away : get_elem? (set s.homes 0 none) 0 ≡ some none = set_here s.homes 0 none (omega arith) in
          let numbers : (b : ℕ) → sum_by (number_in b) (set s.views id w) ≡ sum_by (number_in b) s.views = λ b. same_sum (number_in b) s.views id v w at refl in
          let tickets : (k : ℕ) → sum_by (ticket_in k) (set s.views id w) ≡ sum_by (ticket_in k) s.views = λ k. same_sum (ticket_in k) s.views id v w at refl in (
            w,
            takes 0 (Some o),
            h.1,
            record {
              wide = length-set s.words 1 n ∙ r.wide;
              one_home = length-set s.homes 0 none ∙ one;
              log = r.log;
              cast = r.cast;
              legal = r.legal;
              since = r.since;
              callers = r.callers;
              order = let o = r.order in let a = same 0 in let c = same 1 in omega arith;
              short = let a = same 0 in let l = r.short in omega arith;
              home = inr (away, (id, w, set_here s.views id w (inside s.views id v at), refl, live));
              single = λ k. let a = r.single k in let e = tickets k in omega arith;
              apart = λ b. let a = r.apart b in let e = numbers b in omega arith;
              gone = λ j u p e f c. numbers p.0 ∙ ⊎_elim
                  (λ (g : (j ≡ id) × (w ≡ u)). r.gone id v p at (ap (λ (z : V). z.is_first) g.1 ∙ f) (subst (λ (z : List Took). Contains z p) (sym (ap (λ (z : V). z.took) g.1)) c))
                  (λ (g : (j ≢ id) × (get_elem? s.views j ≡ some u)). r.gone j u p g.1 f c)
                  (at_set s.views id j w u e);
              each = λ j u e. ⊎_elim
                  (λ (g : (j ≡ id) × (w ≡ u)). subst (λ (z : ℕ × V). F (get_or words' 1 0) (get_or words' 0 0) (get_elem? (set s.homes 0 none) 0) r.log r.cast z.0 z.1) (λ i. (sym g.0 i, g.1 i)) record {
                    marked = mine.marked;
                    begins = mine.begins;
                    own = mine.own;
                    ticket = λ k t. let q = mine.ticket k t in let a = same 0 in let c = same 1 in (omega (arith, q.0), omega (arith, q.1));
                    inside = λ _. (mine_is ∙ ap (λ (z : ℕ). Some z) (sym (same 1)), away, h.2);
                    number = mine.number;
                    idle = λ t. absurd (let z : true ≡ false = t in cc);
                    one = mine.one;
                    start = mine.start;
                    first = mine.first;
                  })
                  (λ (g : (j ≢ id) × (get_elem? s.views j ≡ some u)). let f = r.each j u g.1 in record {
                    marked = f.marked;
                    begins = f.begins;
                    own = f.own;
                    ticket = λ k t. let q = f.ticket k t in let a = same 0 in let c = same 1 in (omega (arith, q.0), omega (arith, q.1));
                    inside = λ t. absurd (lone_ticket s r id v at n j u mine_is g.0 g.1 (f.inside t).0);
                    number = f.number;
                    idle = f.idle;
                    one = f.one;
                    start = f.start;
                    first = f.first;
                  })
                  (at_set s.views id j w u e);
            },
            (
              (λ _. (o, refl, subst (λ (z : M × Log). IsLegal (answers z.0) z.1) (λ i. (sym h.3 i, sym h.2 i)) r.legal, subst (Begins v.seen) (sym h.2) mine.begins, (ap (calls_by v.by) h.2 ∙ mine.own live), (mine.marked live ∙ ap (λ (z : M). Some z) (sym h.3)))),
              λ not. absurd (not mine_is),
            ),
          ))
          (λ (h : (get_elem? s.homes 0 ≡ some none) × ((j : ℕ) × (u : V) × (get_elem? s.views j ≡ some u) × (u.inside ≡ true) × (u.live ≡ 1))).
          absurd (dite (ℕ_discrete h.1.0 id)
          (λ e. let q = same_at s.views h.1.0 id h.1.1 v e h.1.2 at in let z : false ≡ true = sym out ∙ (ap (λ (z : V). z.inside) (sym q) ∙ h.1.3) in cc)
          (λ ne. lone_ticket s r id v at n h.1.0 h.1.1 mine_is ne h.1.2 ((r.each h.1.0 h.1.1 h.1.2).inside h.1.3).0)))
          r.home

  -- the object comes home, with what was done to it, and the next ticket is served
  module _ (s : St) (r : Rule s) (id : ℕ) (v : V) (at : get_elem? s.views id ≡ some v) (in_ : v.inside ≡ true) (live : v.live ≡ 1) where
    released : (w : V) (words : List ℕ) (o : O) (new : Log) → length words ≡ 3 → get_or words 1 0 ≡ get_or s.words 1 0 + 1 → get_or words 0 0 ≡ get_or s.words 0 0
        → w.is_first ≡ v.is_first → w.live ≡ v.live → w.by ≡ v.by → w.mark ≡ v.mark → w.gave ≡ v.gave → w.took ≡ v.took → w.start ≡ v.start → w.ticket ≡ None → w.inside ≡ false
        → history o ≡ new ++ v.found → v.mark ≡ Some (mark o) → IsLegal (answers (mark o)) (history o) → ((b : ℕ) → b ≢ v.by → calls_by b new ≡ [])
        → Begins v.seen w.seen → Begins w.seen (history o) → calls_by v.by (history o) ≡ calls_by v.by w.seen → w.found ≡ w.seen
        → Rule record { words = words; homes = set s.homes 0 (some (Some o)); views = set s.views id w }
    released w words o new wide serving next first live_w by marked gave took start ticket out is mark_is legal others more begins own same_found =
        let mine = r.each id v at in
        let here = mine.inside in_ in
        let log' : Log = history o in
        let was : v.found ≡ r.log = here.2 in
        let grown : log' ≡ new ++ r.log = is ∙ ap (λ (z : Log). new ++ z) was in
        let one = r.one_home in
        let n : ℕ = get_or s.words 1 0 in
        let home' : get_elem? (set s.homes 0 (some (Some o))) 0 ≡ some (some (Some o)) = set_here s.homes 0 (some (Some o)) (omega arith) in
        let still : (b : ℕ) → b ≢ v.by → calls_by b log' ≡ calls_by b r.log = λ b ne. ap (calls_by b) grown ∙ (calls-append b new r.log ∙ ap (λ l. l ++ calls_by b r.log) (others b ne)) in
        let up : (xs : Log) → Begins xs r.log → Begins xs log' = λ xs b. let q = begins_more xs r.log new b in subst (Begins xs) (sym grown) q in
        let numbers : (b : ℕ) → sum_by (number_in b) (set s.views id w) ≡ sum_by (number_in b) s.views = λ b. same_sum (number_in b) s.views id v w at (λ i. number_at b (live_w i) (by i)) in
        let known : Contains r.cast v.by = mine.number live in
        let same_mark : mark o ≡ mark key = (let z : Some (mark o) ≡ Some (mark key) = sym mark_is ∙ mine.marked live in cc) in
        record {
          wide = wide;
          one_home = length-set s.homes 0 (some (Some o)) ∙ one;
          log = log';
          cast = r.cast;
          legal = subst (λ (z : M). IsLegal (answers z) log') same_mark legal;
          since = up (history key) r.since;
          callers = λ b not. still b (λ e. not (subst (Contains r.cast) (sym e) known)) ∙ r.callers b not;
          order = let q = mine.ticket n here.0 in omega (arith, q.1);
          short = let l = r.short in omega arith;
          home = inl (o, home', refl, same_mark);
          single = λ k. let q = sum_set (ticket_in k) s.views id v w at in let z = ap (ticket_at k) ticket in let m = r.single k in omega arith;
          apart = λ b. let a = r.apart b in let e = numbers b in omega arith;
          gone = λ j u p e f c. numbers p.0 ∙ ⊎_elim
              (λ (g : (j ≡ id) × (w ≡ u)). r.gone id v p at (sym first ∙ (ap (λ (z : V). z.is_first) g.1 ∙ f)) (subst (λ (z : List Took). Contains z p) (sym (ap (λ (z : V). z.took) g.1) ∙ took) c))
              (λ (g : (j ≢ id) × (get_elem? s.views j ≡ some u)). r.gone j u p g.1 f c)
              (at_set s.views id j w u e);
          each = λ j u e. ⊎_elim
              (λ (g : (j ≡ id) × (w ≡ u)). subst (λ (z : ℕ × V). F (get_or words 1 0) (get_or words 0 0) (get_elem? (set s.homes 0 (some (Some o))) 0) log' r.cast z.0 z.1) (λ i. (sym g.0 i, g.1 i)) record {
                marked = λ l. marked ∙ mine.marked live;
                begins = begins;
                own = λ _. (λ i. calls_by (by i) log') ∙ (own ∙ (λ i. calls_by (sym by i) w.seen));
                ticket = λ k t. absurd (let z : None ≡ Some k = sym ticket ∙ t in cc);
                inside = λ t. absurd (let z : false ≡ true = sym out ∙ t in cc);
                number = λ _. subst (Contains r.cast) (sym by) known;
                idle = λ _. (subst (Begins w.found) same_found (begins_refl w.found), λ _. ap (calls_by w.by) (sym same_found));
                one = let a = mine.one in omega arith;
                start = λ f. start ∙ mine.start (sym first ∙ f);
                first = λ f. let q = mine.first (sym first ∙ f) in (
                  q.0,
                  live_w ∙ q.1,
                  q.2 ∙ (λ i. sym by i ∷ sym gave i),
                  (λ p c. let c2 : Contains v.took p = subst (λ (z : List Took). Contains z p) took c in
                      let ne : p.0 ≢ v.by = λ e2. (let zero_ = r.gone id v p at (sym first ∙ f) c2 in let some_ = at_le (number_in p.0) s.views id v at in let h = number_here p.0 v.live v.by e2 in absurd (omega arith)) in
                      let k = q.3 p c2 in (k.0, still p.0 ne ∙ k.1, begins_trans p.1 v.seen w.seen k.2 more)),
                  begins_trans (history key) v.seen w.seen q.4 more,
                );
              })
              (λ (g : (j ≢ id) × (get_elem? s.views j ≡ some u)). let f = r.each j u g.1 in record {
                marked = f.marked;
                begins = up u.seen f.begins;
                own = λ l. still u.by (lone_number s r id v at j u live l g.0 g.1) ∙ f.own l;
                ticket = λ k t. let q = f.ticket k t in let ne : k ≢ n = (λ e2. lone_ticket s r id v at n j u here.0 g.0 g.1 (t ∙ ap (λ (z : ℕ). Some z) e2)) in (omega (arith, q.0), omega (arith, q.1));
                inside = λ t. absurd (lone_ticket s r id v at n j u here.0 g.0 g.1 (f.inside t).0);
                number = f.number;
                idle = f.idle;
                one = f.one;
                start = f.start;
                first = λ z. let q = f.first z in (
                  q.0,
                  q.1,
                  q.2,
                  (λ p c. let ne : p.0 ≢ v.by = λ e2. (let zero_ = r.gone j u p g.1 z c in let some_ = at_le (number_in p.0) s.views id v at in let h = number_here p.0 v.live v.by e2 in absurd (omega arith)) in let k = q.3 p c in (k.0, still p.0 ne ∙ k.1, k.2)),
                  q.4,
                );
              })
              (at_set s.views id j w u e);
        }

  -- the call is done, or it is not yet time for it
  pub passes : (slots id : ℕ) (me : Sat) (o : O) (new : Log) → me.1 ≡ (0, Some o) ∷ [] → me.0.inside ≡ true → me.0.live ≡ 1 → history o ≡ new ++ me.0.found → me.0.mark ≡ Some (mark o) → IsLegal (answers (mark o)) (history o)
      → ((b : ℕ) → b ≢ me.0.by → calls_by b new ≡ []) → Allows Rule slots id me 1 (λ n. (n + 1) % 2 ^ 64) (PassesOn history (step slots 1 1 0 none) me)
  passes slots id me o new held in_ live is mark_is legal others s r homes at small =
      let v : V = me.0 in let n : ℕ = get_or s.words 1 0 in let mine = r.each id v at in let here = mine.inside in_ in
      let wide = r.wide in
      let q = mine.ticket n here.0 in
      let no_wrap : (n + 1) % 2 ^ 64 ≡ n + 1 = mod-eq_of_lt (let l = r.short in omega (arith, q.1)) in
      let words' : List ℕ = set s.words 1 ((n + 1) % 2 ^ 64) in
      let w : V = record v { seen = history o; turns = v.turns + 1; ticket = None; inside = false; found = history o } in
      let grown : history o ≡ new ++ r.log = is ∙ ap (λ (z : Log). new ++ z) here.2 in (
        w,
        gives,
        tt,
        subst (λ (c : List (ℕ × S)). Rule record { words = words'; homes = put_back s.homes c; views = set s.views id w }) (sym held)
            (released s r id v at in_ live w words' o new (length-set s.words 1 ((n + 1) % 2 ^ 64) ∙ r.wide)
            (get_or-set_same s.words 1 ((n + 1) % 2 ^ 64) 0 (omega arith) ∙ no_wrap) (get_or-set_other s.words 1 0 ((n + 1) % 2 ^ 64) 0 (λ e. omega arith))
            refl refl refl refl refl refl refl refl refl is mark_is legal others
            (subst (Begins v.seen) (sym grown) (begins_more v.seen r.log new mine.begins)) (begins_refl (history o)) refl refl),
        λ o2 held2. let e : o ≡ o2 = ap (object_or o) (sym held ∙ held2) in λ i. (record v { seen = history (e i); turns = v.turns + 1; ticket = None; inside = false; found = history (e i) }, rest (held i)),
      )
    where
      object_or : O → List (ℕ × S) → O
      object_or d [] = d
      object_or d ((k, Some x) ∷ xs) = x
      object_or d ((k, None) ∷ xs) = d

  -- the call was given up for want of memory
  pub gives_up : (slots id : ℕ) (me : Sat) (o : O) → me.1 ≡ (0, Some o) ∷ [] → me.0.inside ≡ true → me.0.live ≡ 1 → history o ≡ me.0.found → me.0.mark ≡ Some (mark o) → IsLegal (answers (mark o)) (history o)
      → Allows Rule slots id me 1 (λ n. (n + 1) % 2 ^ 64) (GivesUp (step slots 1 1 0 none) me)
  gives_up slots id me o held in_ live is mark_is legal s r homes at small =
      let v : V = me.0 in let n : ℕ = get_or s.words 1 0 in let mine = r.each id v at in let here = mine.inside in_ in
      let wide = r.wide in
      let q = mine.ticket n here.0 in
      let no_wrap : (n + 1) % 2 ^ 64 ≡ n + 1 = mod-eq_of_lt (let l = r.short in omega (arith, q.1)) in
      let words' : List ℕ = set s.words 1 ((n + 1) % 2 ^ 64) in
      let w : V = record v { ticket = None; inside = false; found = v.seen } in
      let whole : history o ≡ r.log = is ∙ here.2 in (
        w,
        gives,
        tt,
        subst (λ (c : List (ℕ × S)). Rule record { words = words'; homes = put_back s.homes c; views = set s.views id w }) (sym held)
            (released s r id v at in_ live w words' o [] (length-set s.words 1 ((n + 1) % 2 ^ 64) ∙ r.wide)
            (get_or-set_same s.words 1 ((n + 1) % 2 ^ 64) 0 (omega arith) ∙ no_wrap) (get_or-set_other s.words 1 0 ((n + 1) % 2 ^ 64) 0 (λ e. omega arith))
            refl refl refl refl refl refl refl refl refl is mark_is legal (λ b ne. refl)
            (begins_refl v.seen) (subst (Begins v.seen) (sym whole) mine.begins) (ap (calls_by v.by) whole ∙ mine.own live) refl),
        λ i. (w, rest (held i)),
      )

  further : (a b x : ℕ) (xs : List ℕ) → Contains (a ∷ xs) x → Contains (a ∷ b ∷ xs) x
  further a b x xs (zero, small, is) = (zero, omega arith, is)
  further a b x xs (suc k, small, is) = (suc (suc k), omega arith, is)

  -- a number that was not given yet goes to a new pass
  pub gives_number : (id : ℕ) (v : V) → v.is_first ≡ true → (Contains (v.by ∷ v.gave) v.asked → ⊥) → Splits Rule id v (giving v) (given v)
  gives_number id v first fresh s r at =
      let mine = r.each id v at in let q = mine.first first in
      let w : V = giving v in let u : V = given v in let b0 : ℕ = v.asked in
      let views' : List V = set s.views id w ++ u ∷ [] in
      let cast' : List ℕ = v.by ∷ b0 ∷ v.gave in
      let more : (x : ℕ) → Contains r.cast x → Contains cast' x = λ x c. further v.by b0 x v.gave (subst (λ (z : List ℕ). Contains z x) q.2 c) in
      let not_in : Contains r.cast b0 → ⊥ = λ c. fresh (subst (λ (z : List ℕ). Contains z b0) q.2 c) in
      let has_new : Contains cast' b0 = (1, omega arith, refl) in
      let tickets : (k : ℕ) → sum_by (ticket_in k) views' ≡ sum_by (ticket_in k) s.views = λ k. omega (arith, sum_set (ticket_in k) s.views id v w at, sum_snoc (ticket_in k) (set s.views id w) u) in
      let numbers : (b : ℕ) → sum_by (number_in b) views' ≡ sum_by (number_in b) s.views + number_at b 1 b0 = λ b. omega (arith, sum_set (number_in b) s.views id v w at, sum_snoc (number_in b) (set s.views id w) u) in
      let unused : sum_by (number_in b0) s.views ≡ 0 = zero_sum (number_in b0) s.views (λ j x e. let f = r.each j x e in dite (ℕ_discrete b0 x.by)
      (λ same. dite (ℕ_discrete x.live 1) (λ l. absurd (not_in (subst (Contains r.cast) (sym same) (f.number l)))) (λ n. let o = f.one in number_here b0 x.live x.by same ∙ (let z : x.live ≡ 0 = omega arith in z)))
      (λ other. number_else b0 x.live x.by other)) in
      record {
        wide = r.wide;
        one_home = r.one_home;
        log = r.log;
        cast = cast';
        legal = r.legal;
        since = r.since;
        callers = λ b not. r.callers b (λ c. not (more b c));
        order = r.order;
        short = r.short;
        home = ⊎_elim inl (λ (h : (get_elem? s.homes 0 ≡ some none) × ((j : ℕ) × (x : V) × (get_elem? s.views j ≡ some x) × (x.inside ≡ true) × (x.live ≡ 1))). inr (
          h.0,
          dite (ℕ_discrete h.1.0 id)
              (λ e. let p = same_at s.views h.1.0 id h.1.1 v e h.1.2 at in (id, w, at_longer (set s.views id w) (u ∷ []) id w (set_here s.views id w (inside s.views id v at)), ap (λ (z : V). z.inside) (sym p) ∙ h.1.3, ap (λ (z : V). z.live) (sym p) ∙ h.1.4))
              (λ ne. (h.1.0, h.1.1, at_longer (set s.views id w) (u ∷ []) h.1.0 h.1.1 (set_else s.views id h.1.0 w ne ∙ h.1.2), h.1.3, h.1.4)),
        )) r.home;
        single = λ k. let a = r.single k in let e = tickets k in omega arith;
        apart = λ b. let e = numbers b in dite (ℕ_discrete b b0)
            (λ same. let z : sum_by (number_in b) s.views ≡ 0 = ap (λ (y : ℕ). sum_by (number_in y) s.views) same ∙ unused in let h = number_here b 1 b0 same in omega arith)
            (λ other. let h = number_else b 1 b0 other in let a = r.apart b in omega arith);
        gone = λ j x p e f c. let n = numbers p.0 in ⊎_elim
            (λ (a : get_elem? (set s.views id w) j ≡ some x). ⊎_elim
            (λ (g : (j ≡ id) × (w ≡ x)). let c2 : Contains v.took p = subst (λ (z : List Took). Contains z p) (sym (ap (λ (z : V). z.took) g.1)) c in
            let z = r.gone id v p at first c2 in let h = number_else p.0 1 b0 (λ same. not_in (subst (Contains r.cast) same (q.3 p c2).0)) in omega arith)
            (λ (g : (j ≢ id) × (get_elem? s.views j ≡ some x)). absurd (g.0 (((r.each j x g.1).first f).0 ∙ sym q.0)))
            (at_set s.views id j w x a))
            (λ (g : u ≡ x). absurd (let z : false ≡ true = ap (λ (z : V). z.is_first) g ∙ f in cc))
            (at_snoc (set s.views id w) u x j e);
        each = λ j x e. ⊎_elim
            (λ (a : get_elem? (set s.views id w) j ≡ some x). ⊎_elim
            (λ (g : (j ≡ id) × (w ≡ x)). subst (λ (z : ℕ × V). F (get_or s.words 1 0) (get_or s.words 0 0) (get_elem? s.homes 0) r.log cast' z.0 z.1) (λ i. (sym g.0 i, g.1 i)) record {
              marked = mine.marked;
              begins = mine.begins;
              own = mine.own;
              ticket = mine.ticket;
              inside = mine.inside;
              number = λ l. more v.by (mine.number l);
              idle = mine.idle;
              one = mine.one;
              start = mine.start;
              first = λ _. (q.0, q.1, refl, (λ p c. let k = q.3 p c in (more p.0 k.0, k.1, k.2)), q.4);
            })
            (λ (g : (j ≢ id) × (get_elem? s.views j ≡ some x)). let f = r.each j x g.1 in record {
              marked = f.marked;
              begins = f.begins;
              own = f.own;
              ticket = f.ticket;
              inside = f.inside;
              number = λ l. more x.by (f.number l);
              idle = f.idle;
              one = f.one;
              start = f.start;
              first = λ z. absurd (g.0 ((f.first z).0 ∙ sym q.0));
            })
            (at_set s.views id j w x a))
            (λ (g : u ≡ x). subst (λ (z : V). F (get_or s.words 1 0) (get_or s.words 0 0) (get_elem? s.homes 0) r.log cast' j z) g record {
              marked = λ _. mine.marked q.1;
              begins = mine.begins;
              own = λ _. between b0 (history key) v.seen r.log q.4 mine.begins (r.callers b0 not_in);
              ticket = λ k t. absurd (let z : None ≡ Some k = t in cc);
              inside = λ t. absurd (let z : false ≡ true = t in cc);
              number = λ _. has_new;
              idle = λ _. (begins_refl v.seen, λ _. refl);
              one = omega arith;
              start = λ f. absurd (let z : false ≡ true = f in cc);
              first = λ f. absurd (let z : false ≡ true = f in cc);
            })
            (at_snoc (set s.views id w) u x j e);
      }

  -- the first pass takes another one in
  pub meets : (id : ℕ) (v : V) (other : ℕ) (u : V) → v.is_first ≡ true → v.inside ≡ false → u.live ≡ 1 → u.inside ≡ false → Joins Rule id v other u (met v u) spent
  meets id v other u first mine_out live out s r at apart there =
      let w : V = met v u in
      let mid : List V = set s.views id w in
      let views' : List V = set mid other spent in
      let was : get_elem? s.views other ≡ some u = sym (set_else s.views id other w apart) ∙ there in
      let mine = r.each id v at in let theirs = r.each other u was in let q = mine.first first in
      let here : get_elem? views' id ≡ some w = set_else mid other id spent (λ e. apart (sym e)) ∙ set_here s.views id w (inside s.views id v at) in
      let both = longer_begins v.seen u.seen r.log mine.begins theirs.begins in
      let tickets : (k : ℕ) → sum_by (ticket_in k) views' ≤ sum_by (ticket_in k) s.views = λ k. omega (arith, sum_set (ticket_in k) s.views id v w at, sum_set (ticket_in k) mid other u spent there) in
      let nobody_has : (b : ℕ) → number_in b spent ≡ 0 = λ b. no_number b in
      let numbers : (b : ℕ) → sum_by (number_in b) views' + number_in b u ≡ sum_by (number_in b) s.views = λ b. let z = nobody_has b in omega (arith, sum_set (number_in b) s.views id v w at, sum_set (number_in b) mid other u spent there) in
      record {
        wide = r.wide;
        one_home = r.one_home;
        log = r.log;
        cast = r.cast;
        legal = r.legal;
        since = r.since;
        callers = r.callers;
        order = r.order;
        short = r.short;
        home = ⊎_elim inl (λ (h : (get_elem? s.homes 0 ≡ some none) × ((j : ℕ) × (x : V) × (get_elem? s.views j ≡ some x) × (x.inside ≡ true) × (x.live ≡ 1))). inr (
          h.0,
          dite (ℕ_discrete h.1.0 id)
              (λ e. let p = same_at s.views h.1.0 id h.1.1 v e h.1.2 at in (id, w, here, ap (λ (z : V). z.inside) (sym p) ∙ h.1.3, ap (λ (z : V). z.live) (sym p) ∙ h.1.4))
              (λ ne. dite (ℕ_discrete h.1.0 other)
              (λ e. absurd (let p = same_at s.views h.1.0 other h.1.1 u e h.1.2 was in let z : false ≡ true = sym out ∙ (ap (λ (z : V). z.inside) (sym p) ∙ h.1.3) in cc))
              (λ ne2. (h.1.0, h.1.1, set_else mid other h.1.0 spent ne2 ∙ (set_else s.views id h.1.0 w ne ∙ h.1.2), h.1.3, h.1.4))),
        )) r.home;
        single = λ k. let a = r.single k in let e = tickets k in omega arith;
        apart = λ b. let a = r.apart b in let e = numbers b in omega arith;
        gone = λ j x p e f c. let n = numbers p.0 in ⊎_elim
            (λ (h : (j ≡ other) × (spent ≡ x)). absurd (let z : false ≡ true = ap (λ (z : V). z.is_first) h.1 ∙ f in cc))
            (λ (o : (j ≢ other) × (get_elem? mid j ≡ some x)). ⊎_elim
            (λ (h : (j ≡ id) × (w ≡ x)). first_or (u.by, u.seen) p v.took (subst (λ (z : List Took). Contains z p) (sym (ap (λ (z : V). z.took) h.1)) c)
            (λ same. let m = r.apart p.0 in let k : number_in p.0 u ≡ 1 = number_here p.0 u.live u.by (ap (λ (z : Took). z.0) (sym same)) ∙ live in omega arith)
            (λ old. let z = r.gone id v p at first old in omega arith))
            (λ (h : (j ≢ id) × (get_elem? s.views j ≡ some x)). absurd (h.0 (((r.each j x h.1).first f).0 ∙ sym q.0)))
            (at_set s.views id j w x o.1))
            (at_set mid other j spent x e);
        each = λ j x e. ⊎_elim
            (λ (h : (j ≡ other) × (spent ≡ x)). subst (λ (z : V). F (get_or s.words 1 0) (get_or s.words 0 0) (get_elem? s.homes 0) r.log r.cast j z) h.1 record {
              marked = λ l. absurd (omega arith);
              begins = begins_nil r.log;
              own = λ l. absurd (omega arith);
              ticket = λ k t. absurd (let z : None ≡ Some k = t in cc);
              inside = λ t. absurd (let z : false ≡ true = t in cc);
              number = λ l. absurd (omega arith);
              idle = λ _. (([], refl), λ _. refl);
              one = omega arith;
              start = λ f. absurd (let z : false ≡ true = f in cc);
              first = λ f. absurd (let z : false ≡ true = f in cc);
            })
            (λ (o : (j ≢ other) × (get_elem? mid j ≡ some x)). ⊎_elim
            (λ (h : (j ≡ id) × (w ≡ x)). subst (λ (z : ℕ × V). F (get_or s.words 1 0) (get_or s.words 0 0) (get_elem? s.homes 0) r.log r.cast z.0 z.1) (λ i. (sym h.0 i, h.1 i)) record {
              marked = mine.marked;
              begins = both.2;
              own = λ l. between v.by v.seen (longer v.seen u.seen) r.log both.0 both.2 (mine.own l);
              ticket = mine.ticket;
              inside = λ t. absurd (let z : false ≡ true = sym mine_out ∙ t in cc);
              number = mine.number;
              idle = λ _. (both.0, λ l. sym (between v.by v.seen (longer v.seen u.seen) r.log both.0 both.2 (mine.own l)) ∙ mine.own l);
              one = mine.one;
              start = mine.start;
              first = λ _. (
                q.0,
                q.1,
                q.2,
                (λ p c. first_or (u.by, u.seen) p v.took c
                    (λ same. subst (λ (z : Took). Contains r.cast z.0 × (calls_by z.0 r.log ≡ calls_by z.0 z.1) × Begins z.1 (longer v.seen u.seen)) same (theirs.number live, theirs.own live, both.1))
                    (λ old. let k = q.3 p old in (k.0, k.1, begins_trans p.1 v.seen (longer v.seen u.seen) k.2 both.0))),
                begins_trans (history key) v.seen (longer v.seen u.seen) q.4 both.0,
              );
            })
            (λ (h : (j ≢ id) × (get_elem? s.views j ≡ some x)). r.each j x h.1)
            (at_set s.views id j w x o.1))
            (at_set mid other j spent x e);
      }
    where
      no_number : (b : ℕ) → number_at b 0 0 ≡ 0
      no_number b = dite (ℕ_discrete b 0) (λ e. number_here b 0 0 e) (λ n. number_else b 0 0 n)

  pub opens : (words : List ℕ) (slots : List S) (by : ℕ) → words ≡ 0 ∷ 0 ∷ 0 ∷ [] → slots ≡ Some key ∷ [] → IsLegal (answers (mark key)) (history key) → Rule (opening words slots (opened by (mark key) (history key)))
  opens words slots by zeros is legal = subst (λ (z : List ℕ × List S). Rule (opening z.0 z.1 (opened by (mark key) (history key)))) (λ i. (sym zeros i, sym is i)) record {
    wide = refl;
    one_home = refl;
    log = history key;
    cast = by ∷ [];
    legal = legal;
    since = begins_refl (history key);
    callers = λ b not. refl;
    order = omega arith;
    short = omega arith;
    home = inl (key, refl, refl, refl);
    single = λ k. omega (arith, sum_by-cons {X = V} (ticket_in k) (opened by (mark key) (history key)) []);
    apart = λ b. let h = number_small b in omega (arith, sum_by-cons {X = V} (number_in b) (opened by (mark key) (history key)) []);
    gone = λ j v p e f c. absurd (let t : v.took ≡ [] = took_none j v e in let d : Contains [] p = subst (λ (z : List Took). Contains z p) t c in omega (arith, d.1));
    each = first_view;
  }
    where
      number_small : (b : ℕ) → number_at b 1 by ≤ 1
      number_small b = dite (ℕ_discrete b by) (λ e. let h = number_here b 1 by e in omega arith) (λ n. let h = number_else b 1 by n in omega arith)

      took_none : (j : ℕ) (v : V) → get_elem? {A = V} (opened by (mark key) (history key) ∷ []) j ≡ some v → v.took ≡ []
      took_none zero v e = ap (λ (z : V). z.took) (sym (some-injective (opened by (mark key) (history key)) v e))
      took_none (suc j) v e = absurd (some-ne-none v (sym e))

      first_view : (j : ℕ) (v : V) → get_elem? {A = V} (opened by (mark key) (history key) ∷ []) j ≡ some v → F 0 0 (some (some (Some key))) (history key) (by ∷ []) j v
      first_view zero v e = subst (λ (z : V). F 0 0 (some (some (Some key))) (history key) (by ∷ []) zero z) (some-injective (opened by (mark key) (history key)) v e) record {
        marked = λ _. refl;
        begins = begins_refl (history key);
        own = λ _. refl;
        ticket = λ k t. absurd (let z : None ≡ Some k = t in cc);
        inside = λ t. absurd (let z : false ≡ true = t in cc);
        number = λ _. (0, omega arith, refl);
        idle = λ _. (begins_refl (history key), λ _. refl);
        one = omega arith;
        start = λ _. refl;
        first = λ _. (refl, refl, refl, (λ b c. absurd (omega (arith, c.1))), begins_refl (history key));
      }
      first_view (suc j) v e = absurd (some-ne-none v (sym e))

  -- what the object is where every number that was given was taken in
  pub record Closes (s : St) (v : V) : Type 0 where
    pub object : O
    pub home : get_elem? s.homes 0 ≡ some (some (Some object))
    pub seen : history object ≡ v.seen
    pub marked : v.mark ≡ Some (mark object)
    pub legal : IsLegal (answers (mark object)) (history object)
    pub taken : (p : Took) → Contains v.took p → GoesOnWithout p.0 p.1 (history object)
    pub since : Begins v.start (history object)
    pub callers : (b : ℕ) → (Contains (v.by ∷ v.gave) b → ⊥) → calls_by b (history object) ≡ calls_by b v.start

  pub closes : (s : St) (r : Rule s) (id : ℕ) (v : V) → get_elem? s.views id ≡ some v → v.is_first ≡ true → v.inside ≡ false → TookAll v.gave v.took → Closes s v
  closes s r id v at first out all =
      let mine = r.each id v at in let q = mine.first first in
      let more : Log = mine.begins.0 in
      let split_log : r.log ≡ more ++ v.seen = mine.begins.1 in
      let none_past : (b : ℕ) → calls_by b more ≡ [] = λ b. past b more r.log v.seen split_log (own_of b) in
      let whole : r.log ≡ v.seen = split_log ∙ ap (λ (z : Log). z ++ v.seen) (empty more none_past) in
      let start : v.start ≡ history key = mine.start first in
      ⊎_elim
      (λ (h : (o : O) × (get_elem? s.homes 0 ≡ some (some (Some o))) × (history o ≡ r.log) × (mark o ≡ mark key)). record {
        object = h.0;
        home = h.1;
        seen = h.2 ∙ whole;
        marked = mine.marked q.1 ∙ ap (λ (z : M). Some z) (sym h.3);
        legal = subst (λ (z : M × Log). IsLegal (answers z.0) z.1) (λ i. (sym h.3 i, sym h.2 i)) r.legal;
        taken = λ p c. let k = q.3 p c in record {
          begins = subst (Begins p.1) (sym (h.2 ∙ whole)) k.2;
          calls = ap (calls_by p.0) h.2 ∙ k.1;
        };
        since = subst (λ (z : Log × Log). Begins z.0 z.1) (λ i. (sym start i, sym h.2 i)) r.since;
        callers = λ b not. ap (calls_by b) h.2 ∙ (r.callers b (λ c. not (subst (λ (z : List ℕ). Contains z b) q.2 c)) ∙ ap (calls_by b) (sym start));
      })
      (λ (h : (get_elem? s.homes 0 ≡ some none) × ((j : ℕ) × (u : V) × (get_elem? s.views j ≡ some u) × (u.inside ≡ true) × (u.live ≡ 1))). absurd (dite (ℕ_discrete h.1.0 id)
      (λ e. let p = same_at s.views h.1.0 id h.1.1 v e h.1.2 at in let z : false ≡ true = sym out ∙ (ap (λ (z : V). z.inside) (sym p) ∙ h.1.3) in cc)
      (λ ne. first_or v.by h.1.1.by v.gave (subst (λ (z : List ℕ). Contains z h.1.1.by) q.2 ((r.each h.1.0 h.1.1 h.1.2).number h.1.4))
      (λ same. lone_number s r id v at h.1.0 h.1.1 q.1 h.1.4 ne h.1.2 (sym same))
      (λ given_. let a = taken_with v.took h.1.1.by (all h.1.1.by given_) in let z = r.gone id v (h.1.1.by, a.0) at first a.1 in let k = at_le (number_in h.1.1.by) s.views h.1.0 h.1.1 h.1.2 in let l = number_here h.1.1.by h.1.1.live h.1.1.by refl in let m = h.1.4 in omega arith))))
      r.home
    where
      own_of : (b : ℕ) → calls_by b r.log ≡ calls_by b v.seen
      own_of b = let mine = r.each id v at in let q = mine.first first in ⊎_elim
          (λ (c : Contains r.cast b). first_or v.by b v.gave (subst (λ (z : List ℕ). Contains z b) q.2 c)
          (λ same. subst (λ (z : ℕ). calls_by z r.log ≡ calls_by z v.seen) same (mine.own q.1))
          (λ given_. let a = taken_with v.took b (all b given_) in let k = q.3 (b, a.0) a.1 in between b a.0 v.seen r.log k.2 mine.begins k.1))
          (λ (not : Contains r.cast b → ⊥). between b (history key) v.seen r.log q.4 mine.begins (r.callers b not))
          (member r.cast b)

      past : (b : ℕ) (new zs xs : Log) → zs ≡ new ++ xs → calls_by b zs ≡ calls_by b xs → calls_by b new ≡ []
      past b new zs xs e f = no_more (calls_by b new) (calls_by b xs) (sym (calls-append b new xs) ∙ (ap (calls_by b) (sym e) ∙ f))

      empty : (ys : Log) → ((b : ℕ) → calls_by b ys ≡ []) → ys ≡ []
      empty [] h = refl
      empty (y ∷ ys) h = absurd (let z : y ∷ calls_by y.by ys ≡ [] = sym (calls_here y.by y ys refl) ∙ h y.by in cc)

  -- what contracts see of the object that comes out of the lock
  pub record HandsOut (p : PassView C R M) (object : O) : Type 0 where
    pub seen : history object ≡ p.seen
    pub marked : p.mark ≡ Some (mark object)
    pub legal : IsLegal (answers (mark object)) (history object)
    pub taken : (q : Took) → Contains p.took q → GoesOnWithout q.0 q.1 (history object)
    pub since : Begins p.start (history object)
    pub callers : (b : ℕ) → (Contains (p.by ∷ p.gave) b → ⊥) → calls_by b (history object) ≡ calls_by b p.start

  -- the slot of the closed table has the object
  pub hands_out : (s : St) → Rule s → (id : ℕ) (v : V) → get_elem? s.views id ≡ some v → (t : TableId) (p : PassView C R M) → pass_view t v ≡ p → p.is_first ≡ true → v.inside ≡ false → TookAll p.gave p.took
      → (xs : List S) (slot : S) → ((k : ℕ) (y : S) → get_elem? s.homes k ≡ some (some y) → get_elem? xs k ≡ some y) → get_elem? xs 0 ≡ some slot → (o : O) × (slot ≡ Some o) × HandsOut p o
  hands_out s r id v at t p e first out all xs slot back there =
      let k = closes s r id v at (ap (λ (z : PassView C R M). z.is_first) e ∙ first) out (subst (λ (z : PassView C R M). TookAll z.gave z.took) (sym e) all) in (
        k.object,
        some-injective slot (Some k.object) (sym there ∙ back 0 (Some k.object) k.home),
        subst (λ (z : PassView C R M). HandsOut z k.object) e record { seen = k.seen; marked = k.marked; legal = k.legal; taken = k.taken; since = k.since; callers = k.callers },
      )

  -- what a pass that is not inside knows of its own calls, and the first one of those that it took in
  pub recalls : (slots id : ℕ) (me : Sat) (i : ℕ) → me.0.is_first ≡ true → me.0.inside ≡ false → Allows Rule slots id me i (λ n. n) (Recalls (step slots i 0 0 none) me)
  recalls slots id me i first out s r homes at small =
      let v : V = me.0 in let mine = r.each id v at in let q = mine.first first in let k = mine.idle out in (
        v,
        keeps,
        tt,
        subst (λ (z : List ℕ × List V). Rule record { words = z.0; homes = s.homes; views = z.1 }) (λ j. (sym (set-get_or s.words i 0) j, sym (set_again s.views id v at) j)) r,
        (refl, k.0, k.1 q.1, λ p c. let t = q.3 p c in (t.2, sym (between p.0 p.1 v.seen r.log t.2 mine.begins t.1) ∙ t.1)),
      )

-- Each step on a word, each split and each join, as the table asks for it.
use Rattle.std.proofs.Common.{◌≡◌, ℕ, Bool, eqb, true, false, zero, suc, ◌+◌, ◌-◌, ◌*◌, ◌<◌, ◌≤◌, ◌≢◌, ◌^◌, ◌%◌, max, List, [], ◌∷◌, ◌++◌, ◌⊎◌, Some, None, length, take, drop, get_or, set, sym, refl, ap, ◌∙◌, subst, inl, inr, ⊎_elim, arith, le_refl, le_trans, length-set, length-append, map, get_or-set_other, get_or-set_same, replicate}
use Rattle.std.specs.List.{sum_by}
use Rattle.std.proofs.lemmas.List.{set-get_or, append-nil, get_or-replicate, get_or_past, length-replicate, length-map, take-append-drop}
use Rattle.std.proofs.Math.Nat.{mod-eq_of_lt}
use Rattle.std.proofs.lemmas.List.Sums.{sum_by-cons}
use mathlib.Core.Logic.{dite}
use mathlib.Core.Option.{Option, none, some, some-injective, some-ne-none}
use native.Mathlib.Decide.{dec_le, ℕ_discrete}
use lib.ListN.{get_elem?}
use prog.Atomic.{either}
use Rattle.atomic_table.specs.Table.{State, Me, step, keeps, takes, gives, stepped, opening, Allows, Splits, Joins}
use Rattle.atomic_table.proofs.Lists.{at_set, set_here, set_again}
use Rattle.sf_turns.specs.declared.protocol.Knows.{Knows}
use Rattle.sf_turns.specs.declared.protocol.Token.{Token}
use Rattle.sf_turns.specs.declared.protocol.Home.{Home}
use Rattle.sf_turns.specs.declared.protocol.Home.TheVariants.{Vacant, Full, Said}
use Rattle.sf_turns.specs.declared.protocol.Stage.{Stage}
use Rattle.sf_turns.specs.declared.protocol.Stage.TheVariants.{Away, Inside, Done}
use Rattle.sf_turns.specs.Counts.{leaf_at, leaves_of, stock_at, IsExact}
use Rattle.sf_base.specs.Points.{value_at, greatest}
use Rattle.sf_turns.specs.Rule.{live_of, IsHome, Lies, Promises, Fits, Kept, opened, spent, IsAlone, at_stage, promised, heir_of, said_of, loaded, note, told, issuing, heir, endowing, endowed, cutting, cut_off, lending, lent, absorbed, handed, departed_with, Loads, Audits, Reaches, Says, Asks, Takes, Returns, Clears, Begins, Leaves}
use Rattle.sf_base.proofs.Lists.{inside, sum_set, at_le, two_le, zero_sum}
use Rattle.sf_base.proofs.PointLemmas.{value_here, value_else, greatest-append, greatest-last}
use Rattle.sf_turns.proofs.Tallies.{same_here, stock_at-range, stock_at-range_past, stock_at-append}
use Rattle.sf_turns.proofs.Keeps.{token_in, leaf_in, leaves_in, stock_in, reviewed, merges, parts, homed, issues, goes, cleared, begins}

module _ {P T : Type 0} (stamp_of : P → T) (buffers : ℕ) where
  abbrev H : Type 0
  H = Home P T

  abbrev V : Type 0
  V = Knows T

  abbrev St : Type 0
  St = State H V

  abbrev M : Type 0
  M = Me H V

  abbrev Rule : St → Type 0
  Rule = Kept stamp_of buffers

  -- a word that is read again is as it was
  same_word : (words : List ℕ) (i : ℕ) → (b : ℕ) → b < buffers → get_or (set words i (get_or words i 0)) b 0 ≡ get_or words b 0
  same_word words i b l = ap (λ (z : List ℕ). get_or z b 0) (set-get_or words i 0)

  -- the last word counts nothing
  last_word : (words : List ℕ) (n : ℕ) → (b : ℕ) → b < buffers → get_or (set words buffers n) b 0 ≡ get_or words b 0
  last_word words n b l = get_or-set_other words buffers b n 0 (λ e. omega arith)

  -- where no other seat is out, the sums over all live are the first one's
  only_sum : (s : St) (r : Rule s) (id : ℕ) (v : V) → get_elem? s.views id ≡ some v → IsAlone v → (f : V → ℕ) → f spent ≡ 0 → ((u : V) → u.leaves ≡ [] → f u ≡ 0) → sum_by f s.views ≡ f v
  only_sum s r id v at a f z other =
      let m = (r.each id v at).first a.0 in
      let others : sum_by f (set s.views id spent) ≡ 0 = zero_sum f (set s.views id spent) (λ j u e. ⊎_elim
      (λ (h : (j ≡ id) × (spent ≡ u)). ap f (sym h.1) ∙ z)
      (λ (h : (j ≢ id) × (get_elem? s.views j ≡ some u)).
      let two = two_le live_of s.views id j v u h.0 at h.1 in let out = a.1 in
      other u ((r.each j u h.1).apart (omega (arith, m.1, m.2))))
      (at_set s.views id j spent u e)) in
      omega (arith, sum_set f s.views id v spent at)

  pub exact : (s : St) (r : Rule s) (id : ℕ) (v : V) → get_elem? s.views id ≡ some v → IsAlone v → IsExact buffers v.leaves v.seen
  exact s r id v at a =
      let count : (b : ℕ) → sum_by (leaves_in b) s.views ≡ leaves_of b v.leaves = λ b. only_sum s r id v at a (leaves_in b) refl (λ u e. ap (leaves_of b) e) in
      let each : (b k : ℕ) → sum_by (leaf_in b k) s.views ≡ leaf_at b k v.leaves = λ b k. only_sum s r id v at a (leaf_in b k) refl (λ u e. ap (leaf_at b k) e) in
      record {
        unseen = λ b l. let c = count b in let d = r.counted b l in let e = (r.each id v at).seen b l in omega arith;
        once = λ b k l g. let c = count b in let d = r.counted b l in let e = r.left b k l (omega arith) in sym (each b k) ∙ e;
        never = λ b k l g. let c = count b in let d = r.counted b l in let e = r.unleft b k l (omega arith) in sym (each b k) ∙ e;
      }

  alone_count : (s : St) (r : Rule s) (id : ℕ) (v : V) → get_elem? s.views id ≡ some v → IsAlone v → (b : ℕ) → b < buffers → get_or s.words b 0 ≡ leaves_of b v.leaves
  alone_count s r id v at a b l = sym (r.counted b l) ∙ only_sum s r id v at a (leaves_in b) refl (λ u e. ap (leaves_of b) e)

  -- one more sighting
  sighted : (b c n m : ℕ) (seen : List (ℕ × ℕ)) → greatest c seen ≤ m → (b ≡ c → n ≤ m) → greatest c (seen ++ (b, n) ∷ []) ≤ m
  sighted b c n m seen le here = dite (ℕ_discrete b c)
      (λ e. let q : value_at c (b, n) ≡ n = ap (λ (z : ℕ). value_at z (b, n)) (sym e) ∙ value_here b n in let h = here e in omega (arith, greatest-last c seen (b, n)))
      (λ ne. let q = value_else c b n ne in omega (arith, greatest-last c seen (b, n)))

  pub loads : (slots id : ℕ) (me : M) (b : ℕ) → b < buffers → Allows Rule slots id me b (λ n. n) (Loads (step slots b 0 0 none) me)
  loads slots id me b small s r homes at _ = let n : ℕ = get_or s.words b 0 in let v : V = me.0 in let w : V = loaded v (b, n) in let mine = r.each id v at in
      let seen : (c : ℕ) → c < buffers → greatest c w.seen ≤ get_or s.words c 0 = λ c l. sighted b c n (get_or s.words c 0) v.seen (mine.seen c l) (λ e. let q : n ≡ get_or s.words c 0 = ap (λ (z : ℕ). get_or s.words z 0) e in omega arith) in
      let after : Rule record { words = set s.words b n; homes = s.homes; views = set s.views id w } =
      reviewed stamp_of buffers s r id v at w (set s.words b n) (length-set s.words b n ∙ r.wide) (same_word s.words b) refl refl refl refl refl refl refl seen in
      let made : leaves_of b v.leaves ≤ n = (let q = at_le (leaves_in b) s.views id v at in let c = r.counted b small in omega arith) in
      let same : slots ≡ buffers = sym homes ∙ r.homes_wide in (
        w,
        keeps,
        tt,
        after,
        (
          refl,
          mine.seen b small,
          made,
          λ a. (alone_count s r id v at a b small, subst (λ (z : ℕ). IsExact z w.leaves w.seen) (sym same) (exact _ after id w (set_here s.views id w (inside s.views id v at)) a)),
        ),
      )

  pub audits : (slots id : ℕ) (me : M) (i : ℕ) → Allows Rule slots id me i (λ n. n) (Audits (step slots i 0 0 none) me)
  audits slots id me i s r homes at _ = let v : V = me.0 in let same : slots ≡ buffers = sym homes ∙ r.homes_wide in (
    v,
    keeps,
    tt,
    subst (λ (z : List ℕ). Rule record { words = z; homes = s.homes; views = set s.views id v }) (sym (set-get_or s.words i 0)) (subst (λ (z : List V). Rule record { words = s.words; homes = s.homes; views = z }) (sym (set_again s.views id v at)) r),
    (refl, λ a. subst (λ (z : ℕ). IsExact z v.leaves v.seen) (sym same) (exact s r id v at a)),
  )

  pub says : (slots id : ℕ) (me : M) (old new : ℕ) (x : Option H) (f : ℕ → ℕ) → slots ≡ buffers → Allows Rule slots id me buffers f (Says (step slots buffers old new x) me)
  says slots id me old new x f same s r homes at _ = let n : ℕ = f (get_or s.words buffers 0) in let v : V = me.0 in let w : V = record v { said = said_of x } in (
    w,
    keeps,
    tt,
    reviewed stamp_of buffers s r id v at w (set s.words buffers n) (length-set s.words buffers n ∙ r.wide) (last_word s.words n) refl refl refl refl refl refl refl (r.each id v at).seen,
    refl,
  )

  pub asks : (slots id : ℕ) (me : M) (k : ℕ) (f : ℕ → ℕ) → Allows Rule slots id me buffers f (Asks (step slots buffers k 0 none) me)
  asks slots id me k f s r homes at _ = let n : ℕ = f (get_or s.words buffers 0) in let v : V = me.0 in let w : V = record v { asked = k } in (
    w,
    keeps,
    tt,
    reviewed stamp_of buffers s r id v at w (set s.words buffers n) (length-set s.words buffers n ∙ r.wide) (last_word s.words n) refl refl refl refl refl refl refl (r.each id v at).seen,
    refl,
  )

  pub says_last : (slots id : ℕ) (me : M) (i : ℕ) (x : Option H) → slots ≡ buffers → i ≡ buffers → Allows Rule slots id me i (λ n. either (eqb n 0) 0 n) (Says (step slots i 0 0 x) me)
  says_last slots id me i x same is = subst (λ (z : ℕ). Allows Rule slots id me z (λ n. either (eqb n 0) 0 n) (Says (step slots z 0 0 x) me)) (sym is) (says slots id me 0 0 x (λ n. either (eqb n 0) 0 n) same)

  pub asks_last : (slots id : ℕ) (me : M) (i k : ℕ) → i ≡ buffers → Allows Rule slots id me i (λ _. k) (Asks (step slots i k 0 none) me)
  asks_last slots id me i k is = subst (λ (z : ℕ). Allows Rule slots id me z (λ _. k) (Asks (step slots z k 0 none) me)) (sym is) (asks slots id me k (λ _. k))

  pub notes : (id : ℕ) (v : V) → v.opens ≡ false → Splits Rule id v v (note v)
  notes id v shut s r at = parts stamp_of buffers s r id v at v (note v) refl refl refl (omega arith) (omega arith) (inl refl) refl refl refl refl shut shut refl (λ b. omega arith) (λ b l. le_refl _) (λ b l. le_refl _)

  pub tells : (id : ℕ) (v : V) (other : ℕ) (u : V) → u.live ≡ 0 → u.leaves ≡ [] → u.stock ≡ [] → u.token ≡ None → Joins Rule id v other u (told v u) spent
  tells id v other u live leaves stock token s r at apart there =
      merges stamp_of buffers s r id v at other u (told v u) apart there refl refl (omega arith) (omega arith) (sym (ap (λ (z : List (ℕ × ℕ)). v.leaves ++ z) leaves ∙ append-nil v.leaves)) refl stock refl (inl (refl, token)) (λ b l. omega (arith, greatest-append b v.seen u.seen))

  -- the token's turn has come
  module _ (slots id : ℕ) (me : M) (t : Token T) (has : me.0.token ≡ Some t) where
    pub enters : me.1 ≡ [] → t.stage ≡ Away → t.number ≤ greatest t.buffer me.0.seen → Allows Rule slots id me t.buffer (λ n. n) (Takes stamp_of (step slots t.buffer 0 0 none) me)
    enters none_held away seen s r homes at _ =
        let v : V = me.0 in let b : ℕ = t.buffer in let n : ℕ = get_or s.words b 0 in
        let mine = r.each id v at in
        let k = mine.token t has in let fit = k.1 in
        let turn : t.number ≡ n = (let q = mine.seen b k.0 in let g = fit.from in omega arith) in
        let home : IsHome stamp_of (get_elem? s.homes b) t.expects = subst (λ (z : Stage). Lies stamp_of n (get_elem? s.homes b) t.number t.expects t.promise z) away fit.lies turn in
        let t' : Token T = record t { stage = Inside } in
        let w : V = record v { token = at_stage Inside v.token } in (
          w,
          takes b (Full home.0),
          home.1,
          homed stamp_of buffers s r id v at t has w (set s.words b n) none t' (length-set s.words b n ∙ r.wide) (same_word s.words b) refl refl refl refl refl refl refl
              (ap (at_stage Inside) has) refl refl turn
              record { from = fit.from; expects = fit.expects; promises = fit.promises; lies = (turn, refl) },
          (
            home.0,
            refl,
            λ t2 e.
                let q : t ≡ t2 = (let z : Some t ≡ Some t2 = sym has ∙ e in cc) in
                let few = mine.seen b k.0 in
                let same = ap (λ (y : Token T). y.number) q in
                (home.2 ∙ ap (λ (y : Token T). y.expects) q, omega (arith, few, turn, same)),
          ),
        )

    pub returns_unused : (p : P) → me.1 ≡ (t.buffer, Full p) ∷ [] → t.stage ≡ Inside → stamp_of p ≡ t.expects → Allows Rule slots id me t.buffer (λ n. n) (Returns Away (step slots t.buffer 0 0 none) me)
    returns_unused p held inside_ stamp s r homes at _ =
        let v : V = me.0 in let b : ℕ = t.buffer in let n : ℕ = get_or s.words b 0 in
        let mine = r.each id v at in
        let k = mine.token t has in let fit = k.1 in
        let lies : Lies stamp_of n (get_elem? s.homes b) t.number t.expects t.promise Inside = subst (λ (z : Stage). Lies stamp_of n (get_elem? s.homes b) t.number t.expects t.promise z) inside_ fit.lies in
        let w : V = record v { token = at_stage Away v.token } in
        let after : Rule record { words = set s.words b n; homes = set s.homes b (some (Full p)); views = set s.views id w } =
        homed stamp_of buffers s r id v at t has w (set s.words b n) (some (Full p)) record t { stage = Away } (length-set s.words b n ∙ r.wide) (same_word s.words b) refl refl refl refl refl refl refl
        (ap (at_stage Away) has) refl refl lies.0
        record { from = fit.from; expects = fit.expects; promises = fit.promises; lies = λ _. (p, refl, stamp) } in (
          w,
          gives,
          tt,
          subst (λ (c : List (ℕ × H)). Rule record { words = set s.words b n; homes = Rattle.atomic_table.specs.Table.put_back s.homes c; views = set s.views id w }) (sym held) after,
          λ i. (w, Rattle.atomic_table.specs.Table.rest (held i)),
        )

    pub returns_done : (p : P) → me.1 ≡ (t.buffer, Full p) ∷ [] → t.stage ≡ Inside → t.promise ≡ Some (stamp_of p) → Allows Rule slots id me t.buffer (λ n. n) (Returns Done (step slots t.buffer 0 0 none) me)
    returns_done p held inside_ promise s r homes at _ =
        let v : V = me.0 in let b : ℕ = t.buffer in let n : ℕ = get_or s.words b 0 in
        let mine = r.each id v at in
        let k = mine.token t has in let fit = k.1 in
        let lies : Lies stamp_of n (get_elem? s.homes b) t.number t.expects t.promise Inside = subst (λ (z : Stage). Lies stamp_of n (get_elem? s.homes b) t.number t.expects t.promise z) inside_ fit.lies in
        let w : V = record v { token = at_stage Done v.token } in
        let after : Rule record { words = set s.words b n; homes = set s.homes b (some (Full p)); views = set s.views id w } =
        homed stamp_of buffers s r id v at t has w (set s.words b n) (some (Full p)) record t { stage = Done } (length-set s.words b n ∙ r.wide) (same_word s.words b) refl refl refl refl refl refl refl
        (ap (at_stage Done) has) refl refl lies.0
        record { from = fit.from; expects = fit.expects; promises = fit.promises; lies = (lies.0, (stamp_of p, promise, (p, refl, refl))) } in (
          w,
          gives,
          tt,
          subst (λ (c : List (ℕ × H)). Rule record { words = set s.words b n; homes = Rattle.atomic_table.specs.Table.put_back s.homes c; views = set s.views id w }) (sym held) after,
          λ i. (w, Rattle.atomic_table.specs.Table.rest (held i)),
        )

    -- the holder of the last turn issues the next one
    pub splits_heir : (x : T) → me.0.said ≡ Some x → me.0.is_first ≡ false → t.promise ≡ None → t.stage ≢ Done → t.number + 1 < 2 ^ 64 → Splits Rule id me.0 (issuing me.0) (heir me.0)
    splits_heir x said first none_yet not_done room s r at =
        let v : V = me.0 in
        issues stamp_of buffers s r id v at t has (issuing v) (heir v) record t { promise = Some x } record { buffer = t.buffer; number = t.number + 1; stage = Away; expects = x; promise = None } x
        refl refl refl refl refl refl refl refl refl refl refl refl none_yet not_done room
        (λ i. promised (has i) (said i)) refl (λ i. heir_of (has i) (said i)) refl

    -- the turn leaves through a seat
    pub leaves : (x : T) → t.stage ≡ Done → t.promise ≡ Some x → me.0.live ≡ 1 → Allows Rule slots id me t.buffer (λ n. (n + 1) % 2 ^ 64) (Leaves (step slots t.buffer 1 0 none) me)
    leaves x done promise reader s r homes at fits =
        let v : V = me.0 in let b : ℕ = t.buffer in let n : ℕ = get_or s.words b 0 in
        let mine = r.each id v at in
        let k = mine.token t has in let fit = k.1 in
        let lies : Lies stamp_of n (get_elem? s.homes b) t.number t.expects (Some x) Done = subst (λ (z : Rattle.std.proofs.Common.Option T × Stage). Lies stamp_of n (get_elem? s.homes b) t.number t.expects z.0 z.1) (λ i. (promise i, done i)) fit.lies in
        let turn : t.number ≡ n = lies.0 in
        let next : get_elem? (get_or r.chains b []) (t.number + 1) ≡ some x = subst (Promises stamp_of (get_or r.chains b []) t.number) promise fit.promises in
        let far = inside (get_or r.chains b []) (t.number + 1) x next in
        let short = r.short b k.0 in
        let wide = r.wide in
        let no_wrap : (n + 1) % 2 ^ 64 ≡ n + 1 = mod-eq_of_lt (omega arith) in
        let words' : List ℕ = set s.words b ((n + 1) % 2 ^ 64) in
        let w : V = departed_with v v.token in
        let w2 : V = departed_with v (Some t) in
        let is : w2 ≡ w = ap (departed_with v) (sym has) in
        let here : get_or words' b 0 ≡ t.number + 1 = get_or-set_same s.words b ((n + 1) % 2 ^ 64) 0 (omega arith) ∙ (no_wrap ∙ (let q : n + 1 ≡ t.number + 1 = omega arith in q)) in
        let elsewhere : (c : ℕ) → c < buffers → c ≢ b → get_or words' c 0 ≡ get_or s.words c 0 = λ c _ ne. get_or-set_other s.words b c ((n + 1) % 2 ^ 64) 0 ne in
        let after2 : Rule record { words = words'; homes = s.homes; views = set s.views id w2 } =
        goes stamp_of buffers s r id v at t has w2 words' x (length-set s.words b ((n + 1) % 2 ^ 64) ∙ r.wide) elsewhere here done promise reader refl refl refl refl refl refl refl
        (λ c l. sighted b c (t.number + 1) (get_or words' c 0) v.seen (let a = mine.seen c l in dite (ℕ_discrete c b) (λ e. let q = ap (λ (z : ℕ). get_or words' z 0) e in let q2 = ap (λ (z : ℕ). get_or s.words z 0) e in omega arith) (λ ne. let q = elsewhere c l ne in omega arith))
        (λ e. let q = ap (λ (z : ℕ). get_or words' z 0) e in omega arith)) in
        let after : Rule record { words = words'; homes = s.homes; views = set s.views id w } = subst (λ (z : V). Rule record { words = words'; homes = s.homes; views = set s.views id z }) is after2 in
        let same : slots ≡ buffers = sym homes ∙ r.homes_wide in
        let first_kept : w2.is_first ≡ v.is_first = refl in (
          w,
          keeps,
          tt,
          after,
          (
            refl,
            λ a. subst (λ (z : ℕ). IsExact z w.leaves w.seen) (sym same)
                (exact _ after id w (set_here s.views id w (inside s.views id v at)) (ap (λ (z : V). z.is_first) (sym is) ∙ a.0, ap (λ (z : V). z.out) (sym is) ∙ a.1)),
          ),
        )

  pub enters_at : (slots id : ℕ) (me : M) (b : ℕ) (t : Token T) → me.0.token ≡ Some t → me.1 ≡ [] → t.stage ≡ Away → t.buffer ≡ b → t.number ≤ greatest b me.0.seen
      → Allows Rule slots id me b (λ n. n) (Takes stamp_of (step slots b 0 0 none) me)
  enters_at slots id me b t has empty away is seen = subst (λ (z : ℕ). Allows Rule slots id me z (λ n. n) (Takes stamp_of (step slots z 0 0 none) me)) is (enters slots id me t has empty away (subst (λ (z : ℕ). t.number ≤ greatest z me.0.seen) (sym is) seen))

  module _ (slots id : ℕ) (me : M) (b : ℕ) (t : Token T) (has : me.0.token ≡ Some t) (is : t.buffer ≡ b) where
    pub returns_unused_at : (p : P) → me.1 ≡ (b, Full p) ∷ [] → t.stage ≡ Inside → stamp_of p ≡ t.expects → Allows Rule slots id me b (λ n. n) (Returns Away (step slots b 0 0 none) me)
    returns_unused_at p held i e = subst (λ (z : ℕ). Allows Rule slots id me z (λ n. n) (Returns Away (step slots z 0 0 none) me)) is (returns_unused slots id me t has p (subst (λ (z : ℕ). me.1 ≡ (z, Full p) ∷ []) (sym is) held) i e)

    pub returns_done_at : (p : P) → me.1 ≡ (b, Full p) ∷ [] → t.stage ≡ Inside → t.promise ≡ Some (stamp_of p) → Allows Rule slots id me b (λ n. n) (Returns Done (step slots b 0 0 none) me)
    returns_done_at p held i e = subst (λ (z : ℕ). Allows Rule slots id me z (λ n. n) (Returns Done (step slots z 0 0 none) me)) is (returns_done slots id me t has p (subst (λ (z : ℕ). me.1 ≡ (z, Full p) ∷ []) (sym is) held) i e)

    pub leaves_at : (x : T) → t.stage ≡ Done → t.promise ≡ Some x → me.0.live ≡ 1 → Allows Rule slots id me b (λ n. (n + 1) % 2 ^ 64) (Leaves (step slots b 1 0 none) me)
    leaves_at x d p o = subst (λ (z : ℕ). Allows Rule slots id me z (λ n. (n + 1) % 2 ^ 64) (Leaves (step slots z 1 0 none) me)) is (leaves slots id me t has x d p o)

  -- the pixels are taken where the token's turn has come
  pub reaches : (slots id : ℕ) (me : M) (b : ℕ) (t : Token T) → me.0.token ≡ Some t → me.1 ≡ [] → t.stage ≡ Away → t.buffer ≡ b → Allows Rule slots id me b (λ n. n) (Reaches (step slots b 0 0 none) me)
  reaches slots id me b t has empty away is s r homes at small =
      let n : ℕ = get_or s.words b 0 in let v : V = me.0 in
      let only : (t2 : Token T) → v.token ≡ Some t2 → t ≡ t2 = λ t2 e. (let z : Some t ≡ Some t2 = sym has ∙ e in cc) in
      dite (ℕ_discrete n t.number)
      (λ turn. let w : V = record v { token = at_stage Inside v.token } in
      let k = (r.each id v at).token t has in let fit = k.1 in
      let here : t.number ≡ get_or s.words t.buffer 0 = sym turn ∙ ap (λ (z : ℕ). get_or s.words z 0) (sym is) in
      let home : IsHome stamp_of (get_elem? s.homes t.buffer) t.expects = subst (λ (z : Stage). Lies stamp_of (get_or s.words t.buffer 0) (get_elem? s.homes t.buffer) t.number t.expects t.promise z) away fit.lies here in
      let t' : Token T = record t { stage = Inside } in
      let after : Rule record { words = set s.words b n; homes = set s.homes t.buffer none; views = set s.views id w } =
      homed stamp_of buffers s r id v at t has w (set s.words b n) none t' (length-set s.words b n ∙ r.wide) (same_word s.words b) refl refl refl refl refl refl refl
      (ap (at_stage Inside) has) refl refl here
      record { from = fit.from; expects = fit.expects; promises = fit.promises; lies = (here, refl) } in (
        w,
        takes b (Full home.0),
        ap (get_elem? s.homes) (sym is) ∙ home.1,
        subst (λ (z : ℕ). Rule record { words = set s.words b n; homes = set s.homes z none; views = set s.views id w }) is after,
        λ t2 e. ((λ _. (home.0, refl)), λ not. absurd (not (turn ∙ ap (λ (y : Token T). y.number) (only t2 e)))),
      ))
      (λ early. (
        v,
        keeps,
        tt,
        subst (λ (z : List ℕ). Rule record { words = z; homes = s.homes; views = set s.views id v }) (sym (set-get_or s.words b 0)) (subst (λ (z : List V). Rule record { words = s.words; homes = s.homes; views = z }) (sym (set_again s.views id v at)) r),
        λ t2 e. ((λ turn. absurd (early (turn ∙ ap (λ (y : Token T). y.number) (sym (only t2 e))))), λ _. refl),
      ))

  abbrev full_or : P → List (ℕ × H) → P
  full_or d [] = d
  full_or d ((k, Full p) ∷ xs) = p
  full_or d ((k, Vacant) ∷ xs) = d
  full_or d ((k, Said x) ∷ xs) = d

  pub clears : (slots id : ℕ) (me : M) (b : ℕ) → me.1 ≡ [] → me.0.stock ≡ b ∷ [] → me.0.opens ≡ false → me.0.token ≡ None → Allows Rule slots id me b (λ n. n) (Clears (step slots b 0 0 none) me)
  clears slots id me b none_held only shut no_token s r homes at _ =
      let v : V = me.0 in let n : ℕ = get_or s.words b 0 in let w : V = record v { opens = true } in
      let k = (r.each id v at).stock b (let a = ap (stock_at b) only in let c = same_here b b refl in omega arith) in (
        w,
        takes b Vacant,
        (k.1).closed shut,
        cleared stamp_of buffers s r id v at b only w (set s.words b n) (length-set s.words b n ∙ r.wide) (same_word s.words b) refl refl refl refl refl refl refl refl no_token,
        refl,
      )

  pub fills : (slots id : ℕ) (me : M) (b : ℕ) (p : P) → me.1 ≡ (b, Full p) ∷ [] → me.0.stock ≡ b ∷ [] → me.0.token ≡ None → Allows Rule slots id me b (λ n. n) (Begins stamp_of (step slots b 0 0 none) me)
  fills slots id me b p held only no_token s r homes at _ =
      let v : V = me.0 in let n : ℕ = get_or s.words b 0 in
      let t : Token T = record { buffer = b; number = 0; stage = Away; expects = stamp_of p; promise = None } in
      let w : V = record v { stock = []; opens = false; token = Some t } in (
        w,
        gives,
        tt,
        subst (λ (c : List (ℕ × H)). Rule record { words = set s.words b n; homes = Rattle.atomic_table.specs.Table.put_back s.homes c; views = set s.views id w }) (sym held)
            (begins stamp_of buffers s r id v at b only w (set s.words b n) p t (length-set s.words b n ∙ r.wide) (same_word s.words b) refl refl refl refl refl refl no_token refl refl),
        λ p2 held2.
            let e : p ≡ p2 = ap (full_or p) (sym held ∙ held2) in
            λ i. (record v { stock = []; opens = false; token = Some record { buffer = b; number = 0; stage = Away; expects = stamp_of (e i); promise = None } }, Rattle.atomic_table.specs.Table.rest (held i)),
      )

  -- what was in the stock goes to a new seat, or a part of it
  pub endows : (id : ℕ) (v : V) → v.opens ≡ false → Splits Rule id v (endowing v) (endowed v)
  endows id v shut s r at = parts stamp_of buffers s r id v at (endowing v) (endowed v) refl refl refl (omega arith) (omega arith) (inl refl) refl refl refl refl shut shut refl (λ b. omega arith) (λ b l. le_refl _) (λ b l. omega arith)

  pub cuts : (id : ℕ) (v : V) → v.opens ≡ false → Splits Rule id v (cutting v) (cut_off v)
  cuts id v shut s r at = parts stamp_of buffers s r id v at (cutting v) (cut_off v) refl refl refl (omega arith) (omega arith) (inl refl) refl refl refl refl shut shut refl
      (λ b. let q = stock_at-append b (take v.asked v.stock) (drop v.asked v.stock) in let e = ap (stock_at b) (take-append-drop v.asked v.stock) in omega arith) (λ b l. le_refl _) (λ b l. omega arith)

  pub lends : (id : ℕ) (v : V) → v.is_first ≡ true → v.opens ≡ false → Splits Rule id v (lending v) (lent v)
  lends id v first shut s r at = parts stamp_of buffers s r id v at (lending v) (lent v) refl refl refl (omega arith) (omega arith) (inr first) refl refl refl refl shut shut refl (λ b. omega arith) (λ b l. le_refl _) (λ b l. le_refl _)

  pub absorbs : (id : ℕ) (v : V) (other : ℕ) (u : V) → v.live ≡ 1 → u.live ≡ 1 → u.stock ≡ [] → u.token ≡ None → Joins Rule id v other u (absorbed v u) spent
  absorbs id v other u one live stock token s r at apart there =
      merges stamp_of buffers s r id v at other u (absorbed v u) apart there refl refl (omega arith) (omega arith) refl refl stock refl (inl (refl, token)) (λ b l. omega (arith, greatest-append b v.seen u.seen))

  pub hands : (id : ℕ) (v : V) (other : ℕ) (u : V) → v.token ≡ None → u.live ≡ 0 → u.leaves ≡ [] → u.stock ≡ [] → Joins Rule id v other u (handed v u) spent
  hands id v other u none_held live leaves stock s r at apart there =
      merges stamp_of buffers s r id v at other u (handed v u) apart there refl refl (omega arith) (omega arith) (sym (ap (λ (z : List (ℕ × ℕ)). v.leaves ++ z) leaves ∙ append-nil v.leaves)) refl stock refl (inr (refl, none_held)) (λ b l. omega (arith, greatest-append b v.seen u.seen))

  home_at : (n b : ℕ) → b < n → (hs : List H) → hs ≡ replicate n Vacant → get_elem? (map some hs) b ≡ some (some Vacant)
  home_at zero b l hs e = absurd (omega arith)
  home_at (suc n) zero l hs e = ap (λ (z : List H). get_elem? (map some z) zero) e
  home_at (suc n) (suc b) l hs e = ap (λ (z : List H). get_elem? (map some z) (suc b)) e ∙ home_at n b (omega arith) (replicate n Vacant) refl

  pub opens_table : (words : List ℕ) (homes : List H) → words ≡ replicate (buffers + 1) 0 → homes ≡ replicate buffers Vacant → Rule (opening words homes (opened buffers))
  opens_table words homes zeros vacant = record {
    wide = ap length zeros ∙ length-replicate (buffers + 1) 0;
    homes_wide = length-map homes some ∙ (ap length vacant ∙ length-replicate buffers Vacant);
    chains = replicate buffers [];
    chains_wide = length-replicate buffers [];
    ahead = λ b l c. absurd (let e = ap length (no_chain b) in omega arith);
    short = λ b l. let e = ap length (no_chain b) in omega arith;
    single = λ b k l. omega (arith, sum_by-cons {X = V} (token_in b k) (opened buffers) []);
    there = λ b k l g c. absurd (let e = ap length (no_chain b) in omega arith);
    counted = λ b l. let e = zero_word b l in omega (arith, sum_by-cons {X = V} (leaves_in b) (opened buffers) []);
    left = λ b k l g. absurd (let e = zero_word b l in omega arith);
    unleft = λ b k l g. omega (arith, sum_by-cons {X = V} (leaf_in b k) (opened buffers) []);
    stocked = λ b. omega (arith, sum_by-cons {X = V} (stock_in b) (opened buffers) [], stock_at-range b 0 buffers);
    each = first_view;
  }
    where
      no_chain : (b : ℕ) → get_or {A = List T} (replicate buffers []) b [] ≡ []
      no_chain b = dite (dec_le buffers b)
          (λ le. get_or_past (replicate buffers []) b [] (omega (arith, length-replicate {A = List T} buffers [])))
          (λ more. get_or-replicate buffers b [] [] (omega arith))

      zero_word : (b : ℕ) → b < buffers → get_or words b 0 ≡ 0
      zero_word b l = ap (λ (z : List ℕ). get_or z b 0) zeros ∙ get_or-replicate (buffers + 1) b 0 0 (omega arith)

      first_view : (j : ℕ) (v : V) → get_elem? {A = V} (opened buffers ∷ []) j ≡ some v → Fits stamp_of buffers words (map some homes) (replicate {A = List T} buffers []) (sum_by {X = V} live_of (opened buffers ∷ [])) j v
      first_view zero v e = subst (λ (z : V). Fits stamp_of buffers words (map some homes) (replicate {A = List T} buffers []) (sum_by {X = V} live_of (opened buffers ∷ [])) zero z) (some-injective (opened buffers) v e) record {
        seen = λ b l. omega arith;
        token = λ t c. absurd (cc);
        stock = λ b c. let l : b < buffers = (let q = stock_at-range_past b 0 buffers c in omega arith) in (
          l,
          record {
            fresh = zero_word b l;
            empty = no_chain b;
            closed = λ _. home_at buffers b l homes vacant;
            open_here = λ y. absurd (cc);
          },
        );
        one = omega arith;
        apart = λ z. absurd (omega arith);
        first = λ _. (refl, refl, omega (arith, sum_by-cons {X = V} live_of (opened buffers) []));
      }
      first_view (suc j) v e = absurd (some-ne-none v (sym e))

-- Each step keeps the rule.
use Rattle.std.proofs.Common.{◌≡◌, ℕ, Bool, eqb, true, false, zero, suc, ◌+◌, ◌-◌, ◌*◌, ◌<◌, ◌≤◌, ◌≢◌, ◌^◌, max, List, [], ◌∷◌, ◌++◌, ◌⊎◌, Some, None, length, get_or, set, sym, refl, ap, ◌∙◌, subst, inl, inr, ⊎_elim, arith, le_refl, le_trans, length-set, length-append, get_or-set_other, get_or-set_same, replicate}
use Rattle.std.specs.List.{sum_by}
use mathlib.Core.Logic.{dite}
use mathlib.Core.Option.{Option, none, some, some-injective, some-ne-none}
use native.Mathlib.Decide.{ℕ_discrete}
use lib.ListN.{get_elem?}
use Rattle.atomic_table.specs.Table.{State, Me}
use Rattle.atomic_table.proofs.Lists.{at_set, set_here, set_else, at_snoc, at_longer, at_last}
use Rattle.sf_turns.specs.declared.protocol.Knows.{Knows}
use Rattle.sf_turns.specs.declared.protocol.Token.{Token}
use Rattle.sf_turns.specs.declared.protocol.Home.{Home}
use Rattle.sf_turns.specs.declared.protocol.Home.TheVariants.{Full}
use Rattle.sf_turns.specs.declared.protocol.Stage.{Stage}
use Rattle.sf_turns.specs.declared.protocol.Stage.TheVariants.{Away, Inside, Done}
use Rattle.sf_turns.specs.Counts.{same, same_turn, leaf_at, leaves_of, stock_at, token_at}
use Rattle.sf_base.specs.Points.{greatest}
use Rattle.sf_turns.specs.Rule.{live_of, IsHome, Lies, Promises, TokenFits, StockFits, Fits, Kept, spent}
use Rattle.sf_base.proofs.Lists.{inside, sum_set, two_le, sum_snoc, zero_sum}
use Rattle.sf_turns.proofs.Tallies.{same_here, same_else, turn_here, turn_other, turn_else, turn_le, leaf_at-append, leaves_of-append}

module _ {T : Type 0} where
  abbrev pub token_in : ℕ → ℕ → Knows T → ℕ
  token_in b k v = token_at b k v.token

  abbrev pub leaf_in : ℕ → ℕ → Knows T → ℕ
  leaf_in b k v = leaf_at b k v.leaves

  abbrev pub leaves_in : ℕ → Knows T → ℕ
  leaves_in b v = leaves_of b v.leaves

  abbrev pub stock_in : ℕ → Knows T → ℕ
  stock_in b v = stock_at b v.stock

  same_sum : (f : Knows T → ℕ) (l : List (Knows T)) (i : ℕ) (v w : Knows T) → get_elem? l i ≡ some v → f w ≡ f v → sum_by f (set l i w) ≡ sum_by f l
  same_sum f l i v w at e = omega (arith, sum_set f l i v w at)

module _ {P T : Type 0} (stamp_of : P → T) (buffers : ℕ) where
  abbrev H : Type 0
  H = Home P T

  abbrev V : Type 0
  V = Knows T

  abbrev St : Type 0
  St = State H V

  abbrev M : Type 0
  M = Me H V

  abbrev Rule : St → Type 0
  Rule = Kept stamp_of buffers

  abbrev Hs : Type 0
  Hs = List (Option H)

  abbrev F : List ℕ → Hs → List (List T) → ℕ → ℕ → V → Type 0
  F = Fits stamp_of buffers

  abbrev Same : List ℕ → List ℕ → Type 0
  Same words words' = (b : ℕ) → b < buffers → get_or words' b 0 ≡ get_or words b 0

  -- a view whose words are the same
  rewords : (words words' : List ℕ) (homes : Hs) (chains : List (List T)) (total j : ℕ) (u : V) → Same words words' → F words homes chains total j u → F words' homes chains total j u
  rewords words words' homes chains total j u same f = record {
    seen = λ b l. let e = same b l in let g = f.seen b l in omega arith;
    token = λ t e. let k = f.token t e in (k.0, subst (λ (z : ℕ). TokenFits stamp_of z (get_elem? homes t.buffer) (get_or chains t.buffer []) t) (sym (same t.buffer k.0)) k.1);
    stock = λ b h. let k = f.stock b h in (k.0, subst (λ (z : ℕ). StockFits stamp_of z (get_elem? homes b) (get_or chains b []) b u.opens u.stock) (sym (same b k.0)) k.1);
    one = f.one;
    apart = f.apart;
    first = f.first;
  }

  -- a view at another total of live
  retotal : (words : List ℕ) (homes : Hs) (chains : List (List T)) (total total' j : ℕ) (u : V) → (u.is_first ≡ true → total' ≤ 1 + u.out) → F words homes chains total j u → F words homes chains total' j u
  retotal words homes chains total total' j u out f = record {
    seen = f.seen;
    token = f.token;
    stock = f.stock;
    one = f.one;
    apart = f.apart;
    first = λ z. let m = f.first z in (m.0, m.1, out z);
  }

  -- another view with the same parts, which has seen no more than the words
  reread : (words : List ℕ) (homes : Hs) (chains : List (List T)) (total j : ℕ) (v w : V) → w.is_first ≡ v.is_first → w.live ≡ v.live → w.out ≡ v.out → w.leaves ≡ v.leaves → w.stock ≡ v.stock → w.opens ≡ v.opens → w.token ≡ v.token
      → ((b : ℕ) → b < buffers → greatest b w.seen ≤ get_or words b 0) → F words homes chains total j v → F words homes chains total j w
  reread words homes chains total j v w first live out leaves stock opens token seen f = record {
    seen = seen;
    token = λ t e. f.token t (sym token ∙ e);
    stock = λ b h. let k = f.stock b (subst (λ (z : List ℕ). 0 < stock_at b z) stock h) in (k.0, subst (λ (z : Bool × List ℕ). StockFits stamp_of (get_or words b 0) (get_elem? homes b) (get_or chains b []) b z.0 z.1) (λ i. (sym opens i, sym stock i)) k.1);
    one = let o = f.one in omega arith;
    apart = λ z. leaves ∙ f.apart (sym live ∙ z);
    first = λ z. let m = f.first (sym first ∙ z) in (m.0, live ∙ m.1, omega (arith, m.2));
  }

  -- no token has a number past the end of its chain
  past_end : (words : List ℕ) (homes : Hs) (chains : List (List T)) (total j : ℕ) (u : V) → F words homes chains total j u → (b k : ℕ) → length (get_or chains b []) ≤ k → token_in b k u ≡ 0
  past_end words homes chains total j u f b k past = go u.token f.token
    where
      go : (o : Rattle.std.proofs.Common.Option (Token T)) → ((t : Token T) → o ≡ Some t → (t.buffer < buffers) × TokenFits stamp_of (get_or words t.buffer 0) (get_elem? homes t.buffer) (get_or chains t.buffer []) t) → token_at b k o ≡ 0
      go None g = refl
      go (Some t) g = dite (ℕ_discrete b t.buffer)
          (λ e. turn_other b k t.buffer t.number (λ z. let h = inside (get_or chains t.buffer []) t.number t.expects (g t refl).1.expects in let c : length (get_or chains t.buffer []) ≡ length (get_or chains b []) = ap (λ (y : ℕ). length (get_or chains y [])) (sym e) in omega arith))
          (λ ne. turn_else b k t.buffer t.number ne)

  -- where the pixels are does not depend on a promise that was not made
  lies_on : (left : ℕ) (home : Option (Option H)) (number : ℕ) (x : T) (p p' : Rattle.std.proofs.Common.Option T) (g : Stage) → g ≢ Done → Lies stamp_of left home number x p g → Lies stamp_of left home number x p' g
  lies_on left home number x p p' Away ne l = l
  lies_on left home number x p p' Inside ne l = l
  lies_on left home number x p p' Done ne l = absurd (ne refl)

  promises_on : (b number : ℕ) (chain : List T) (x : T) (p : Rattle.std.proofs.Common.Option T) (chains' : List (List T)) → {c : List T} → c ≡ chain → get_or chains' b [] ≡ chain ++ x ∷ [] → number + 1 ≢ length chain → Promises stamp_of c number p → Promises stamp_of (get_or chains' b []) number p
  promises_on b number chain x None chains' {c} is long ne q = absurd (ne (q ∙ ap length is))
  promises_on b number chain x (Some y) chains' {c} is long ne q = subst (λ (z : List T). get_elem? z (number + 1) ≡ some y) (sym long) (at_longer chain (x ∷ []) (number + 1) y (subst (λ (z : List T). get_elem? z (number + 1) ≡ some y) is q))

  module _ (s : St) (r : Rule s) (id : ℕ) (v : V) (at : get_elem? s.views id ≡ some v) where
    -- a step that changes no part of the view, no home, and no word but the last
    pub reviewed : (w : V) (words : List ℕ) → length words ≡ buffers + 1 → Same s.words words
        → w.is_first ≡ v.is_first → w.live ≡ v.live → w.out ≡ v.out → w.leaves ≡ v.leaves → w.stock ≡ v.stock → w.opens ≡ v.opens → w.token ≡ v.token
        → ((b : ℕ) → b < buffers → greatest b w.seen ≤ get_or s.words b 0) → Rule record { words = words; homes = s.homes; views = set s.views id w }
    reviewed w words wide same first live out leaves stock opens token seen =
        let total : sum_by live_of (set s.views id w) ≡ sum_by live_of s.views = same_sum live_of s.views id v w at live in
        let tokens : (b k : ℕ) → sum_by (token_in b k) (set s.views id w) ≡ sum_by (token_in b k) s.views = λ b k. same_sum (token_in b k) s.views id v w at (ap (token_at b k) token) in
        let leafs : (b k : ℕ) → sum_by (leaf_in b k) (set s.views id w) ≡ sum_by (leaf_in b k) s.views = λ b k. same_sum (leaf_in b k) s.views id v w at (ap (leaf_at b k) leaves) in
        let counts : (b : ℕ) → sum_by (leaves_in b) (set s.views id w) ≡ sum_by (leaves_in b) s.views = λ b. same_sum (leaves_in b) s.views id v w at (ap (leaves_of b) leaves) in
        let stocks : (b : ℕ) → sum_by (stock_in b) (set s.views id w) ≡ sum_by (stock_in b) s.views = λ b. same_sum (stock_in b) s.views id v w at (ap (stock_at b) stock) in
        record {
          wide = wide;
          homes_wide = r.homes_wide;
          chains = r.chains;
          chains_wide = r.chains_wide;
          ahead = λ b l h. let a = r.ahead b l h in let e = same b l in omega arith;
          short = r.short;
          single = λ b k l. let a = r.single b k l in let e = tokens b k in omega arith;
          there = λ b k l g h. let f = same b l in let a = r.there b k l (omega arith) h in let e = tokens b k in omega arith;
          counted = λ b l. counts b ∙ (r.counted b l ∙ sym (same b l));
          left = λ b k l g. let f = same b l in leafs b k ∙ r.left b k l (omega arith);
          unleft = λ b k l g. let f = same b l in leafs b k ∙ r.unleft b k l (omega arith);
          stocked = λ b. let a = r.stocked b in let e = stocks b in omega arith;
          each = λ j u e. rewords s.words words s.homes r.chains (sum_by live_of (set s.views id w)) j u same (⊎_elim
              (λ (h : (j ≡ id) × (w ≡ u)). subst (λ (z : ℕ × V). F s.words s.homes r.chains (sum_by live_of (set s.views id w)) z.0 z.1) (λ i. (sym h.0 i, h.1 i))
              (reread s.words s.homes r.chains (sum_by live_of (set s.views id w)) id v w first live out leaves stock opens token seen
              (retotal s.words s.homes r.chains (sum_by live_of s.views) (sum_by live_of (set s.views id w)) id v (λ z. let m = (r.each id v at).first z in omega (arith, m.2)) (r.each id v at))))
              (λ (h : (j ≢ id) × (get_elem? s.views j ≡ some u)).
              retotal s.words s.homes r.chains (sum_by live_of s.views) (sum_by live_of (set s.views id w)) j u (λ z. let m = (r.each j u h.1).first z in omega (arith, m.2)) (r.each j u h.1))
              (at_set s.views id j w u e));
        }

    -- a join of the view at `other` into this one
    pub merges : (other : ℕ) (u w : V) → ¬ (other ≡ id) → get_elem? (set s.views id w) other ≡ some u
        → w.is_first ≡ v.is_first → w.live ≡ v.live → v.out ≤ w.out + u.live → u.live ≤ v.live → w.leaves ≡ v.leaves ++ u.leaves → w.stock ≡ v.stock → u.stock ≡ [] → w.opens ≡ v.opens
        → ((w.token ≡ v.token) × (u.token ≡ None)) ⊎ ((w.token ≡ u.token) × (v.token ≡ None))
        → ((b : ℕ) → b < buffers → greatest b w.seen ≤ max (greatest b v.seen) (greatest b u.seen))
        → Rule record { words = s.words; homes = s.homes; views = set (set s.views id w) other spent }
    merges other u w apart there first live out fewer leaves stock none_there opens token seen =
        let views' : List V = set (set s.views id w) other spent in
        let was : get_elem? s.views other ≡ some u = sym (set_else s.views id other w apart) ∙ there in
        let mine = r.each id v at in let theirs = r.each other u was in
        let total : sum_by live_of views' + u.live ≡ sum_by live_of s.views = omega (arith, sum_set live_of s.views id v w at, sum_set live_of (set s.views id w) other u spent there) in
        let merged : (f : V → ℕ) → f w ≡ f v + f u → f spent ≡ 0 → sum_by f views' ≡ sum_by f s.views = λ f e z. omega (arith, sum_set f s.views id v w at, sum_set f (set s.views id w) other u spent there) in
        let tokens : (b k : ℕ) → sum_by (token_in b k) views' ≡ sum_by (token_in b k) s.views = λ b k. merged (token_in b k) (⊎_elim
        (λ (h : (w.token ≡ v.token) × (u.token ≡ None)). let a = ap (token_at b k) h.0 in let c = ap (token_at b k) h.1 in omega arith)
        (λ (h : (w.token ≡ u.token) × (v.token ≡ None)). let a = ap (token_at b k) h.0 in let c = ap (token_at b k) h.1 in omega arith) token) refl in
        let leafs : (b k : ℕ) → sum_by (leaf_in b k) views' ≡ sum_by (leaf_in b k) s.views = λ b k. merged (leaf_in b k) (ap (leaf_at b k) leaves ∙ leaf_at-append b k v.leaves u.leaves) refl in
        let counts : (b : ℕ) → sum_by (leaves_in b) views' ≡ sum_by (leaves_in b) s.views = λ b. merged (leaves_in b) (ap (leaves_of b) leaves ∙ leaves_of-append b v.leaves u.leaves) refl in
        let stocks : (b : ℕ) → sum_by (stock_in b) views' ≡ sum_by (stock_in b) s.views = λ b. merged (stock_in b) (let a = ap (stock_at b) stock in let c = ap (stock_at b) none_there in omega arith) refl in
        record {
          wide = r.wide;
          homes_wide = r.homes_wide;
          chains = r.chains;
          chains_wide = r.chains_wide;
          ahead = r.ahead;
          short = r.short;
          single = λ b k l. let a = r.single b k l in let e = tokens b k in omega arith;
          there = λ b k l g h. let a = r.there b k l g h in let e = tokens b k in omega arith;
          counted = λ b l. counts b ∙ r.counted b l;
          left = λ b k l g. leafs b k ∙ r.left b k l g;
          unleft = λ b k l g. leafs b k ∙ r.unleft b k l g;
          stocked = λ b. let a = r.stocked b in let e = stocks b in omega arith;
          each = λ j x e. ⊎_elim
              (λ (h : (j ≡ other) × (spent ≡ x)). subst (λ (z : V). F s.words s.homes r.chains (sum_by live_of views') j z) h.1 record {
                seen = λ b l. omega arith;
                token = λ t c. absurd (cc);
                stock = λ b c. absurd (omega arith);
                one = omega arith;
                apart = λ _. refl;
                first = λ c. absurd (cc);
              })
              (λ (o : (j ≢ other) × (get_elem? (set s.views id w) j ≡ some x)). ⊎_elim
              (λ (h : (j ≡ id) × (w ≡ x)). subst (λ (z : ℕ × V). F s.words s.homes r.chains (sum_by live_of views') z.0 z.1) (λ i. (sym h.0 i, h.1 i)) record {
                seen = λ b l. let a = mine.seen b l in let c = theirs.seen b l in let d = seen b l in omega arith;
                token = λ t c. ⊎_elim (λ (k : (w.token ≡ v.token) × (u.token ≡ None)). mine.token t (sym k.0 ∙ c)) (λ (k : (w.token ≡ u.token) × (v.token ≡ None)). theirs.token t (sym k.0 ∙ c)) token;
                stock = λ b c. let k = mine.stock b (subst (λ (z : List ℕ). 0 < stock_at b z) stock c) in (k.0, subst (λ (z : Bool × List ℕ). StockFits stamp_of (get_or s.words b 0) (get_elem? s.homes b) (get_or r.chains b []) b z.0 z.1) (λ i. (sym opens i, sym stock i)) k.1);
                one = let o = mine.one in omega arith;
                apart = λ z. leaves ∙ (λ i. (mine.apart (omega arith)) i ++ (theirs.apart (omega arith)) i);
                first = λ z. let m = mine.first (sym first ∙ z) in (m.0, live ∙ m.1, omega (arith, m.2));
              })
              (λ (h : (j ≢ id) × (get_elem? s.views j ≡ some x)).
              retotal s.words s.homes r.chains (sum_by live_of s.views) (sum_by live_of views') j x (λ z. let m = (r.each j x h.1).first z in omega (arith, m.2)) (r.each j x h.1))
              (at_set s.views id j w x o.1))
              (at_set (set s.views id w) other j spent x e);
        }

    -- a part of the view goes to a new seat
    pub parts : (w u : V) → w.is_first ≡ v.is_first → u.is_first ≡ false → w.live ≡ v.live → u.live ≤ 1 → v.out + u.live ≤ w.out → (u.live ≡ 0) ⊎ (v.is_first ≡ true)
        → w.leaves ≡ v.leaves → u.leaves ≡ [] → w.token ≡ v.token → u.token ≡ None → v.opens ≡ false → w.opens ≡ false → u.opens ≡ false
        → ((b : ℕ) → stock_at b w.stock + stock_at b u.stock ≡ stock_at b v.stock)
        → ((b : ℕ) → b < buffers → greatest b w.seen ≤ greatest b v.seen) → ((b : ℕ) → b < buffers → greatest b u.seen ≤ greatest b v.seen)
        → Rule record { words = s.words; homes = s.homes; views = set s.views id w ++ u ∷ [] }
    parts w u first not_first live one out lender leaves no_leaves token no_token shut shut_w shut_u stock seen seen_u =
        let views' : List V = set s.views id w ++ u ∷ [] in
        let mine = r.each id v at in
        let total : sum_by live_of views' ≡ sum_by live_of s.views + u.live = omega (arith, sum_set live_of s.views id v w at, sum_snoc live_of (set s.views id w) u) in
        let parted : (f : V → ℕ) → f w + f u ≡ f v → sum_by f views' ≡ sum_by f s.views = λ f e. omega (arith, sum_set f s.views id v w at, sum_snoc f (set s.views id w) u) in
        let tokens : (b k : ℕ) → sum_by (token_in b k) views' ≡ sum_by (token_in b k) s.views = λ b k. parted (token_in b k) (let a = ap (token_at b k) token in let c = ap (token_at b k) no_token in omega arith) in
        let leafs : (b k : ℕ) → sum_by (leaf_in b k) views' ≡ sum_by (leaf_in b k) s.views = λ b k. parted (leaf_in b k) (let a = ap (leaf_at b k) leaves in let c = ap (leaf_at b k) no_leaves in omega arith) in
        let counts : (b : ℕ) → sum_by (leaves_in b) views' ≡ sum_by (leaves_in b) s.views = λ b. parted (leaves_in b) (let a = ap (leaves_of b) leaves in let c = ap (leaves_of b) no_leaves in omega arith) in
        let stocks : (b : ℕ) → sum_by (stock_in b) views' ≡ sum_by (stock_in b) s.views = λ b. parted (stock_in b) (stock b) in
        let part_fits : (b : ℕ) (x : V) → x.opens ≡ false → stock_at b x.stock ≤ stock_at b v.stock → 0 < stock_at b x.stock → (b < buffers) × StockFits stamp_of (get_or s.words b 0) (get_elem? s.homes b) (get_or r.chains b []) b x.opens x.stock =
        λ b x off le c. let k = mine.stock b (omega arith) in let g = k.1 in (k.0, record { fresh = g.fresh; empty = g.empty; closed = λ _. g.closed shut; open_here = λ y. absurd (let z : false ≡ true = sym off ∙ y in cc) }) in
        record {
          wide = r.wide;
          homes_wide = r.homes_wide;
          chains = r.chains;
          chains_wide = r.chains_wide;
          ahead = r.ahead;
          short = r.short;
          single = λ b k l. let a = r.single b k l in let e = tokens b k in omega arith;
          there = λ b k l g h. let a = r.there b k l g h in let e = tokens b k in omega arith;
          counted = λ b l. counts b ∙ r.counted b l;
          left = λ b k l g. leafs b k ∙ r.left b k l g;
          unleft = λ b k l g. leafs b k ∙ r.unleft b k l g;
          stocked = λ b. let a = r.stocked b in let e = stocks b in omega arith;
          each = λ j x e. ⊎_elim
              (λ (y : get_elem? (set s.views id w) j ≡ some x). ⊎_elim
              (λ (h : (j ≡ id) × (w ≡ x)). subst (λ (z : ℕ × V). F s.words s.homes r.chains (sum_by live_of views') z.0 z.1) (λ i. (sym h.0 i, h.1 i)) record {
                seen = λ b l. let a = mine.seen b l in let c = seen b l in omega arith;
                token = λ t c. mine.token t (sym token ∙ c);
                stock = λ b c. let k = stock b in part_fits b w shut_w (omega arith) c;
                one = let o = mine.one in omega arith;
                apart = λ z. leaves ∙ mine.apart (sym live ∙ z);
                first = λ z. let m = mine.first (sym first ∙ z) in (m.0, live ∙ m.1, omega (arith, m.2));
              })
              (λ (h : (j ≢ id) × (get_elem? s.views j ≡ some x)). let f = r.each j x h.1 in
              retotal s.words s.homes r.chains (sum_by live_of s.views) (sum_by live_of views') j x
              (λ z. let m = f.first z in ⊎_elim (λ (n : u.live ≡ 0). omega (arith, m.2)) (λ (y : v.is_first ≡ true). absurd (h.0 (m.0 ∙ sym (mine.first y).0))) lender) f)
              (at_set s.views id j w x y))
              (λ (h : u ≡ x). subst (λ (z : V). F s.words s.homes r.chains (sum_by live_of views') j z) h record {
                seen = λ b l. let a = mine.seen b l in let c = seen_u b l in omega arith;
                token = λ t c. absurd (let z : None ≡ Some t = sym no_token ∙ c in cc);
                stock = λ b c. let k = stock b in part_fits b u shut_u (omega arith) c;
                one = one;
                apart = λ _. no_leaves;
                first = λ c. absurd (let z : false ≡ true = sym not_first ∙ c in cc);
              })
              (at_snoc (set s.views id w) u x j e);
        }

    -- the view has the token of a turn
    module _ (t : Token T) (has : v.token ≡ Some t) where
      its : (t.buffer < buffers) × TokenFits stamp_of (get_or s.words t.buffer 0) (get_elem? s.homes t.buffer) (get_or r.chains t.buffer []) t
      its = (r.each id v at).token t has

      -- no other view has the same turn
      alone_turn : (j : ℕ) (u : V) (t2 : Token T) → j ≢ id → get_elem? s.views j ≡ some u → u.token ≡ Some t2 → t2.buffer ≡ t.buffer → t2.number ≢ t.number
      alone_turn j u t2 ne there has2 same_b same_n =
          let a : token_in t.buffer t.number v ≡ 1 = ap (token_at t.buffer t.number) has ∙ turn_here t.buffer t.number t.buffer t.number refl refl in
          let c : token_in t.buffer t.number u ≡ 1 = ap (token_at t.buffer t.number) has2 ∙ turn_here t.buffer t.number t2.buffer t2.number (sym same_b) (sym same_n) in
          let two = two_le (token_in t.buffer t.number) s.views id j v u ne at there in
          let most = r.single t.buffer t.number its.0 in omega arith

      -- its buffer is in no stock
      not_stocked : (left : ℕ) (home : Option (Option H)) (b : ℕ) (opens : Bool) (stock : List ℕ) → b ≡ t.buffer → StockFits stamp_of left home (get_or r.chains b []) b opens stock → ⊥
      not_stocked left home b opens stock e f =
          let c : get_elem? (get_or r.chains t.buffer []) t.number ≡ some t.expects = (its.1).expects in
          let z : get_or r.chains t.buffer [] ≡ [] = ap (λ (x : ℕ). get_or r.chains x []) (sym e) ∙ f.empty in
          let d : get_elem? [] t.number ≡ some t.expects = subst (λ (x : List T). get_elem? x t.number ≡ some t.expects) z c in
          absurd (some-ne-none t.expects (sym d))

      lies_else : (left number : ℕ) (home home' : Option (Option H)) (x : T) (p : Rattle.std.proofs.Common.Option T) (g : Stage) → number ≢ left → Lies stamp_of left home number x p g → Lies stamp_of left home' number x p g
      lies_else left number home home' x p Away ne l = λ e. absurd (ne e)
      lies_else left number home home' x p Inside ne l = absurd (ne l.0)
      lies_else left number home home' x p Done ne l = absurd (ne l.0)

      -- the pixels leave or come home, with the token whose turn it is
      pub homed : (w : V) (words : List ℕ) (h : Option H) (t' : Token T) → length words ≡ buffers + 1 → Same s.words words
          → w.is_first ≡ v.is_first → w.live ≡ v.live → w.out ≡ v.out → w.leaves ≡ v.leaves → w.stock ≡ v.stock → w.opens ≡ v.opens → w.seen ≡ v.seen
          → w.token ≡ Some t' → t'.buffer ≡ t.buffer → t'.number ≡ t.number → t.number ≡ get_or s.words t.buffer 0
          → TokenFits stamp_of (get_or s.words t.buffer 0) (some h) (get_or r.chains t.buffer []) t'
          → Rule record { words = words; homes = set s.homes t.buffer h; views = set s.views id w }
      homed w words h t' wide same first live out leaves stock opens seen token same_b same_n turn fits =
          let views' : List V = set s.views id w in
          let homes' : Hs = set s.homes t.buffer h in
          let mine = r.each id v at in
          let small = its.0 in
          let hw = r.homes_wide in
          let now : get_elem? homes' t.buffer ≡ some h = set_here s.homes t.buffer h (omega arith) in
          let total : sum_by live_of views' ≡ sum_by live_of s.views = same_sum live_of s.views id v w at live in
          let tokens : (b k : ℕ) → sum_by (token_in b k) views' ≡ sum_by (token_in b k) s.views = λ b k. same_sum (token_in b k) s.views id v w at
          (ap (token_at b k) token ∙ ((λ i. same_turn b k (same_b i) (same_n i)) ∙ sym (ap (token_at b k) has))) in
          let leafs : (b k : ℕ) → sum_by (leaf_in b k) views' ≡ sum_by (leaf_in b k) s.views = λ b k. same_sum (leaf_in b k) s.views id v w at (ap (leaf_at b k) leaves) in
          let counts : (b : ℕ) → sum_by (leaves_in b) views' ≡ sum_by (leaves_in b) s.views = λ b. same_sum (leaves_in b) s.views id v w at (ap (leaves_of b) leaves) in
          let stocks : (b : ℕ) → sum_by (stock_in b) views' ≡ sum_by (stock_in b) s.views = λ b. same_sum (stock_in b) s.views id v w at (ap (stock_at b) stock) in
          let stock_stays : (b : ℕ) (x : V) → (b < buffers) × StockFits stamp_of (get_or s.words b 0) (get_elem? s.homes b) (get_or r.chains b []) b x.opens x.stock
          → (b < buffers) × StockFits stamp_of (get_or s.words b 0) (get_elem? homes' b) (get_or r.chains b []) b x.opens x.stock =
          λ b x k. (
            k.0,
            dite (ℕ_discrete b t.buffer) (λ e. absurd (not_stocked _ _ b _ _ e k.1))
                (λ ne. subst (λ (z : Option (Option H)). StockFits stamp_of (get_or s.words b 0) z (get_or r.chains b []) b x.opens x.stock) (sym (set_else s.homes t.buffer b h ne)) k.1),
          ) in
          record {
            wide = wide;
            homes_wide = length-set s.homes t.buffer h ∙ hw;
            chains = r.chains;
            chains_wide = r.chains_wide;
            ahead = λ b l c. let a = r.ahead b l c in let e = same b l in omega arith;
            short = r.short;
            single = λ b k l. let a = r.single b k l in let e = tokens b k in omega arith;
            there = λ b k l g c. let f = same b l in let a = r.there b k l (omega arith) c in let e = tokens b k in omega arith;
            counted = λ b l. counts b ∙ (r.counted b l ∙ sym (same b l));
            left = λ b k l g. let f = same b l in leafs b k ∙ r.left b k l (omega arith);
            unleft = λ b k l g. let f = same b l in leafs b k ∙ r.unleft b k l (omega arith);
            stocked = λ b. let a = r.stocked b in let e = stocks b in omega arith;
            each = λ j u e. rewords s.words words homes' r.chains (sum_by live_of views') j u same (⊎_elim
                (λ (g : (j ≡ id) × (w ≡ u)). subst (λ (z : ℕ × V). F s.words homes' r.chains (sum_by live_of views') z.0 z.1) (λ i. (sym g.0 i, g.1 i)) record {
                  seen = λ b l. let a = mine.seen b l in let c = ap (greatest b) seen in omega arith;
                  token = λ t2 c. let e2 : t' ≡ t2 = (let z : Some t' ≡ Some t2 = sym token ∙ c in cc) in
                      subst (λ (z : Token T). (z.buffer < buffers) × TokenFits stamp_of (get_or s.words z.buffer 0) (get_elem? homes' z.buffer) (get_or r.chains z.buffer []) z) e2 (
                        omega arith,
                        subst (λ (z : ℕ). TokenFits stamp_of (get_or s.words z 0) (get_elem? homes' z) (get_or r.chains z []) t') (sym same_b)
                            (subst (λ (z : Option (Option H)). TokenFits stamp_of (get_or s.words t.buffer 0) z (get_or r.chains t.buffer []) t') (sym now) fits),
                      );
                  stock = λ b c. let k = stock_stays b v (mine.stock b (subst (λ (z : List ℕ). 0 < stock_at b z) stock c)) in (k.0, subst (λ (z : Bool × List ℕ). StockFits stamp_of (get_or s.words b 0) (get_elem? homes' b) (get_or r.chains b []) b z.0 z.1) (λ i. (sym opens i, sym stock i)) k.1);
                  one = let o = mine.one in omega arith;
                  apart = λ z. leaves ∙ mine.apart (sym live ∙ z);
                  first = λ z. let m = mine.first (sym first ∙ z) in (m.0, live ∙ m.1, omega (arith, m.2));
                })
                (λ (g : (j ≢ id) × (get_elem? s.views j ≡ some u)). let f = r.each j u g.1 in record {
                  seen = f.seen;
                  token = λ t2 c. let k = f.token t2 c in let kf = k.1 in (
                    k.0,
                    dite (ℕ_discrete t2.buffer t.buffer)
                        (λ e2. let other = alone_turn j u t2 g.0 g.1 c e2 in
                        let wrong : t2.number ≢ get_or s.words t2.buffer 0 = λ y. other (y ∙ (ap (λ (z : ℕ). get_or s.words z 0) e2 ∙ sym turn)) in
                        record { from = kf.from; expects = kf.expects; promises = kf.promises; lies = lies_else _ _ _ _ _ _ t2.stage wrong kf.lies })
                        (λ ne. subst (λ (z : Option (Option H)). TokenFits stamp_of (get_or s.words t2.buffer 0) z (get_or r.chains t2.buffer []) t2) (sym (set_else s.homes t.buffer t2.buffer h ne)) kf),
                  );
                  stock = λ b c. stock_stays b u (f.stock b c);
                  one = f.one;
                  apart = f.apart;
                  first = λ z. let m = f.first z in (m.0, m.1, omega (arith, m.2));
                })
                (at_set s.views id j w u e));
          }

      -- the next turn is issued, and its token goes to a new seat
      pub issues : (w u : V) (t' heir : Token T) (x : T) → w.is_first ≡ v.is_first → w.live ≡ v.live → w.out ≡ v.out → w.leaves ≡ v.leaves → w.stock ≡ v.stock → w.opens ≡ v.opens → w.seen ≡ v.seen
          → u.is_first ≡ false → u.live ≡ 0 → u.leaves ≡ [] → u.stock ≡ [] → u.seen ≡ v.seen
          → t.promise ≡ None → t.stage ≢ Done → t.number + 1 < 2 ^ 64
          → w.token ≡ Some t' → t' ≡ record t { promise = Some x }
          → u.token ≡ Some heir → heir ≡ record { buffer = t.buffer; number = t.number + 1; stage = Away; expects = x; promise = None }
          → Rule record { words = s.words; homes = s.homes; views = set s.views id w ++ u ∷ [] }
      issues w u t' heir x first live out leaves stock opens seen u_first u_seats u_leaves u_stock u_seen none_yet not_done room w_token t'_is u_token heir_is =
          let views' : List V = set s.views id w ++ u ∷ [] in
          let b0 : ℕ = t.buffer in let n0 : ℕ = t.number in
          let chain : List T = get_or r.chains b0 [] in
          let longer : List T = chain ++ x ∷ [] in
          let chains' : List (List T) = set r.chains b0 longer in
          let mine = r.each id v at in
          let small = its.0 in
          let fit = its.1 in
          let cw = r.chains_wide in
          let ends : n0 + 1 ≡ length chain = subst (Promises stamp_of chain n0) none_yet fit.promises in
          let here : get_or chains' b0 [] ≡ longer = get_or-set_same r.chains b0 longer [] (omega arith) in
          let else_ : (b : ℕ) → b ≢ b0 → get_or chains' b [] ≡ get_or r.chains b [] = λ b ne. get_or-set_other r.chains b0 b longer [] ne in
          let long : length longer ≡ n0 + 2 = omega (arith, length-append chain (x ∷ [])) in
          let total : sum_by live_of views' ≡ sum_by live_of s.views = omega (arith, sum_set live_of s.views id v w at, sum_snoc live_of (set s.views id w) u) in
          let kept_sum : (f : V → ℕ) → f w ≡ f v → f u ≡ 0 → sum_by f views' ≡ sum_by f s.views = λ f e z. omega (arith, sum_set f s.views id v w at, sum_snoc f (set s.views id w) u) in
          let leafs : (b k : ℕ) → sum_by (leaf_in b k) views' ≡ sum_by (leaf_in b k) s.views = λ b k. kept_sum (leaf_in b k) (ap (leaf_at b k) leaves) (ap (leaf_at b k) u_leaves) in
          let counts : (b : ℕ) → sum_by (leaves_in b) views' ≡ sum_by (leaves_in b) s.views = λ b. kept_sum (leaves_in b) (ap (leaves_of b) leaves) (ap (leaves_of b) u_leaves) in
          let stocks : (b : ℕ) → sum_by (stock_in b) views' ≡ sum_by (stock_in b) s.views = λ b. kept_sum (stock_in b) (ap (stock_at b) stock) (ap (stock_at b) u_stock) in
          let same_one : (b k : ℕ) → token_in b k w ≡ token_in b k v = λ b k. ap (token_at b k) w_token ∙ (ap (λ (z : Token T). token_at b k (Some z)) t'_is ∙ sym (ap (token_at b k) has)) in
          let news : (b k : ℕ) → token_in b k u ≡ same_turn b k b0 (n0 + 1) = λ b k. ap (token_at b k) u_token ∙ ap (λ (z : Token T). token_at b k (Some z)) heir_is in
          let tokens : (b k : ℕ) → sum_by (token_in b k) views' ≡ sum_by (token_in b k) s.views + same_turn b k b0 (n0 + 1) = λ b k. let a = same_one b k in let c = news b k in omega (arith, sum_set (token_in b k) s.views id v w at, sum_snoc (token_in b k) (set s.views id w) u) in
          -- no token has a number past the end of its chain
          let unborn : sum_by (token_in b0 (n0 + 1)) s.views ≡ 0 = zero_sum (token_in b0 (n0 + 1)) s.views (λ j y e. past_end s.words s.homes r.chains (sum_by live_of s.views) j y (r.each j y e) b0 (n0 + 1) (omega arith)) in
          let up : (b k : ℕ) (y : T) → get_elem? (get_or r.chains b []) k ≡ some y → get_elem? (get_or chains' b []) k ≡ some y = λ b k y g. dite (ℕ_discrete b b0)
          (λ e. subst (λ (z : List T). get_elem? z k ≡ some y) (sym (ap (λ (z : ℕ). get_or chains' z []) e ∙ here)) (at_longer chain (x ∷ []) k y (subst (λ (z : ℕ). get_elem? (get_or r.chains z []) k ≡ some y) e g)))
          (λ ne. subst (λ (z : List T). get_elem? z k ≡ some y) (sym (else_ b ne)) g) in
          let stock_stays : (b : ℕ) (y : V) → (b < buffers) × StockFits stamp_of (get_or s.words b 0) (get_elem? s.homes b) (get_or r.chains b []) b y.opens y.stock
          → (b < buffers) × StockFits stamp_of (get_or s.words b 0) (get_elem? s.homes b) (get_or chains' b []) b y.opens y.stock =
          λ b y k. (
            k.0,
            dite (ℕ_discrete b b0) (λ e. absurd (not_stocked _ _ b _ _ e k.1))
                (λ ne. subst (λ (z : List T). StockFits stamp_of (get_or s.words b 0) (get_elem? s.homes b) z b y.opens y.stock) (sym (else_ b ne)) k.1),
          ) in
          record {
            wide = r.wide;
            homes_wide = r.homes_wide;
            chains = chains';
            chains_wide = length-set r.chains b0 longer ∙ cw;
            ahead = λ b l c. dite (ℕ_discrete b b0)
                (λ e. let f : length (get_or chains' b []) ≡ n0 + 2 = ap (λ (z : ℕ). length (get_or chains' z [])) e ∙ (ap length here ∙ long) in let g : get_or s.words b 0 ≡ get_or s.words b0 0 = ap (λ (z : ℕ). get_or s.words z 0) e in let h = fit.from in omega arith)
                (λ ne. let f = ap length (else_ b ne) in let a = r.ahead b l (omega arith) in omega arith);
            short = λ b l. dite (ℕ_discrete b b0)
                (λ e. let f : length (get_or chains' b []) ≡ n0 + 2 = ap (λ (z : ℕ). length (get_or chains' z [])) e ∙ (ap length here ∙ long) in omega arith)
                (λ ne. let f = ap length (else_ b ne) in let a = r.short b l in omega arith);
            single = λ b k l. dite (ℕ_discrete b b0)
                (λ e. dite (ℕ_discrete k (n0 + 1))
                (λ g. let q : sum_by (token_in b k) s.views ≡ 0 = (λ i. sum_by (token_in (e i) (g i)) s.views) ∙ unborn in let c = turn_le b k b0 (n0 + 1) in let d = tokens b k in omega arith)
                (λ ng. let c = turn_other b k b0 (n0 + 1) ng in let d = tokens b k in let a = r.single b k l in omega arith))
                (λ ne. let c = turn_else b k b0 (n0 + 1) ne in let d = tokens b k in let a = r.single b k l in omega arith);
            there = λ b k l g c. let d = tokens b k in dite (ℕ_discrete b b0)
                (λ e. let f : length (get_or chains' b []) ≡ n0 + 2 = ap (λ (z : ℕ). length (get_or chains' z [])) e ∙ (ap length here ∙ long) in
                let f2 : length (get_or r.chains b []) ≡ n0 + 1 = ap (λ (z : ℕ). length (get_or r.chains z [])) e ∙ sym ends in
                dite (ℕ_discrete k (n0 + 1))
                (λ y. let q = turn_here b k b0 (n0 + 1) e y in omega arith)
                (λ ny. let a = r.there b k l g (omega arith) in omega arith))
                (λ ne. let f = ap length (else_ b ne) in let a = r.there b k l g (omega arith) in omega arith);
            counted = λ b l. counts b ∙ r.counted b l;
            left = λ b k l g. leafs b k ∙ r.left b k l g;
            unleft = λ b k l g. leafs b k ∙ r.unleft b k l g;
            stocked = λ b. let a = r.stocked b in let e = stocks b in omega arith;
            each = λ j y e. ⊎_elim
                (λ (a : get_elem? (set s.views id w) j ≡ some y). ⊎_elim
                (λ (g : (j ≡ id) × (w ≡ y)). subst (λ (z : ℕ × V). F s.words s.homes chains' (sum_by live_of views') z.0 z.1) (λ i. (sym g.0 i, g.1 i)) record {
                  seen = λ b l. let c = mine.seen b l in let d = ap (greatest b) seen in omega arith;
                  token = λ t2 c. let e2 : record t { promise = Some x } ≡ t2 = (let z : Some t' ≡ Some t2 = sym w_token ∙ c in cc) in
                      subst (λ (z : Token T). (z.buffer < buffers) × TokenFits stamp_of (get_or s.words z.buffer 0) (get_elem? s.homes z.buffer) (get_or chains' z.buffer []) z) e2 (
                        small,
                        record {
                          from = fit.from;
                          expects = up b0 n0 t.expects fit.expects;
                          promises = subst (λ (z : List T). get_elem? z (n0 + 1) ≡ some x) (sym here) (at_last chain x (n0 + 1) (sym ends));
                          lies = lies_on _ _ _ _ _ _ t.stage not_done fit.lies;
                        },
                      );
                  stock = λ b c. let k = stock_stays b v (mine.stock b (subst (λ (z : List ℕ). 0 < stock_at b z) stock c)) in (k.0, subst (λ (z : Bool × List ℕ). StockFits stamp_of (get_or s.words b 0) (get_elem? s.homes b) (get_or chains' b []) b z.0 z.1) (λ i. (sym opens i, sym stock i)) k.1);
                  one = let o = mine.one in omega arith;
                  apart = λ z. leaves ∙ mine.apart (sym live ∙ z);
                  first = λ z. let m = mine.first (sym first ∙ z) in (m.0, live ∙ m.1, omega (arith, m.2));
                })
                (λ (g : (j ≢ id) × (get_elem? s.views j ≡ some y)). let f = r.each j y g.1 in record {
                  seen = f.seen;
                  token = λ t2 c. let k = f.token t2 c in let kf = k.1 in (
                    k.0,
                    record {
                      from = kf.from;
                      expects = up t2.buffer t2.number t2.expects kf.expects;
                      promises = dite (ℕ_discrete t2.buffer b0)
                          (λ e2. let other = alone_turn j y t2 g.0 g.1 c e2 in promises_on t2.buffer t2.number chain x t2.promise chains' (ap (λ (z : ℕ). get_or r.chains z []) e2) (ap (λ (z : ℕ). get_or chains' z []) e2 ∙ here) (λ z. other (omega arith)) kf.promises)
                          (λ ne. subst (λ (z : List T). Promises stamp_of z t2.number t2.promise) (sym (else_ t2.buffer ne)) kf.promises);
                      lies = kf.lies;
                    },
                  );
                  stock = λ b c. stock_stays b y (f.stock b c);
                  one = f.one;
                  apart = f.apart;
                  first = λ z. let m = f.first z in (m.0, m.1, omega (arith, m.2));
                })
                (at_set s.views id j w y a))
                (λ (g : u ≡ y). subst (λ (z : V). F s.words s.homes chains' (sum_by live_of views') j z) g record {
                  seen = λ b l. let c = mine.seen b l in let d = ap (greatest b) u_seen in omega arith;
                  token = λ t2 c. let e2 : record { buffer = b0; number = n0 + 1; stage = Away; expects = x; promise = None } ≡ t2 = sym heir_is ∙ (let z : Some heir ≡ Some t2 = sym u_token ∙ c in cc) in
                      subst (λ (z : Token T). (z.buffer < buffers) × TokenFits stamp_of (get_or s.words z.buffer 0) (get_elem? s.homes z.buffer) (get_or chains' z.buffer []) z) e2 (
                        small,
                        record {
                          from = let h = fit.from in omega arith;
                          expects = subst (λ (z : List T). get_elem? z (n0 + 1) ≡ some x) (sym here) (at_last chain x (n0 + 1) (sym ends));
                          promises = subst (λ (z : List T). n0 + 1 + 1 ≡ length z) (sym here) (omega arith);
                          lies = λ z. absurd (let h = fit.from in omega arith);
                        },
                      );
                  stock = λ b c. absurd (let q : 0 < stock_at b [] = subst (λ (z : List ℕ). 0 < stock_at b z) u_stock c in omega arith);
                  one = omega arith;
                  apart = λ _. u_leaves;
                  first = λ c. absurd (let z : false ≡ true = sym u_first ∙ c in cc);
                })
                (at_snoc (set s.views id w) u y j e);
          }

      lies_next : (left left' number : ℕ) (home : Option (Option H)) (x : T) (p : Rattle.std.proofs.Common.Option T) (g : Stage) → number ≢ left → (number ≡ left' → IsHome stamp_of home x) → Lies stamp_of left home number x p g → Lies stamp_of left' home number x p g
      lies_next left left' number home x p Away ne back l = back
      lies_next left left' number home x p Inside ne back l = absurd (ne l.0)
      lies_next left left' number home x p Done ne back l = absurd (ne l.0)

      -- the turn leaves: the word of its buffer rises by one
      pub goes : (w : V) (words : List ℕ) (x : T) → length words ≡ buffers + 1 → ((b : ℕ) → b < buffers → b ≢ t.buffer → get_or words b 0 ≡ get_or s.words b 0) → get_or words t.buffer 0 ≡ t.number + 1
          → t.stage ≡ Done → t.promise ≡ Some x → v.live ≡ 1
          → w.is_first ≡ v.is_first → w.live ≡ v.live → w.out ≡ v.out → w.stock ≡ v.stock → w.opens ≡ v.opens → w.leaves ≡ v.leaves ++ (t.buffer, t.number) ∷ [] → w.token ≡ None
          → ((b : ℕ) → b < buffers → greatest b w.seen ≤ get_or words b 0)
          → Rule record { words = words; homes = s.homes; views = set s.views id w }
      goes w words x wide same_words risen done promise reader first live out stock opens leaves no_token seen =
          let views' : List V = set s.views id w in
          let b0 : ℕ = t.buffer in let n0 : ℕ = t.number in
          let chain : List T = get_or r.chains b0 [] in
          let mine = r.each id v at in
          let small = its.0 in
          let fit = its.1 in
          let lies : Lies stamp_of (get_or s.words b0 0) (get_elem? s.homes b0) n0 t.expects (Some x) Done = subst (λ (z : Rattle.std.proofs.Common.Option T × Stage). Lies stamp_of (get_or s.words b0 0) (get_elem? s.homes b0) n0 t.expects z.0 z.1) (λ i. (promise i, done i)) fit.lies in
          let now : n0 ≡ get_or s.words b0 0 = lies.0 in
          let next : get_elem? chain (n0 + 1) ≡ some x = subst (Promises stamp_of chain n0) promise fit.promises in
          let far : n0 + 1 < length chain = inside chain (n0 + 1) x next in
          let here : IsHome stamp_of (get_elem? s.homes b0) x = let q : lies.1.0 ≡ x = (let z : Some x ≡ Some lies.1.0 = lies.1.1 in cc) in subst (IsHome stamp_of (get_elem? s.homes b0)) q lies.1.2 in
          let total : sum_by live_of views' ≡ sum_by live_of s.views = same_sum live_of s.views id v w at live in
          let stocks : (b : ℕ) → sum_by (stock_in b) views' ≡ sum_by (stock_in b) s.views = λ b. same_sum (stock_in b) s.views id v w at (ap (stock_at b) stock) in
          let mono : (b : ℕ) → b < buffers → get_or s.words b 0 ≤ get_or words b 0 = λ b l. dite (ℕ_discrete b b0)
          (λ e. let f = ap (λ (z : ℕ). get_or words z 0) e in let g = ap (λ (z : ℕ). get_or s.words z 0) e in omega arith)
          (λ ne. let f = same_words b l ne in omega arith) in
          let tokens : (b k : ℕ) → sum_by (token_in b k) views' + same_turn b k b0 n0 ≡ sum_by (token_in b k) s.views = λ b k. let a : token_in b k w ≡ 0 = ap (token_at b k) no_token in let c : token_in b k v ≡ same_turn b k b0 n0 = ap (token_at b k) has in omega (arith, sum_set (token_in b k) s.views id v w at) in
          let leafs : (b k : ℕ) → sum_by (leaf_in b k) views' ≡ sum_by (leaf_in b k) s.views + same_turn b k b0 n0 = λ b k. let a : leaf_in b k w ≡ leaf_in b k v + same_turn b k b0 n0 = (let z = ap (leaf_at b k) leaves in let y = leaf_at-append b k v.leaves ((b0, n0) ∷ []) in omega arith) in omega (arith, sum_set (leaf_in b k) s.views id v w at) in
          let counts : (b : ℕ) → sum_by (leaves_in b) views' ≡ sum_by (leaves_in b) s.views + same b b0 = λ b. let a : leaves_in b w ≡ leaves_in b v + same b b0 = (let z = ap (leaves_of b) leaves in let y = leaves_of-append b v.leaves ((b0, n0) ∷ []) in omega arith) in omega (arith, sum_set (leaves_in b) s.views id v w at) in
          let stock_stays : (b : ℕ) (y : V) → (b < buffers) × StockFits stamp_of (get_or s.words b 0) (get_elem? s.homes b) (get_or r.chains b []) b y.opens y.stock
          → (b < buffers) × StockFits stamp_of (get_or words b 0) (get_elem? s.homes b) (get_or r.chains b []) b y.opens y.stock =
          λ b y k. (
            k.0,
            dite (ℕ_discrete b b0) (λ e. absurd (not_stocked _ _ b _ _ e k.1))
                (λ ne. subst (λ (z : ℕ). StockFits stamp_of z (get_elem? s.homes b) (get_or r.chains b []) b y.opens y.stock) (sym (same_words b k.0 ne)) k.1),
          ) in
          record {
            wide = wide;
            homes_wide = r.homes_wide;
            chains = r.chains;
            chains_wide = r.chains_wide;
            ahead = λ b l c. dite (ℕ_discrete b b0)
                (λ e. let f = ap (λ (z : ℕ). get_or words z 0) e in let g = ap (λ (z : ℕ). length (get_or r.chains z [])) e in omega arith)
                (λ ne. let f = same_words b l ne in let a = r.ahead b l c in omega arith);
            short = r.short;
            single = λ b k l. let a = r.single b k l in let e = tokens b k in omega arith;
            there = λ b k l g c. let m = mono b l in let a = r.there b k l (omega arith) c in let e = tokens b k in dite (ℕ_discrete b b0)
                (λ f. let h = ap (λ (z : ℕ). get_or words z 0) f in let d = turn_other b k b0 n0 (λ z. omega arith) in omega arith)
                (λ ne. let d = turn_else b k b0 n0 ne in omega arith);
            counted = λ b l. let a = r.counted b l in let e = counts b in dite (ℕ_discrete b b0)
                (λ f. let h = ap (λ (z : ℕ). get_or words z 0) f in let g = ap (λ (z : ℕ). get_or s.words z 0) f in let d = same_here b b0 f in omega arith)
                (λ ne. let d = same_else b b0 ne in let h = same_words b l ne in omega arith);
            left = λ b k l g. let e = leafs b k in dite (ℕ_discrete b b0)
                (λ f. let h = ap (λ (z : ℕ). get_or words z 0) f in let q = ap (λ (z : ℕ). get_or s.words z 0) f in dite (ℕ_discrete k n0)
                (λ y. let d = turn_here b k b0 n0 f y in let a = r.unleft b k l (omega arith) in omega arith)
                (λ ny. let d = turn_other b k b0 n0 ny in let a = r.left b k l (omega arith) in omega arith))
                (λ ne. let d = turn_else b k b0 n0 ne in let h = same_words b l ne in let a = r.left b k l (omega arith) in omega arith);
            unleft = λ b k l g. let e = leafs b k in let m = mono b l in let a = r.unleft b k l (omega arith) in dite (ℕ_discrete b b0)
                (λ f. let h = ap (λ (z : ℕ). get_or words z 0) f in let d = turn_other b k b0 n0 (λ z. omega arith) in omega arith)
                (λ ne. let d = turn_else b k b0 n0 ne in omega arith);
            stocked = λ b. let a = r.stocked b in let e = stocks b in omega arith;
            each = λ j u e. ⊎_elim
                (λ (g : (j ≡ id) × (w ≡ u)). subst (λ (z : ℕ × V). F words s.homes r.chains (sum_by live_of views') z.0 z.1) (λ i. (sym g.0 i, g.1 i)) record {
                  seen = seen;
                  token = λ t2 c. absurd (let z : None ≡ Some t2 = sym no_token ∙ c in cc);
                  stock = λ b c. let k = stock_stays b v (mine.stock b (subst (λ (z : List ℕ). 0 < stock_at b z) stock c)) in (k.0, subst (λ (z : Bool × List ℕ). StockFits stamp_of (get_or words b 0) (get_elem? s.homes b) (get_or r.chains b []) b z.0 z.1) (λ i. (sym opens i, sym stock i)) k.1);
                  one = let o = mine.one in omega arith;
                  apart = λ z. absurd (omega arith);
                  first = λ z. let m = mine.first (sym first ∙ z) in (m.0, live ∙ m.1, omega (arith, m.2));
                })
                (λ (g : (j ≢ id) × (get_elem? s.views j ≡ some u)). let f = r.each j u g.1 in record {
                  seen = λ b l. let a = f.seen b l in let m = mono b l in omega arith;
                  token = λ t2 c. let k = f.token t2 c in let kf = k.1 in (
                    k.0,
                    dite (ℕ_discrete t2.buffer b0)
                        (λ e2. let other = alone_turn j u t2 g.0 g.1 c e2 in
                        let w0 : get_or s.words t2.buffer 0 ≡ n0 = ap (λ (z : ℕ). get_or s.words z 0) e2 ∙ sym now in
                        let w1 : get_or words t2.buffer 0 ≡ n0 + 1 = ap (λ (z : ℕ). get_or words z 0) e2 ∙ risen in
                        let kfrom = kf.from in
                        record {
                          from = omega arith;
                          expects = kf.expects;
                          promises = kf.promises;
                          lies = lies_next _ _ _ _ _ _ t2.stage (λ z. other (z ∙ w0))
                              (λ z. let y : t2.number ≡ n0 + 1 = z ∙ w1 in
                              let p : get_elem? chain (n0 + 1) ≡ some t2.expects = subst (λ (q : ℕ × ℕ). get_elem? (get_or r.chains q.0 []) q.1 ≡ some t2.expects) (λ i. (e2 i, y i)) kf.expects in
                              let q : x ≡ t2.expects = some-injective x t2.expects (sym next ∙ p) in
                              subst (λ (a : ℕ × T). IsHome stamp_of (get_elem? s.homes a.0) a.1) (λ i. (sym e2 i, q i)) here)
                              kf.lies;
                        })
                        (λ ne. subst (λ (z : ℕ). TokenFits stamp_of z (get_elem? s.homes t2.buffer) (get_or r.chains t2.buffer []) t2) (sym (same_words t2.buffer k.0 ne)) kf),
                  );
                  stock = λ b c. stock_stays b u (f.stock b c);
                  one = f.one;
                  apart = f.apart;
                  first = λ z. let m = f.first z in (m.0, m.1, omega (arith, m.2));
                })
                (at_set s.views id j w u e);
          }

    -- the view may open the buffer b, and no other
    module _ (b0 : ℕ) (only : v.stock ≡ b0 ∷ []) where
      have : (b0 < buffers) × StockFits stamp_of (get_or s.words b0 0) (get_elem? s.homes b0) (get_or r.chains b0 []) b0 v.opens v.stock
      have = (r.each id v at).stock b0 (let q : stock_at b0 v.stock ≡ 1 = (let a = ap (stock_at b0) only in let c = same_here b0 b0 refl in omega arith) in omega arith)

      -- no token is of the buffer
      no_token_yet : (j : ℕ) (u : V) (t : Token T) → get_elem? s.views j ≡ some u → u.token ≡ Some t → t.buffer ≢ b0
      no_token_yet j u t there tok e =
          let c : get_elem? (get_or r.chains t.buffer []) t.number ≡ some t.expects = ((r.each j u there).token t tok).1.expects in
          let z : get_or r.chains t.buffer [] ≡ [] = ap (λ (y : ℕ). get_or r.chains y []) e ∙ (have.1).empty in
          let d : get_elem? [] t.number ≡ some t.expects = subst (λ (y : List T). get_elem? y t.number ≡ some t.expects) z c in
          some-ne-none t.expects (sym d)

      -- no other view may open it
      no_other : (j : ℕ) (u : V) (b : ℕ) → j ≢ id → get_elem? s.views j ≡ some u → 0 < stock_at b u.stock → b ≢ b0
      no_other j u b ne there some_ e =
          let a : stock_in b v ≡ 1 = ap (stock_at b) only ∙ (let c = same_here b b0 e in omega arith) in
          let two = two_le (stock_in b) s.views id j v u ne at there in
          let most = r.stocked b in omega arith

      -- its slot is taken, to be filled
      pub cleared : (w : V) (words : List ℕ) → length words ≡ buffers + 1 → Same s.words words
          → w.is_first ≡ v.is_first → w.live ≡ v.live → w.out ≡ v.out → w.leaves ≡ v.leaves → w.stock ≡ v.stock → w.opens ≡ true → w.seen ≡ v.seen → w.token ≡ v.token → v.token ≡ None
          → Rule record { words = words; homes = set s.homes b0 none; views = set s.views id w }
      cleared w words wide same_words first live out leaves stock opens seen token no_token =
          let views' : List V = set s.views id w in
          let homes' : Hs = set s.homes b0 none in
          let mine = r.each id v at in
          let hw = r.homes_wide in let small = have.0 in
          let now : get_elem? homes' b0 ≡ some none = set_here s.homes b0 none (omega arith) in
          let total : sum_by live_of views' ≡ sum_by live_of s.views = same_sum live_of s.views id v w at live in
          let tokens : (b k : ℕ) → sum_by (token_in b k) views' ≡ sum_by (token_in b k) s.views = λ b k. same_sum (token_in b k) s.views id v w at (ap (token_at b k) token) in
          let leafs : (b k : ℕ) → sum_by (leaf_in b k) views' ≡ sum_by (leaf_in b k) s.views = λ b k. same_sum (leaf_in b k) s.views id v w at (ap (leaf_at b k) leaves) in
          let counts : (b : ℕ) → sum_by (leaves_in b) views' ≡ sum_by (leaves_in b) s.views = λ b. same_sum (leaves_in b) s.views id v w at (ap (leaves_of b) leaves) in
          let stocks : (b : ℕ) → sum_by (stock_in b) views' ≡ sum_by (stock_in b) s.views = λ b. same_sum (stock_in b) s.views id v w at (ap (stock_at b) stock) in
          record {
            wide = wide;
            homes_wide = length-set s.homes b0 none ∙ hw;
            chains = r.chains;
            chains_wide = r.chains_wide;
            ahead = λ b l c. let a = r.ahead b l c in let e = same_words b l in omega arith;
            short = r.short;
            single = λ b k l. let a = r.single b k l in let e = tokens b k in omega arith;
            there = λ b k l g c. let f = same_words b l in let a = r.there b k l (omega arith) c in let e = tokens b k in omega arith;
            counted = λ b l. counts b ∙ (r.counted b l ∙ sym (same_words b l));
            left = λ b k l g. let f = same_words b l in leafs b k ∙ r.left b k l (omega arith);
            unleft = λ b k l g. let f = same_words b l in leafs b k ∙ r.unleft b k l (omega arith);
            stocked = λ b. let a = r.stocked b in let e = stocks b in omega arith;
            each = λ j u e. rewords s.words words homes' r.chains (sum_by live_of views') j u same_words (⊎_elim
                (λ (g : (j ≡ id) × (w ≡ u)). subst (λ (z : ℕ × V). F s.words homes' r.chains (sum_by live_of views') z.0 z.1) (λ i. (sym g.0 i, g.1 i)) record {
                  seen = λ b l. let a = mine.seen b l in let c = ap (greatest b) seen in omega arith;
                  token = λ t2 c. absurd (let z : None ≡ Some t2 = sym no_token ∙ (sym token ∙ c) in cc);
                  stock = λ b c. dite (ℕ_discrete b b0)
                      (λ e2. subst (λ (z : ℕ). (z < buffers) × StockFits stamp_of (get_or s.words z 0) (get_elem? homes' z) (get_or r.chains z []) z w.opens w.stock) (sym e2)
                      (have.0, record { fresh = (have.1).fresh; empty = (have.1).empty; closed = λ y. absurd (let z : false ≡ true = sym y ∙ opens in cc); open_here = λ _. (now, stock ∙ only) }))
                      (λ ne. absurd (let a = ap (stock_at b) (stock ∙ only) in let d = same_else b b0 ne in omega arith));
                  one = let o = mine.one in omega arith;
                  apart = λ z. leaves ∙ mine.apart (sym live ∙ z);
                  first = λ z. let m = mine.first (sym first ∙ z) in (m.0, live ∙ m.1, omega (arith, m.2));
                })
                (λ (g : (j ≢ id) × (get_elem? s.views j ≡ some u)). let f = r.each j u g.1 in record {
                  seen = f.seen;
                  token = λ t2 c. let k = f.token t2 c in (k.0, subst (λ (z : Option (Option H)). TokenFits stamp_of (get_or s.words t2.buffer 0) z (get_or r.chains t2.buffer []) t2) (sym (set_else s.homes b0 t2.buffer none (no_token_yet j u t2 g.1 c))) k.1);
                  stock = λ b c. let k = f.stock b c in (k.0, subst (λ (z : Option (Option H)). StockFits stamp_of (get_or s.words b 0) z (get_or r.chains b []) b u.opens u.stock) (sym (set_else s.homes b0 b none (no_other j u b g.0 g.1 c))) k.1);
                  one = f.one;
                  apart = f.apart;
                  first = λ z. let m = f.first z in (m.0, m.1, omega (arith, m.2));
                })
                (at_set s.views id j w u e));
          }

      -- the buffer is opened: its slot is filled, and the view has its turn 0
      pub begins : (w : V) (words : List ℕ) (p : P) (t : Token T) → length words ≡ buffers + 1 → Same s.words words
          → w.is_first ≡ v.is_first → w.live ≡ v.live → w.out ≡ v.out → w.leaves ≡ v.leaves → w.stock ≡ [] → w.seen ≡ v.seen → v.token ≡ None
          → w.token ≡ Some t → t ≡ record { buffer = b0; number = 0; stage = Away; expects = stamp_of p; promise = None }
          → Rule record { words = words; homes = set s.homes b0 (some (Full p)); views = set s.views id w }
      begins w words p t wide same_words first live out leaves stock seen no_token token t_is =
          let views' : List V = set s.views id w in
          let homes' : Hs = set s.homes b0 (some (Full p)) in
          let x : T = stamp_of p in
          let chains' : List (List T) = set r.chains b0 (x ∷ []) in
          let mine = r.each id v at in
          let hw = r.homes_wide in let cw = r.chains_wide in let small = have.0 in
          let fresh : get_or s.words b0 0 ≡ 0 = (have.1).fresh in
          let now : get_elem? homes' b0 ≡ some (some (Full p)) = set_here s.homes b0 (some (Full p)) (omega arith) in
          let here : get_or chains' b0 [] ≡ x ∷ [] = get_or-set_same r.chains b0 (x ∷ []) [] (omega arith) in
          let else_ : (b : ℕ) → b ≢ b0 → get_or chains' b [] ≡ get_or r.chains b [] = λ b ne. get_or-set_other r.chains b0 b (x ∷ []) [] ne in
          let one_long : (b : ℕ) → b ≡ b0 → length (get_or chains' b []) ≡ 1 = λ b e. ap (λ (z : ℕ). length (get_or chains' z [])) e ∙ ap length here in
          let total : sum_by live_of views' ≡ sum_by live_of s.views = same_sum live_of s.views id v w at live in
          let tokens : (b k : ℕ) → sum_by (token_in b k) views' ≡ sum_by (token_in b k) s.views + same_turn b k b0 0 = λ b k. let a : token_in b k w ≡ same_turn b k b0 0 = ap (token_at b k) token ∙ ap (λ (z : Token T). token_at b k (Some z)) t_is in let c : token_in b k v ≡ 0 = ap (token_at b k) no_token in omega (arith, sum_set (token_in b k) s.views id v w at) in
          let unborn : (b k : ℕ) → b ≡ b0 → sum_by (token_in b k) s.views ≡ 0 = λ b k e. zero_sum (token_in b k) s.views (λ j y f. past_end s.words s.homes r.chains (sum_by live_of s.views) j y (r.each j y f) b k (let q : length (get_or r.chains b []) ≡ 0 = ap (λ (z : ℕ). length (get_or r.chains z [])) e ∙ ap length (have.1).empty in omega arith)) in
          let leafs : (b k : ℕ) → sum_by (leaf_in b k) views' ≡ sum_by (leaf_in b k) s.views = λ b k. same_sum (leaf_in b k) s.views id v w at (ap (leaf_at b k) leaves) in
          let counts : (b : ℕ) → sum_by (leaves_in b) views' ≡ sum_by (leaves_in b) s.views = λ b. same_sum (leaves_in b) s.views id v w at (ap (leaves_of b) leaves) in
          let stocks : (b : ℕ) → sum_by (stock_in b) views' ≤ sum_by (stock_in b) s.views = λ b. let a : stock_in b w ≡ 0 = ap (stock_at b) stock in omega (arith, sum_set (stock_in b) s.views id v w at) in
          record {
            wide = wide;
            homes_wide = length-set s.homes b0 (some (Full p)) ∙ hw;
            chains = chains';
            chains_wide = length-set r.chains b0 (x ∷ []) ∙ cw;
            ahead = λ b l c. let f = same_words b l in dite (ℕ_discrete b b0)
                (λ e. let h = one_long b e in let q = ap (λ (z : ℕ). get_or s.words z 0) e in omega arith)
                (λ ne. let h = ap length (else_ b ne) in let a = r.ahead b l (omega arith) in omega arith);
            short = λ b l. dite (ℕ_discrete b b0) (λ e. let h = one_long b e in omega arith) (λ ne. let h = ap length (else_ b ne) in let a = r.short b l in omega arith);
            single = λ b k l. let d = tokens b k in dite (ℕ_discrete b b0)
                (λ e. let q = unborn b k e in let c = turn_le b k b0 0 in omega arith)
                (λ ne. let c = turn_else b k b0 0 ne in let a = r.single b k l in omega arith);
            there = λ b k l g c. let f = same_words b l in let d = tokens b k in dite (ℕ_discrete b b0)
                (λ e. let h = one_long b e in let q = turn_here b k b0 0 e (omega arith) in omega arith)
                (λ ne. let h = ap length (else_ b ne) in let a = r.there b k l (omega arith) (omega arith) in omega arith);
            counted = λ b l. counts b ∙ (r.counted b l ∙ sym (same_words b l));
            left = λ b k l g. let f = same_words b l in leafs b k ∙ r.left b k l (omega arith);
            unleft = λ b k l g. let f = same_words b l in leafs b k ∙ r.unleft b k l (omega arith);
            stocked = λ b. let a = r.stocked b in let e = stocks b in omega arith;
            each = λ j u e. rewords s.words words homes' chains' (sum_by live_of views') j u same_words (⊎_elim
                (λ (g : (j ≡ id) × (w ≡ u)). subst (λ (z : ℕ × V). F s.words homes' chains' (sum_by live_of views') z.0 z.1) (λ i. (sym g.0 i, g.1 i)) record {
                  seen = λ b l. let a = mine.seen b l in let c = ap (greatest b) seen in omega arith;
                  token = λ t2 c. let e2 : record { buffer = b0; number = 0; stage = Away; expects = x; promise = None } ≡ t2 = sym t_is ∙ (let z : Some t ≡ Some t2 = sym token ∙ c in cc) in
                      subst (λ (z : Token T). (z.buffer < buffers) × TokenFits stamp_of (get_or s.words z.buffer 0) (get_elem? homes' z.buffer) (get_or chains' z.buffer []) z) e2 (
                        small,
                        record {
                          from = omega arith;
                          expects = subst (λ (z : List T). get_elem? z 0 ≡ some x) (sym here) refl;
                          promises = subst (λ (z : List T). 0 + 1 ≡ length z) (sym here) refl;
                          lies = λ _. (p, now, refl);
                        },
                      );
                  stock = λ b c. absurd (let a = ap (stock_at b) stock in omega arith);
                  one = let o = mine.one in omega arith;
                  apart = λ z. leaves ∙ mine.apart (sym live ∙ z);
                  first = λ z. let m = mine.first (sym first ∙ z) in (m.0, live ∙ m.1, omega (arith, m.2));
                })
                (λ (g : (j ≢ id) × (get_elem? s.views j ≡ some u)). let f = r.each j u g.1 in record {
                  seen = f.seen;
                  token = λ t2 c. let k = f.token t2 c in let ne = no_token_yet j u t2 g.1 c in (k.0, subst (λ (z : Option (Option H) × List T). TokenFits stamp_of (get_or s.words t2.buffer 0) z.0 z.1 t2) (λ i. (sym (set_else s.homes b0 t2.buffer (some (Full p)) ne) i, sym (else_ t2.buffer ne) i)) k.1);
                  stock = λ b c. let k = f.stock b c in let ne = no_other j u b g.0 g.1 c in (k.0, subst (λ (z : Option (Option H) × List T). StockFits stamp_of (get_or s.words b 0) z.0 z.1 b u.opens u.stock) (λ i. (sym (set_else s.homes b0 b (some (Full p)) ne) i, sym (else_ b ne) i)) k.1);
                  one = f.one;
                  apart = f.apart;
                  first = λ z. let m = f.first z in (m.0, m.1, omega (arith, m.2));
                })
                (at_set s.views id j w u e));
          }

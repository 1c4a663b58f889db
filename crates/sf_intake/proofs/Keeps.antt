-- Each step keeps the rule.
use Rattle.std.proofs.Common.{◌≡◌, ◌≢◌, ℕ, zero, suc, ◌+◌, ◌<◌, Bool, true, false, cond, eqb, eq-eqb, ne_eqb, List, [], ◌∷◌, ◌++◌, length, set, sym, refl, ap, ◌∙◌, subst, ⊎_elim, append_assoc, append-nil, arith}
use Rattle.std.specs.List.{Contains}
use Rattle.std.proofs.lemmas.List.Elements.{All-push, All-head, All-tail, All-contains, All-weaker, All-nil, Contains-append_left, Contains-append_cases, Contains-push}
use mathlib.Core.Option.{some, some-ne-none}
use mathlib.Core.Logic.{dite}
use native.Mathlib.Decide.{ℕ_discrete}
use lib.ListN.{get_elem?, length-append}
use Rattle.crossbeam_queue.specs.Fifo.{Pushes, Pops, Forks, Merges, Learns}
use Rattle.crossbeam_queue.proofs.Lists.{at_set, set_again, set_else}
use Rattle.sf_token.specs.Arrivals.{HoldsAll}
use Rattle.sf_intake.specs.declared.protocol.Knows.{Knows}
use Rattle.sf_intake.specs.Posts.{Post, Begins, posts_by}
use Rattle.sf_intake.specs.Rule.{Fits, Kept, opened, spent, giving, given, posted, drawn, note, hearing, tale, told, Sends, Takes, FindsNone, Compares}
use Rattle.sf_intake.proofs.SentLists.{begins_refl, begins_more, begins_nil, snoc_cases, posts_by-own, posts_by-other, posts_by-append, posts_by-none, bounded}

module _ {L : Type 0} where
  abbrev AllViews : (ℕ → Knows (Post L) → Type 0) → List (Knows (Post L)) → Type 0
  AllViews F views = (j : ℕ) (v : Knows (Post L)) → get_elem? views j ≡ some v → F j v

  views_set : (F : ℕ → Knows (Post L) → Type 0) (views : List (Knows (Post L))) (id : ℕ) (w : Knows (Post L)) → F id w → ((j : ℕ) (u : Knows (Post L)) → j ≢ id → get_elem? views j ≡ some u → F j u) → AllViews F (set views id w)
  views_set F views id w mine others j u e = ⊎_elim (λ (x : (j ≡ id) × (w ≡ u)). subst (λ (y : ℕ × Knows (Post L)). F y.0 y.1) (λ i. (sym x.0 i, x.1 i)) mine)
      (λ (x : (j ≢ id) × (get_elem? views j ≡ some u)). others j u x.0 x.1) (at_set views id j w u e)

  views_snoc : (F : ℕ → Knows (Post L) → Type 0) (views : List (Knows (Post L))) (w : Knows (Post L)) → AllViews F views → F (length views) w → AllViews F (views ++ w ∷ [])
  views_snoc F views w old new j u e = ⊎_elim (λ (x : get_elem? views j ≡ some u). old j u x)
      (λ (x : (j ≡ length views) × (w ≡ u)). subst (λ (y : ℕ × Knows (Post L)). F y.0 y.1) (λ i. (sym x.0 i, x.1 i)) new) (snoc_cases views w u j e)

  -- a pass that knows nothing fits anywhere
  idle : (made : List ℕ) (seat : ℕ → ℕ) (taken all : List (Post L)) (j : ℕ) → Fits made seat taken all j spent
  idle made seat taken all j = record {
    taker = λ no. absurd (cc);
    sender = λ no. absurd (cc);
    told = begins_nil taken;
    heard = λ p h. absurd (omega (arith, h.1));
  }

  module _ (holds : L → Type 0) where
    pub opens : Kept holds [] (opened ∷ [])
    opens = record {
      taken = [];
      all = [];
      made = [];
      seat = λ b. 0;
      whole = refl;
      theirs = All-nil (λ (post : Post L). Contains [] post.actor.0);
      few = λ b. omega arith;
      held = All-nil (λ (post : Post L). HoldsAll holds post.txn.buffers);
      each = views_snoc (Fits [] (λ b. 0) [] []) [] opened (λ j v e. absurd (some-ne-none v (sym e))) record {
        taker = λ _. (refl, refl, refl);
        sender = λ no. absurd (cc);
        told = begins_nil [];
        heard = λ p h. absurd (omega (arith, h.1));
      };
    }

    pub sends : (n id : ℕ) (v : Knows (Post L)) (x : Post L) → v.sends ≡ true → x.actor.0 ≡ v.by → length v.sent < 16777216 → HoldsAll holds x.txn.buffers
        → Pushes (Kept holds) n id v x (Sends v x)
    sends n id v x role mine few fits items views _ r at =
        let w : Knows (Post L) = posted x v in
        let all : List (Post L) = r.all ++ x ∷ [] in
        let own = r.each id v at in
        let is = own.sender role in
        let grow : (b : ℕ) → Begins (posts_by b r.all) (posts_by b all) = λ b. (posts_by b (x ∷ []), posts_by-append b r.all (x ∷ [])) in
        let further : (b : ℕ) (s : List (Post L)) → Begins s (posts_by b r.all) → Begins s (posts_by b all) =
        λ b s h. subst (λ (l : List (Post L)). Begins s l) (sym (posts_by-append b r.all (x ∷ []))) (begins_more s (posts_by b r.all) (posts_by b (x ∷ [])) h) in
        let sent : w.sent ≡ posts_by v.by all = ap (λ (l : List (Post L)). l ++ x ∷ []) is.2 ∙ sym (posts_by-own v.by r.all x mine) in (
          w,
          record {
            taken = r.taken;
            all = all;
            made = r.made;
            seat = r.seat;
            whole = ap (λ (l : List (Post L)). l ++ x ∷ []) r.whole ∙ append_assoc r.taken items (x ∷ []);
            theirs = All-push (λ (post : Post L). Contains r.made post.actor.0) r.all x r.theirs (subst (λ (b : ℕ). Contains r.made b) (sym mine) is.0);
            few = λ b. dite (ℕ_discrete x.actor.0 b)
                (λ e. let long : length (posts_by b all) ≡ length w.sent = ap length (ap (λ (c : ℕ). posts_by c all) (sym e ∙ mine) ∙ sym sent) in omega (arith, long, length-append v.sent (x ∷ [])))
                (λ ne. let same : length (posts_by b all) ≡ length (posts_by b r.all) = ap length (posts_by-other b r.all x ne) in omega (arith, same, r.few b));
            held = All-push (λ (post : Post L). HoldsAll holds post.txn.buffers) items x r.held fits;
            each = views_set (Fits r.made r.seat r.taken all) views id w
                record {
                  taker = own.taker;
                  sender = λ _. (is.0, is.1, sent);
                  told = own.told;
                  heard = λ p h. further p.0 p.1 (own.heard p h);
                }
                (λ j u apart e. let f = r.each j u e in record {
                  taker = f.taker;
                  sender = λ s. let t = f.sender s in
                      let ne : x.actor.0 ≢ u.by = λ same. apart (sym t.1 ∙ (ap r.seat (sym same ∙ mine) ∙ is.1)) in
                      (t.0, t.1, t.2 ∙ sym (posts_by-other u.by r.all x ne));
                  told = f.told;
                  heard = λ p h. further p.0 p.1 (f.heard p h);
                });
          },
          refl,
        )

    pub takes : (id : ℕ) (v : Knows (Post L)) → v.is_taker ≡ true → Pops (Kept holds) id v (Takes holds v)
    takes id v role x items views r at =
        let w : Knows (Post L) = drawn x v in
        let own = r.each id v at in
        let is = own.taker role in
        let taken : List (Post L) = r.taken ++ x ∷ [] in
        let here : w.taken ≡ taken = ap (λ (l : List (Post L)). l ++ x ∷ []) is.1 in
        let whole : r.all ≡ taken ++ items = r.whole ∙ sym (append_assoc r.taken (x ∷ []) items) in
        let P : Post L → Type 0 = λ post. Contains r.made post.actor.0 in
        let long : length r.all ≡ length w.taken + length items = ap length whole ∙ (length-append taken items ∙ ap (λ (l : List (Post L)). length l + length items) (sym here)) in
        let inside : Contains taken x = Contains-push r.taken x in
        let theirs : Contains r.made x.actor.0 = All-contains P r.all x r.theirs (subst (λ (l : List (Post L)). Contains l x) (sym whole) (Contains-append_left taken items x inside)) in
        let made : length r.made ≡ length v.made = ap length (sym is.2) in (
          w,
          record {
            taken = taken;
            all = r.all;
            made = r.made;
            seat = r.seat;
            whole = whole;
            theirs = r.theirs;
            few = r.few;
            held = All-tail (λ (post : Post L). HoldsAll holds post.txn.buffers) x items r.held;
            each = views_set (Fits r.made r.seat taken r.all) views id w
                record {
                  taker = λ _. (is.0, here, is.2);
                  sender = own.sender;
                  told = ([], sym here ∙ sym (append-nil w.taken));
                  heard = own.heard;
                }
                (λ j u apart e. let f = r.each j u e in record {
                  taker = λ t. absurd (apart ((f.taker t).0 ∙ sym is.0));
                  sender = f.sender;
                  told = begins_more u.taken r.taken (x ∷ []) f.told;
                  heard = f.heard;
                });
          },
          (
            refl,
            subst (λ (l : List ℕ). Contains l x.actor.0) (sym is.2) theirs,
            All-head (λ (post : Post L). HoldsAll holds post.txn.buffers) x items r.held,
            omega (arith, bounded r.made r.all r.theirs r.few, long, made),
          ),
        )

    pub finds_none : (id : ℕ) (v : Knows (Post L)) → v.is_taker ≡ true → Learns (Kept holds) id v (FindsNone v)
    finds_none id v role items views r at = λ none p h.
        let own = r.each id v at in
        let is = own.taker role in
        let all : r.all ≡ v.taken = r.whole ∙ (ap (λ (l : List (Post L)). r.taken ++ l) none ∙ (append-nil r.taken ∙ sym is.1)) in
        subst (λ (l : List (Post L)). Begins p.1 (posts_by p.0 l)) all (own.heard p h)

    pub compares : (id : ℕ) (v : Knows (Post L)) → v.sends ≡ true → Learns (Kept holds) id v (Compares v)
    compares id v role items views r at =
        let own = r.each id v at in
        let is = own.sender role in
        let all : r.all ≡ v.taken ++ (own.told.0 ++ items) = r.whole ∙ (ap (λ (l : List (Post L)). l ++ items) own.told.1 ∙ append_assoc v.taken own.told.0 items) in
        (posts_by v.by (own.told.0 ++ items), is.2 ∙ (ap (posts_by v.by) all ∙ posts_by-append v.by v.taken (own.told.0 ++ items)))

    pub makes : (id : ℕ) (v : Knows (Post L)) (n : ℕ) → v.is_taker ≡ true → (Contains v.made n → ⊥) → Forks (Kept holds) id v (giving n v) (given n)
    makes id v n role fresh items views r at =
        let w : Knows (Post L) = giving n v in
        let own = r.each id v at in
        let is = own.taker role in
        let made : List ℕ = r.made ++ n ∷ [] in
        let place : ℕ = length (set views id w) in
        let seat : ℕ → ℕ = λ b. cond (eqb b n) place (r.seat b) in
        let new : Contains r.made n → ⊥ = λ h. fresh (subst (λ (l : List ℕ). Contains l n) (sym is.2) h) in
        let more : (b : ℕ) → Contains r.made b → Contains made b = λ b h. Contains-append_left r.made (n ∷ []) b h in
        let still : (b : ℕ) → Contains r.made b → seat b ≡ r.seat b = λ b h.
        let ne : b ≢ n = λ e. new (subst (λ (c : ℕ). Contains r.made c) e h) in ap (λ (t : Bool). cond t place (r.seat b)) (ne_eqb b n ne) in
        let now : seat n ≡ place = ap (λ (t : Bool). cond t place (r.seat n)) (eq-eqb n n refl) in
        let F : ℕ → Knows (Post L) → Type 0 = Fits made seat r.taken r.all in
        record {
          taken = r.taken;
          all = r.all;
          made = made;
          seat = seat;
          whole = r.whole;
          theirs = All-weaker (λ (post : Post L). Contains r.made post.actor.0) (λ (post : Post L). Contains made post.actor.0) (λ post h. more post.actor.0 h) r.all r.theirs;
          few = r.few;
          held = r.held;
          each = views_snoc F (set views id w) (given n)
              (views_set F views id w
              record {
                taker = λ _. (is.0, is.1, ap (λ (l : List ℕ). l ++ n ∷ []) is.2);
                sender = λ s. let t = own.sender s in (more v.by t.0, still v.by t.0 ∙ t.1, t.2);
                told = own.told;
                heard = own.heard;
              }
              (λ j u apart e. let f = r.each j u e in record {
                taker = λ t. absurd (apart ((f.taker t).0 ∙ sym is.0));
                sender = λ s. let t = f.sender s in (more u.by t.0, still u.by t.0 ∙ t.1, t.2);
                told = f.told;
                heard = f.heard;
              }))
              record {
                taker = λ no. absurd (cc);
                sender = λ _. (Contains-push r.made n, now, sym (posts_by-none n r.made r.all r.theirs new));
                told = begins_nil r.taken;
                heard = λ p h. absurd (omega (arith, h.1));
              };
        }

    -- a pass is split off another, which stays as it is
    splits : (id : ℕ) (v new : Knows (Post L)) (items : List (Post L)) (views : List (Knows (Post L))) → (r : Kept holds items views) → get_elem? views id ≡ some v
        → ((j : ℕ) → Fits r.made r.seat r.taken r.all j new) → Kept holds items (set views id v ++ new ∷ [])
    splits id v new items views r at fits = record {
      taken = r.taken;
      all = r.all;
      made = r.made;
      seat = r.seat;
      whole = r.whole;
      theirs = r.theirs;
      few = r.few;
      held = r.held;
      each = views_snoc (Fits r.made r.seat r.taken r.all) (set views id v) new
          (subst (AllViews (Fits r.made r.seat r.taken r.all)) (sym (set_again views id v at)) r.each)
          (fits (length (set views id v)));
    }

    pub notes : (id : ℕ) (v : Knows (Post L)) → v.sends ≡ true → Forks (Kept holds) id v v (note v)
    notes id v role items views r at = let own = r.each id v at in let is = own.sender role in
        splits id v (note v) items views r at (λ j. record {
          taker = λ no. absurd (cc);
          sender = λ no. absurd (cc);
          told = begins_nil r.taken;
          heard = λ p h. subst (λ (q : ℕ × List (Post L)). Begins q.1 (posts_by q.0 r.all)) (only (v.by, v.sent) p h)
              (subst (λ (l : List (Post L)). Begins v.sent l) is.2 (begins_refl v.sent));
        })
      where
        only : (q p : ℕ × List (Post L)) → Contains (q ∷ []) p → q ≡ p
        only q p (zero, lt, e) = e
        only q p (suc k, lt, e) = absurd (omega arith)

    pub tales : (id : ℕ) (v : Knows (Post L)) → v.is_taker ≡ true → Forks (Kept holds) id v v (tale v)
    tales id v role items views r at = let own = r.each id v at in
        splits id v (tale v) items views r at (λ j. record {
          taker = λ no. absurd (cc);
          sender = λ no. absurd (cc);
          told = own.told;
          heard = λ p h. absurd (omega (arith, h.1));
        })

    -- a pass is joined into another, which knows more then
    joins : (id : ℕ) (v : Knows (Post L)) (other : ℕ) (u w : Knows (Post L)) (items : List (Post L)) (views : List (Knows (Post L))) → (r : Kept holds items views)
        → get_elem? views id ≡ some v → (other ≢ id) → get_elem? (set views id w) other ≡ some u
        → (Fits r.made r.seat r.taken r.all id v → Fits r.made r.seat r.taken r.all other u → Fits r.made r.seat r.taken r.all id w)
        → Kept holds items (set (set views id w) other spent)
    joins id v other u w items views r at apart there fits =
        let F : ℕ → Knows (Post L) → Type 0 = Fits r.made r.seat r.taken r.all in
        let was : get_elem? views other ≡ some u = sym (set_else views id other w apart) ∙ there in
        let mid : AllViews F (set views id w) = views_set F views id w (fits (r.each id v at) (r.each other u was)) (λ j x _ e. r.each j x e) in
        record {
          taken = r.taken;
          all = r.all;
          made = r.made;
          seat = r.seat;
          whole = r.whole;
          theirs = r.theirs;
          few = r.few;
          held = r.held;
          each = views_set F (set views id w) other spent (idle r.made r.seat r.taken r.all other) (λ j x _ e. mid j x e);
        }

    pub hears : (id : ℕ) (v : Knows (Post L)) (other : ℕ) (u : Knows (Post L)) → Merges (Kept holds) id v other u (hearing v u) spent
    hears id v other u items views r at apart there =
        joins id v other u (hearing v u) items views r at apart there (λ f g. record {
          taker = f.taker;
          sender = f.sender;
          told = f.told;
          heard = λ p h. ⊎_elim (g.heard p) (f.heard p) (Contains-append_cases u.heard v.heard p h);
        })

    pub learns : (id : ℕ) (v : Knows (Post L)) (other : ℕ) (u : Knows (Post L)) → v.is_taker ≡ false → Merges (Kept holds) id v other u (told v u) spent
    learns id v other u role items views r at apart there =
        joins id v other u (told v u) items views r at apart there (λ f g. record {
          taker = λ t. absurd (cc);
          sender = f.sender;
          told = g.told;
          heard = f.heard;
        })

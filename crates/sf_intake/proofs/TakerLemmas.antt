-- What a taker keeps, as its pass takes and as it gives.
use Rattle.std.proofs.Common.{◌≡◌, ℕ, zero, suc, ◌+◌, ◌-◌, ◌*◌, ◌<◌, ◌≤◌, ◌^◌, min, max, inl, inr, List, [], ◌∷◌, ◌++◌, length, get_or, map, take, drop, sym, refl, ap, ◌∙◌, subst, append_assoc, append-nil, arith, le_refl, le_trans, ⊎_elim}
use Rattle.std.specs.List.{All, Contains}
use Rattle.std.proofs.lemmas.List.Elements.{Contains-append_left, Contains-append_right, All-weaker, All-more, All-push, All-nil, All-cons, All-head, All-tail}
use Rattle.std.proofs.lemmas.List.{take-append-le, length-append}
use mathlib.Core.Logic.{dite}
use native.Mathlib.Decide.{dec_le}
use Rattle.sf_token.specs.Pending.{Arrival}
use Rattle.sf_token.specs.Arrivals.{HoldsAll}
use Rattle.sf_intake.specs.declared.protocol.Knows.{Knows}
use Rattle.sf_intake.specs.Posts.{Post, Begins, before, arrivals, newest_of, numbered, posts_by, IsNumberedFrom}
use Rattle.sf_intake.specs.Rule.{opened, giving, hearing, Takes, IsDry}
use Rattle.atomic_blocks.specs.Laid.{WebId}
use Rattle.sf_intake.specs.Views.{IsTaker, TakerView, SenderView, taker_view, HasAllHeard, HasPopped, IsSameTaker, IsBeginningOf, AreGiven, HasHanded, HasTaken, FoundEmpty, HasGrown, HasHeard, HasTakenRest, AreSenders, hearing_of}
use Rattle.sf_intake.proofs.SentLists.{begins_both}

module _ {A : Type 0} where
  take_all : (xs : List A) → take (length xs) xs ≡ xs
  take_all [] = refl
  take_all (x ∷ xs) = ap (λ (l : List A). x ∷ l) (take_all xs)

  pub before_end : (xs ys : List A) → before (xs ++ ys) ys ≡ xs
  before_end xs ys =
      let e : length (xs ++ ys) - length ys ≡ length xs = omega (arith, length-append xs ys) in
      ap (λ (n : ℕ). take n (xs ++ ys)) e ∙ (take-append-le (length xs) xs ys (omega arith) ∙ take_all xs)

  pub before_is : (xs ys all : List A) → xs ++ ys ≡ all → before all ys ≡ xs
  before_is xs ys all e = ap (λ (l : List A). before l ys) (sym e) ∙ before_end xs ys

  -- a list of which all is cut off, and nothing is left
  pub all_cut : (all first rest : List A) → first ≡ all → rest ≡ [] → all ≡ first ++ rest
  all_cut all first rest e none = sym (append-nil all) ∙ (λ i. sym e i ++ sym none i)

  -- a list whose end is known is what is before it, and then that end
  pub before_whole : (xs ys all : List A) → xs ++ ys ≡ all → before all ys ++ ys ≡ all
  before_whole xs ys all e = ap (λ (l : List A). l ++ ys) (before_is xs ys all e) ∙ e

module _ {A : Type 0} (P : A → Type 0) where
  pub all_front : (xs ys : List A) → All P (xs ++ ys) → All P xs
  all_front [] ys h = All-nil P
  all_front (x ∷ xs) ys h = All-cons P x xs (All-head P x (xs ++ ys) h) (all_front xs ys (All-tail P x (xs ++ ys) h))

  pub all_back : (xs ys : List A) → All P (xs ++ ys) → All P ys
  all_back [] ys h = h
  all_back (x ∷ xs) ys h = all_back xs ys (All-tail P x (xs ++ ys) h)

take_enough : {X : Type 0} (n : ℕ) (xs : List X) → length xs ≤ n → take n xs ≡ xs
take_enough zero [] h = refl
take_enough (suc n) [] h = refl
take_enough zero (x ∷ xs) h = absurd (omega arith)
take_enough {X} (suc n) (x ∷ xs) h = ap (λ (l : List X). x ∷ l) (take_enough n xs (omega arith))

-- a vector whose elements were lent and came back as they were
pub written_back : {X : Type 0} (xs ys : List X) (n : ℕ) → ys ≡ xs → n ≡ length xs → take n (ys ++ drop (length ys) xs) ≡ xs
written_back {X} xs ys n e f = ap (λ (l : List X). take n (l ++ drop (length l) xs)) e ∙ (take-append-le n xs (drop (length xs) xs) (omega (arith, f)) ∙ take_enough n xs (omega (arith, f)))

module _ {L : Type 0} where
  pub arrivals-snoc : (n : ℕ) (ts : List (Post L)) (x : Post L) → arrivals n (ts ++ x ∷ []) ≡ arrivals n ts ++ numbered (n + length ts) x ∷ []
  arrivals-snoc n [] x = let e : n ≡ n + 0 = omega arith in ap (λ (m : ℕ). numbered m x ∷ []) e
  arrivals-snoc n (t ∷ ts) x =
      let e : n + 1 + length ts ≡ n + length (t ∷ ts) = omega arith in
      ap (λ (l : List (Arrival L)). numbered n t ∷ l) (arrivals-snoc (n + 1) ts x ∙ ap (λ (m : ℕ). arrivals (n + 1) ts ++ numbered m x ∷ []) e)

  -- the greatest stamp, as one more is taken
  newest-snoc : (ts : List (Post L)) (x : Post L) → newest_of (ts ++ x ∷ []) ≡ max (newest_of ts) x.stamp
  newest-snoc [] x = omega arith
  newest-snoc (t ∷ ts) x = let rest = newest-snoc ts x in omega arith

  pub newest_drawn : (ts us : List (Post L)) (x : Post L) (newest next : ℕ) → us ≡ ts ++ x ∷ [] → newest ≡ newest_of ts → next ≡ max newest x.stamp → next ≡ newest_of us
  newest_drawn ts us x newest next e f h = h ∙ (ap (λ (n : ℕ). max n x.stamp) f ∙ (sym (newest-snoc ts x) ∙ ap newest_of (sym e)))

  numbered_all : (n : ℕ) (ts : List (Post L)) → IsNumberedFrom n (arrivals n ts)
  numbered_all n [] = tt
  numbered_all n (t ∷ ts) = (refl, numbered_all (n + 1) ts)

  numbered_front : (n : ℕ) (xs ys : List (Arrival L)) → IsNumberedFrom n (xs ++ ys) → IsNumberedFrom n xs
  numbered_front n [] ys h = tt
  numbered_front n (x ∷ xs) ys h = (h.0, numbered_front (n + 1) xs ys h.1)

  numbered_rest : (n : ℕ) (xs ys : List (Arrival L)) → IsNumberedFrom n (xs ++ ys) → IsNumberedFrom (length xs + n) ys
  numbered_rest n [] ys h = let e : n ≡ 0 + n = omega arith in subst (λ (m : ℕ). IsNumberedFrom m ys) e h
  numbered_rest n (x ∷ xs) ys h =
      let e : length xs + (n + 1) ≡ length (x ∷ xs) + n = omega arith in
      subst (λ (m : ℕ). IsNumberedFrom m ys) e (numbered_rest (n + 1) xs ys h.1)

  -- of a list that is part of numbered ones, the numbers go on
  pub numbered_part : (n : ℕ) (ts : List (Post L)) (xs ys zs : List (Arrival L)) → xs ++ (ys ++ zs) ≡ arrivals n ts → IsNumberedFrom (length xs + n) ys
  numbered_part n ts xs ys zs e = numbered_front (length xs + n) ys zs (numbered_rest n xs (ys ++ zs) (subst (IsNumberedFrom n) (sym e) (numbered_all n ts)))

  module _ (holds : L → Type 0) where
    -- the pass took one more, which waits
    pub pulled : (v w : Knows (Post L)) (x : Post L) (waiting : List (Arrival L)) (last : ℕ) → IsTaker holds v waiting last → Takes holds v x w
        → IsTaker holds w (waiting ++ numbered (last + 1) x ∷ []) (last + 1)
    pulled v w x waiting last t k =
        subst (λ (u : Knows (Post L)). IsTaker holds u (waiting ++ numbered (last + 1) x ∷ []) (last + 1)) (sym k.0) record {
          role = t.role;
          count = omega (arith, t.count, length-append v.taken (x ∷ []));
          waits = before_whole (before (arrivals 1 v.taken) waiting) (waiting ++ numbered (last + 1) x ∷ []) (arrivals 1 (v.taken ++ x ∷ [])) (whole v x waiting last t);
          held = All-push (λ (a : Arrival L). HoldsAll holds a.txn.buffers) waiting (numbered (last + 1) x) t.held k.2;
          theirs = All-push (λ (post : Post L). Contains v.made post.actor.0) v.taken x t.theirs k.1;
          makers = t.makers;
          bound = subst (λ (u : Knows (Post L)). length u.taken ≤ 16777216 * length v.made) k.0 k.3;
        }
      where
        whole : (v : Knows (Post L)) (x : Post L) (waiting : List (Arrival L)) (last : ℕ) → IsTaker holds v waiting last
            → before (arrivals 1 v.taken) waiting ++ (waiting ++ numbered (last + 1) x ∷ []) ≡ arrivals 1 (v.taken ++ x ∷ [])
        whole v x waiting last t =
            let n : last + 1 ≡ 1 + length v.taken = omega (arith, t.count) in
            sym (append_assoc (before (arrivals 1 v.taken) waiting) waiting (numbered (last + 1) x ∷ []))
            ∙ (ap (λ (l : List (Arrival L)). l ++ numbered (last + 1) x ∷ []) t.waits
            ∙ (ap (λ (m : ℕ). arrivals 1 v.taken ++ numbered m x ∷ []) n ∙ sym (arrivals-snoc 1 v.taken x)))

    -- and what was given is the same
    pub pulled_given : (v w : Knows (Post L)) (x : Post L) (waiting : List (Arrival L)) (last : ℕ) → IsTaker holds v waiting last → Takes holds v x w
        → before (arrivals 1 w.taken) (waiting ++ numbered (last + 1) x ∷ []) ≡ before (arrivals 1 v.taken) waiting
    pulled_given v w x waiting last t k =
        let n : last + 1 ≡ 1 + length v.taken = omega (arith, t.count) in
        before_is (before (arrivals 1 v.taken) waiting) (waiting ++ numbered (last + 1) x ∷ []) (arrivals 1 w.taken)
        (sym (append_assoc (before (arrivals 1 v.taken) waiting) waiting (numbered (last + 1) x ∷ []))
        ∙ (ap (λ (l : List (Arrival L)). l ++ numbered (last + 1) x ∷ []) t.waits
        ∙ (ap (λ (m : ℕ). arrivals 1 v.taken ++ numbered m x ∷ []) n
        ∙ (sym (arrivals-snoc 1 v.taken x) ∙ ap (λ (u : Knows (Post L)). arrivals 1 u.taken) (sym k.0)))))

    -- what waits first is given
    pub handed : (v : Knows (Post L)) (list rest : List (Arrival L)) (last : ℕ) → IsTaker holds v (list ++ rest) last → IsTaker holds v rest last
    handed v list rest last t = record {
      role = t.role;
      count = t.count;
      waits = before_whole (before (arrivals 1 v.taken) (list ++ rest) ++ list) rest (arrivals 1 v.taken) (append_assoc (before (arrivals 1 v.taken) (list ++ rest)) list rest ∙ t.waits);
      held = all_back (λ (a : Arrival L). HoldsAll holds a.txn.buffers) list rest t.held;
      theirs = t.theirs;
      makers = t.makers;
      bound = t.bound;
    }

    pub handed_given : (v : Knows (Post L)) (list rest : List (Arrival L)) (last : ℕ) → IsTaker holds v (list ++ rest) last
        → before (arrivals 1 v.taken) rest ≡ before (arrivals 1 v.taken) (list ++ rest) ++ list
    handed_given v list rest last t =
        before_is (before (arrivals 1 v.taken) (list ++ rest) ++ list) rest (arrivals 1 v.taken) (append_assoc (before (arrivals 1 v.taken) (list ++ rest)) list rest ∙ t.waits)

    -- a taker's pass that heard more, and one that made a sender
    pub heard_more : (v u : Knows (Post L)) (waiting : List (Arrival L)) (last : ℕ) → IsTaker holds v waiting last → IsTaker holds (hearing v u) waiting last
    heard_more v u waiting last t = record {
      role = t.role;
      count = t.count;
      waits = t.waits;
      held = t.held;
      theirs = t.theirs;
      makers = t.makers;
      bound = t.bound;
    }

    pub made_more : (v : Knows (Post L)) (n : ℕ) (waiting : List (Arrival L)) (last : ℕ) → length v.made < 64 → IsTaker holds v waiting last → IsTaker holds (giving n v) waiting last
    made_more v n waiting last few t = record {
      role = t.role;
      count = t.count;
      waits = t.waits;
      held = t.held;
      theirs = All-weaker (λ (post : Post L). Contains v.made post.actor.0) (λ (post : Post L). Contains (v.made ++ n ∷ []) post.actor.0) (λ post h. Contains-append_left v.made (n ∷ []) post.actor.0 h) v.taken t.theirs;
      makers = omega (arith, length-append v.made (n ∷ []));
      bound = omega (arith, length-append v.made (n ∷ []), t.bound);
    }

    -- the pass took one more: the view
    pub pulled_is : (v w : Knows (Post L)) (x : Post L) (waiting later : List (Arrival L)) (last next : ℕ) → IsTaker holds v waiting last → Takes holds v x w
        → next ≡ last + 1 → later ≡ waiting ++ numbered next x ∷ [] → IsTaker holds w later next
    pulled_is v w x waiting later last next t k e f =
        subst (λ (l : List (Arrival L)). IsTaker holds w l next) (sym f)
        (subst (λ (n : ℕ). IsTaker holds w (waiting ++ numbered n x ∷ []) n) (sym e) (pulled v w x waiting last t k))

    pub pulled_popped : (t : TakerView L) (v w : Knows (Post L)) (x : Post L) (web web2 : WebId) (waiting later : List (Arrival L)) (last next empties : ℕ) → taker_view web v waiting empties ≡ t
        → web2 ≡ web → IsTaker holds v waiting last → Takes holds v x w → next ≡ last + 1 → later ≡ waiting ++ numbered next x ∷ [] → HasPopped t (taker_view web2 w later empties)
    pulled_popped t v w x web web2 waiting later last next empties is same k h e f =
        subst (λ (u : TakerView L). HasPopped u (taker_view web2 w later empties)) is record {
          same = record {
            intake = same;
            made = ap (λ (u : Knows (Post L)). u.made) h.0;
            given = ap (before (arrivals 1 w.taken)) (f ∙ ap (λ (n : ℕ). waiting ++ numbered n x ∷ []) e) ∙ pulled_given v w x waiting last k h;
          };
          heard = ap (λ (u : Knows (Post L)). u.heard) h.0;
          taken = (x ∷ [], ap (λ (u : Knows (Post L)). u.taken) h.0);
          first = (numbered next x ∷ [], f);
          empties = le_refl _;
        }

    -- what was taken is of senders that were made
    arrivals_all : (made : List ℕ) (n : ℕ) (ts : List (Post L)) → All (λ (post : Post L). Contains made post.actor.0) ts → All (λ (a : Arrival L). Contains made a.actor.0) (arrivals n ts)
    arrivals_all made n [] all = All-nil (λ (a : Arrival L). Contains made a.actor.0)
    arrivals_all made n (t ∷ ts) all = All-cons (λ (a : Arrival L). Contains made a.actor.0) (numbered n t) (arrivals (n + 1) ts) (All-head (λ (post : Post L). Contains made post.actor.0) t ts all)
        (arrivals_all made (n + 1) ts (All-tail (λ (post : Post L). Contains made post.actor.0) t ts all))

    -- of what waits, the first part is given
    pub are_given : (v : Knows (Post L)) (list rest : List (Arrival L)) (last : ℕ) → IsTaker holds v (list ++ rest) last
        → AreGiven holds v.made (length (before (arrivals 1 v.taken) (list ++ rest))) list
    are_given v list rest last t = record {
      numbers = numbered_part 1 v.taken (before (arrivals 1 v.taken) (list ++ rest)) list rest t.waits;
      theirs = all_front (λ (a : Arrival L). Contains v.made a.actor.0) list rest (all_back (λ (a : Arrival L). Contains v.made a.actor.0) (before (arrivals 1 v.taken) (list ++ rest)) (list ++ rest)
          (subst (All (λ (a : Arrival L). Contains v.made a.actor.0)) (sym t.waits) (arrivals_all v.made 1 v.taken t.theirs)));
      held = all_front (λ (a : Arrival L). HoldsAll holds a.txn.buffers) list rest t.held;
    }

    pub all_theirs : (v : Knows (Post L)) (waiting : List (Arrival L)) (last : ℕ) → IsTaker holds v waiting last
        → All (λ (a : Arrival L). Contains v.made a.actor.0) (before (arrivals 1 v.taken) waiting ++ waiting)
    all_theirs v waiting last t = subst (All (λ (a : Arrival L). Contains v.made a.actor.0)) (sym t.waits) (arrivals_all v.made 1 v.taken t.theirs)

    pub opens_taker : (v : Knows (Post L)) (waiting : List (Arrival L)) → v ≡ opened → waiting ≡ [] → IsTaker holds v waiting 0
    opens_taker v waiting e f = subst (λ (z : Knows (Post L) × List (Arrival L)). IsTaker holds z.0 z.1 0) (λ i. (sym e i, sym f i)) record {
      role = refl;
      count = refl;
      waits = refl;
      held = All-nil (λ (a : Arrival L). HoldsAll holds a.txn.buffers);
      theirs = All-nil (λ (post : Post L). Contains [] post.actor.0);
      makers = omega arith;
      bound = omega arith;
    }

    pub rest_theirs : (t : TakerView L) (v : Knows (Post L)) (web : WebId) (waiting : List (Arrival L)) (last empties : ℕ) → taker_view web v waiting empties ≡ t → IsTaker holds v waiting last
        → All (λ (a : Arrival L). Contains t.made a.actor.0) (t.given ++ waiting)
    rest_theirs t v web waiting last empties is k =
        subst (λ (u : TakerView L). All (λ (a : Arrival L). Contains u.made a.actor.0) (u.given ++ waiting)) is (all_theirs v waiting last k)

    pub handed_over : (t : TakerView L) (v : Knows (Post L)) (web : WebId) (waiting list rest : List (Arrival L)) (last empties : ℕ) → taker_view web v waiting empties ≡ t → waiting ≡ list ++ rest
        → IsTaker holds v waiting last → HasHanded holds t (taker_view web v rest empties) list
    handed_over t v web waiting list rest last empties is cut k =
        let k2 : IsTaker holds v (list ++ rest) last = subst (λ (l : List (Arrival L)). IsTaker holds v l last) cut k in
        subst (λ (u : TakerView L). HasHanded holds u (taker_view web v rest empties) list) (ap (λ (l : List (Arrival L)). taker_view web v l empties) (sym cut) ∙ is) record {
          intake = refl;
          made = refl;
          heard = refl;
          taken = refl;
          empties = refl;
          given = handed_given v list rest last k2;
          whole = (handed v list rest last k2).waits;
          waited = refl;
          each = are_given v list rest last k2;
        }

    pub handed_keeps : (v : Knows (Post L)) (waiting list rest : List (Arrival L)) (last : ℕ) → waiting ≡ list ++ rest → IsTaker holds v waiting last → IsTaker holds v rest last
    handed_keeps v waiting list rest last cut k = handed v list rest last (subst (λ (l : List (Arrival L)). IsTaker holds v l last) cut k)

    -- where nothing waits any more, all that waited was given
    pub all_handed : (b c : TakerView L) (list : List (Arrival L)) → HasHanded holds b c list → c.waiting ≡ [] → b.waiting ≡ list
    all_handed b c list h none = h.waited ∙ (ap (λ (l : List (Arrival L)). list ++ l) none ∙ append-nil list)

    -- a taker that popped, and then gave
    pub popped_and_gave : (a b c : TakerView L) (list : List (Arrival L)) → HasPopped a b → (length b.waiting < 4096 → FoundEmpty a b) → HasHanded holds b c list
        → length list ≤ 4096 → (length list < 4096 → c.waiting ≡ []) → HasTaken holds a c list
    popped_and_gave a b c list p dry h few short = record {
      intake = h.intake ∙ p.same.intake;
      made = h.made ∙ p.same.made;
      heard = h.heard ∙ p.heard;
      taken = (p.taken.0, h.taken ∙ p.taken.1);
      whole = h.whole;
      given = h.given ∙ ap (λ (l : List (Arrival L)). l ++ list) p.same.given;
      first = (p.first.0, sym h.waited ∙ p.first.1);
      few = few;
      each = subst (λ (z : List ℕ × List (Arrival L)). AreGiven holds z.0 (length z.1) list) (λ i. (p.same.made i, p.same.given i)) h.each;
      dry = λ less.
          let all : b.waiting ≡ list = all_handed b c list h (short less) in
          let found = dry (subst (λ (l : List (Arrival L)). length l < 4096) (sym all) less) in
          record {
            counted = subst (λ (n : ℕ). HasGrown a.empties n) (sym h.empties) found.counted;
            heard = λ q in'. subst (λ (l : List (Post L)). Begins q.1 (posts_by q.0 l)) (sym h.taken) (found.heard q (subst (λ (l : List (ℕ × List (Post L))). Contains l q) h.heard in'));
          };
    }

  pub dry_heard : (t : TakerView L) (v : Knows (Post L)) → t.taken ≡ v.taken → t.heard ≡ v.heard → IsDry v → HasAllHeard t
  dry_heard t v e f dry p h = subst (λ (l : List (Post L)). Begins p.1 (posts_by p.0 l)) (sym e) (dry p (subst (λ (l : List (ℕ × List (Post L))). Contains l p) f h))

  pub begins_told : (t : TakerView L) (s : SenderView L) (v u : Knows (Post L)) → t.taken ≡ v.taken → u.by ≡ s.by.0 → u.sent ≡ s.sent → Begins (posts_by u.by v.taken) u.sent → IsBeginningOf s t.taken
  begins_told t s v u e f g b = (b.0, sym g ∙ (b.1 ∙ (λ i. posts_by (f i) (sym e i) ++ b.0)))

module _ {L : Type 0} where
  pub heard_popped : (a b c : TakerView L) → HasHeard a b → HasPopped b c → IsSameTaker a c
  heard_popped a b c h p = record {
    intake = p.same.intake ∙ h.same.intake;
    made = p.same.made ∙ h.same.made;
    given = p.same.given ∙ h.same.given;
  }

  pub heard_first : (a b c : TakerView L) → HasHeard a b → HasPopped b c → Begins a.waiting c.waiting
  heard_first a b c h p = (p.first.0, p.first.1 ∙ ap (λ (l : List (Arrival L)). l ++ p.first.0) h.waiting)

  pub heard_taken : (a b c : TakerView L) → HasHeard a b → HasPopped b c → Begins a.taken c.taken
  heard_taken a b c h p = (p.taken.0, p.taken.1 ∙ ap (λ (l : List (Post L)). l ++ p.taken.0) h.taken)

  pub heard_none : (a : TakerView L) → HasHeard a a
  heard_none a = record { same = record { intake = refl; made = refl; given = refl }; taken = refl; waiting = refl }

  pub heard_one : (a b c : TakerView L) (s : SenderView L) → HasHeard a b → c ≡ hearing_of s b → HasHeard a c
  heard_one a b c s h e = subst (λ (u : TakerView L). HasHeard a u) (sym e) record { same = record { intake = h.same.intake; made = h.same.made; given = h.same.given }; taken = h.taken; waiting = h.waiting }

  abbrev Heard : TakerView L → SenderView L → Type 0
  Heard t s = Contains t.heard (s.by.0, s.sent)

  pub heard_step : (b c : TakerView L) (s : SenderView L) (senders : List (SenderView L)) (i : ℕ) → c ≡ hearing_of s b → s ≡ get_or senders i s → i < length senders
      → All (λ (z : SenderView L). Contains b.heard (z.by.0, z.sent)) (take i senders) → All (λ (z : SenderView L). Contains c.heard (z.by.0, z.sent)) (take (i + 1) senders)
  heard_step b c s senders i e f lt all =
      let h : TakerView L = hearing_of s b in
      let one : Heard h s = (0, omega arith, refl) in
      subst (λ (u : TakerView L). All (Heard u) (take (i + 1) senders)) (sym e)
      (All-more (Heard h) senders i s lt
      (All-weaker (Heard b) (Heard h) (λ z q. Contains-append_right ((s.by.0, s.sent) ∷ []) b.heard (z.by.0, z.sent) q) (take i senders) all)
      (subst (Heard h) f one))

  pub begun_step : (t u : TakerView L) (s : SenderView L) (senders : List (SenderView L)) (i : ℕ) → u ≡ t → s ≡ get_or senders i s → i < length senders
      → All (λ (z : SenderView L). IsBeginningOf z t.taken) (take i senders) → IsBeginningOf s u.taken
      → All (λ (z : SenderView L). IsBeginningOf z t.taken) (take (i + 1) senders)
  begun_step t u s senders i e f lt all one =
      let P : SenderView L → Type 0 = λ z. IsBeginningOf z t.taken in
      All-more P senders i s lt all (subst P f (subst (λ (w : TakerView L). IsBeginningOf s w.taken) e one))

  -- a taker that heard all senders, popped until the queue was empty, and gave all that waited
  pub rest_taken : (holds : L → Type 0) (a b c d : TakerView L) (senders : List (SenderView L)) (list : List (Arrival L)) → HasHeard a b → HasPopped b c → HasAllHeard c → AreSenders a senders
      → All (λ (z : SenderView L). Contains b.heard (z.by.0, z.sent)) senders → All (λ (z : SenderView L). IsBeginningOf z c.taken) senders
      → HasHanded holds c d list → d.waiting ≡ [] → All (λ (x : Arrival L). Contains c.made x.actor.0) (c.given ++ list) → HasTakenRest holds a d senders list
  rest_taken holds a b c d senders list h p dry are heard begun k none theirs =
      let same = heard_popped a b c h p in
      let first = heard_first a b c h p in
      record {
        finished = record {
          taken = c.taken;
          begins = heard_taken a b c h p;
          whole = ap (λ (l : List (Arrival L)). l ++ list) (sym same.given)
              ∙ (sym k.given ∙ (sym (append-nil d.given) ∙ (ap (λ (l : List (Arrival L)). d.given ++ l) (sym none) ∙ (k.whole ∙ ap (arrivals 1) k.taken))));
          first = (first.0, sym (all_handed holds c d list k none) ∙ first.1);
          exact = λ j e lt.
              let s : SenderView L = get_or senders j e in
              let told : Contains c.heard (s.by.0, s.sent) = subst (λ (l : List (ℕ × List (Post L))). Contains l (s.by.0, s.sent)) (sym p.heard) (heard j e lt) in
              begins_both (posts_by s.by.0 c.taken) s.sent (begun j e lt) (dry (s.by.0, s.sent) told);
          theirs = subst (All (λ (x : Arrival L). Contains (map (λ (z : SenderView L). z.by.0) senders) x.actor.0)) (λ i. same.given i ++ list)
              (All-weaker (λ (x : Arrival L). Contains c.made x.actor.0) (λ (x : Arrival L). Contains (map (λ (z : SenderView L). z.by.0) senders) x.actor.0)
              (λ x q. are.all x.actor.0 (subst (λ (l : List ℕ). Contains l x.actor.0) same.made q)) (c.given ++ list) theirs);
          each = subst (λ (z : List ℕ × List (Arrival L)). AreGiven holds z.0 (length z.1) list) (λ i. (same.made i, same.given i)) k.each;
        };
        intake = k.intake ∙ same.intake;
        made = k.made ∙ same.made;
        taken = k.taken;
        given = k.given ∙ ap (λ (l : List (Arrival L)). l ++ list) same.given;
        none = none;
      }

  pub all_taken : (P : SenderView L → Type 0) (xs : List (SenderView L)) (n : ℕ) → length xs ≤ n → All P (take n xs) → All P xs
  all_taken P xs n le all = subst (All P) (take_enough n xs le) all

  -- an element that is read from one of two equal lists is that of the other
  pub read_same : (xs ys : List (SenderView L)) (i : ℕ) (r : SenderView L) → xs ≡ ys → r ≡ get_or xs i r → get_or xs i r ≡ get_or ys i (get_or xs i r)
  read_same xs ys i r e is = ap (λ (l : List (SenderView L)). get_or l i r) e ∙ ap (λ (d : SenderView L). get_or ys i d) is

  pub popped_on : (a b c : TakerView L) → HasPopped a b → HasPopped b c → HasPopped a c
  popped_on a b c p q = record {
    same = record { intake = q.same.intake ∙ p.same.intake; made = q.same.made ∙ p.same.made; given = q.same.given ∙ p.same.given };
    heard = q.heard ∙ p.heard;
    taken = (p.taken.0 ++ q.taken.0, q.taken.1 ∙ (ap (λ (l : List (Post L)). l ++ q.taken.0) p.taken.1 ∙ append_assoc a.taken p.taken.0 q.taken.0));
    first = (p.first.0 ++ q.first.0, q.first.1 ∙ (ap (λ (l : List (Arrival L)). l ++ q.first.0) p.first.1 ∙ append_assoc a.waiting p.first.0 q.first.0));
    empties = le_trans p.empties q.empties;
  }

  pub popped_none : (a : TakerView L) → HasPopped a a
  popped_none a = record {
    same = record { intake = refl; made = refl; given = refl };
    heard = refl;
    taken = ([], sym (append-nil a.taken));
    first = ([], sym (append-nil a.waiting));
    empties = le_refl _;
  }

  pub found_later : (a b c : TakerView L) → HasPopped a b → FoundEmpty b c → FoundEmpty a c
  found_later a b c p f = record {
    counted = record {
      no_less = le_trans p.empties f.counted.no_less;
      more = ⊎_elim (λ (h : b.empties < c.empties). let q = p.empties in inl (omega arith)) inr f.counted.more;
    };
    heard = f.heard;
  }

pub grown_by_one : (old new : ℕ) → old ≤ new → new ≡ min (old + 1) (2 ^ 64 - 1) → HasGrown old new
grown_by_one old new le is = dite (dec_le (old + 1) (2 ^ 64 - 1))
    (λ few. record { no_less = le; more = inl (omega (arith, is, few)) })
    (λ many. record { no_less = le; more = inr (omega (arith, is, many)) })

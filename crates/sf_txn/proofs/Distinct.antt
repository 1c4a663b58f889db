-- The buffers of a transaction are for different layers, so none replaces another.
use Rattle.std.proofs.Common.{◌≡◌, Bool, true, false, List, [], ◌∷◌, ◌++◌, length, map, None, refl, ap, ◌∙◌, subst, sym, arith, true≢false}
use Rattle.std.specs.List.{All, AllPairs, find}
use Rattle.std.specs.Prelude.{◌==◌}
use Rattle.std.proofs.lemmas.List.{append-nil}
use Rattle.std.proofs.lemmas.List.Elements.{All-cons, All-head, All-tail}
use Rattle.std.proofs.lemmas.List.Kept.{AllPairs-cons}
use Rattle.sf_base.specs.declared.ids.LayerId.{LayerId}
use Rattle.sf_layer.specs.declared.op.Op.{Op}
use Rattle.sf_layer.specs.declared.op.Op.TheVariants as op
use Rattle.sf_layer.specs.declared.shown.Shown.{Shown}
use Rattle.sf_txn.specs.Buffers.{Buffer}
use Rattle.sf_txn.specs.Places.{AreApart}
use Rattle.sf_txn.specs.Transactions.{Contents, IsTransaction, Stays, all_replaced, is_for, replaces, shown_by, shows, with_buffers, without_first}
use Rattle.sf_txn.proofs.Apart.{pairs-head, pairs-tail}
use Rattle.sf_txn.proofs.ShownBuffers.{is_plain, shows_none, shows_one}

none_pairs : {X : Type 0} (R : X → X → Type 0) → AllPairs R []
none_pairs R = λ i j d before inside. absurd (omega (arith, inside))

none_all : {X : Type 0} (P : X → Type 0) → All P []
none_all P = λ k d inside. absurd (omega (arith, inside))

-- two that show buffers and stay beside one another are for different layers
differ : (layer other : LayerId) (shown newer : Shown) → replaces (other, op.Show newer) (layer, op.Show shown) ≡ false → (layer.0 == other.0) ≡ false
differ layer other shown newer h = by_layer (layer.0 == other.0) refl
  where
    by_layer : (b : Bool) → (layer.0 == other.0) ≡ b → (layer.0 == other.0) ≡ false
    by_layer false e = e
    by_layer true e = let replaced : replaces (other, op.Show newer) (layer, op.Show shown) ≡ true = rw e refl in absurd (true≢false (sym replaced ∙ h))

module _ {L : Type 0} where
  differ_one : (b : Buffer L) (x : LayerId × Op) (xs : List (LayerId × Op)) (t : Shown) (cs : List (Buffer L)) → x.1 ≡ op.Show t → Stays (b.layer, op.Show b.shown) x
      → ((ds : List (Buffer L)) → shows xs ≡ map shown_by ds → All (AreApart b) ds) → shows (x ∷ xs) ≡ map shown_by cs → All (AreApart b) cs
  differ_one b x xs t [] k stays rest f = none_all (AreApart b)
  differ_one b x xs t (c ∷ cs) k stays rest f =
      let both : ((x.0, t) ∷ shows xs) ≡ (shown_by c ∷ map shown_by cs) = rw k at f in
      let first : (x.0, t) ≡ shown_by c = cc in
      let others : shows xs ≡ map shown_by cs = cc in
      let layer : x.0 ≡ c.layer = ap (λ (p : LayerId × Shown). p.0) first in
      let same : x ≡ (x.0, op.Show t) = ap (λ (o : Op). (x.0, o)) k in
      let apart : (b.layer.0 == x.0.0) ≡ false = differ b.layer x.0 b.shown t (subst (Stays (b.layer, op.Show b.shown)) same stays) in
      All-cons (AreApart b) c cs (subst (λ (i : LayerId). (b.layer.0 == i.0) ≡ false) layer apart) (rest cs others)

  differ_all : (b : Buffer L) (xs : List (LayerId × Op)) → All (Stays (b.layer, op.Show b.shown)) xs → (bs : List (Buffer L)) → shows xs ≡ map shown_by bs → All (AreApart b) bs
  differ_all b [] h [] e = none_all (AreApart b)
  differ_all b [] h (c ∷ cs) e = cc
  differ_all b (x ∷ xs) h bs e = by_kind (is_plain x.1) refl (differ_all b xs (All-tail (Stays (b.layer, op.Show b.shown)) x xs h))
    where
      by_kind : (p : Bool) → is_plain x.1 ≡ p → ((ds : List (Buffer L)) → shows xs ≡ map shown_by ds → All (AreApart b) ds) → All (AreApart b) bs
      by_kind true k rest = rest bs (rw (shows_none x.1 x.0 k) at e)
      by_kind false k rest =
          let one : (t : Shown) × (x.1 ≡ op.Show t) = shows_one x.1 k in
          differ_one b x xs one.0 bs one.1 (All-head (Stays (b.layer, op.Show b.shown)) x xs h) rest e

  apart_one : (x : LayerId × Op) (xs : List (LayerId × Op)) (t : Shown) (cs : List (Buffer L)) → x.1 ≡ op.Show t → All (Stays x) xs → ((ds : List (Buffer L)) → shows xs ≡ map shown_by ds → AllPairs AreApart ds)
      → shows (x ∷ xs) ≡ map shown_by cs → AllPairs AreApart cs
  apart_one x xs t [] k stays rest f = none_pairs AreApart
  apart_one x xs t (c ∷ cs) k stays rest f =
      let both : ((x.0, t) ∷ shows xs) ≡ (shown_by c ∷ map shown_by cs) = rw k at f in
      let first : (x.0, t) ≡ shown_by c = cc in
      let others : shows xs ≡ map shown_by cs = cc in
      let same : x ≡ (c.layer, op.Show c.shown) = ap (λ (o : Op). (x.0, o)) k ∙ ap (λ (p : LayerId × Shown). (p.0, op.Show p.1)) first in
      let stay : All (Stays (c.layer, op.Show c.shown)) xs = subst (λ (y : LayerId × Op). All (Stays y) xs) same stays in
      AllPairs-cons AreApart c cs (differ_all c xs stay cs others) (rest cs others)

  apart_shown : (xs : List (LayerId × Op)) → AllPairs Stays xs → (bs : List (Buffer L)) → shows xs ≡ map shown_by bs → AllPairs AreApart bs
  apart_shown [] h [] e = none_pairs AreApart
  apart_shown [] h (c ∷ cs) e = cc
  apart_shown (x ∷ xs) h bs e = by_kind (is_plain x.1) refl (apart_shown xs (pairs-tail Stays x xs h))
    where
      by_kind : (p : Bool) → is_plain x.1 ≡ p → ((ds : List (Buffer L)) → shows xs ≡ map shown_by ds → AllPairs AreApart ds) → AllPairs AreApart bs
      by_kind true k rest = rest bs (rw (shows_none x.1 x.0 k) at e)
      by_kind false k rest =
          let one : (t : Shown) × (x.1 ≡ op.Show t) = shows_one x.1 k in
          apart_one x xs one.0 bs one.1 (pairs-head Stays x xs h) rest e

  pub apart-buffers : (txn : Contents L) → IsTransaction txn → AllPairs AreApart txn.buffers
  apart-buffers txn h = apart_shown txn.ops h.apart txn.buffers h.shown

  append-assoc : (xs ys zs : List (Buffer L)) → (xs ++ ys) ++ zs ≡ xs ++ (ys ++ zs)
  append-assoc [] ys zs = refl
  append-assoc (x ∷ xs) ys zs = ap (λ ws. x ∷ ws) (append-assoc xs ys zs)

  All-at : (P : Buffer L → Type 0) (xs : List (Buffer L)) (y : Buffer L) (ys : List (Buffer L)) → All P (xs ++ y ∷ ys) → P y
  All-at P [] y ys h = All-head P y ys h
  All-at P (x ∷ xs) y ys h = All-at P xs y ys (All-tail P x (xs ++ y ∷ ys) h)

  before : (xs : List (Buffer L)) (y : Buffer L) (ys : List (Buffer L)) → AllPairs AreApart (xs ++ y ∷ ys) → All (λ earlier. AreApart earlier y) xs
  before [] y ys h = none_all (λ earlier. AreApart earlier y)
  before (x ∷ xs) y ys h =
      All-cons (λ earlier. AreApart earlier y) x xs (All-at (AreApart x) xs y ys (pairs-head AreApart x (xs ++ y ∷ ys) h)) (before xs y ys (pairs-tail AreApart x (xs ++ y ∷ ys) h))

  none_taken : (y : Buffer L) (xs : List (Buffer L)) → All (λ earlier. AreApart earlier y) xs → without_first (is_for y.layer) xs ≡ xs
  none_taken y [] h = refl
  none_taken y (x ∷ xs) h =
      let first : is_for y.layer x ≡ false = All-head (λ earlier. AreApart earlier y) x xs h in
      rw first (ap (λ ws. x ∷ ws) (none_taken y xs (All-tail (λ earlier. AreApart earlier y) x xs h)))

  none_found : (y : Buffer L) (xs : List (Buffer L)) → All (λ earlier. AreApart earlier y) xs → find (is_for y.layer) xs ≡ None
  none_found y [] h = refl
  none_found y (x ∷ xs) h =
      let first : is_for y.layer x ≡ false = All-head (λ earlier. AreApart earlier y) x xs h in
      rw first (none_found y xs (All-tail (λ earlier. AreApart earlier y) x xs h))

  put_one : (xs : List (Buffer L)) (y : Buffer L) (ys : List (Buffer L)) → AllPairs AreApart (xs ++ y ∷ ys) → AllPairs AreApart ((xs ++ y ∷ []) ++ ys)
  put_one xs y ys h = subst (AllPairs AreApart) (sym (append-assoc xs (y ∷ []) ys)) h

  with_buffers-apart : (xs ys : List (Buffer L)) → AllPairs AreApart (xs ++ ys) → with_buffers xs ys ≡ xs ++ ys
  with_buffers-apart xs [] h = sym (append-nil xs)
  with_buffers-apart xs (y ∷ ys) h =
      rw (none_taken y xs (before xs y ys h)) (with_buffers-apart (xs ++ y ∷ []) ys (put_one xs y ys h) ∙ append-assoc xs (y ∷ []) ys)

  replaced-apart : (xs ys : List (Buffer L)) → AllPairs AreApart (xs ++ ys) → all_replaced xs ys ≡ []
  replaced-apart xs [] h = refl
  replaced-apart xs (y ∷ ys) h =
      let none = before xs y ys h in
      rw (none_taken y xs none, none_found y xs none) (replaced-apart (xs ++ y ∷ []) ys (put_one xs y ys h))

  -- put after none, they stay as they are, and replace none
  pub with_buffers-none : (more : List (Buffer L)) → AllPairs AreApart more → with_buffers [] more ≡ more
  with_buffers-none more h = with_buffers-apart [] more h

  pub replaced-none : (more : List (Buffer L)) → AllPairs AreApart more → all_replaced [] more ≡ []
  replaced-none more h = replaced-apart [] more h

  pub none_here : (xs : List (Buffer L)) → length xs ≡ 0 → xs ≡ []
  none_here [] h = refl
  none_here (x ∷ xs) h = absurd (omega (arith, h))

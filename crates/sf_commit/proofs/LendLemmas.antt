-- Reads whose pixels are lent stand at places of their own, whatever a vsync does to the buffers on layers.
use Rattle.std.proofs.Common.{◌≡◌, ℕ, zero, suc, ◌+◌, ◌≤◌, ◌<◌, Bool, true, false, List, [], ◌∷◌, ◌++◌, length, map, get_or, set, take, drop, Option, Some, None, Result, Ok, Err, refl, ap, sym, ◌∙◌, subst, true≢false, arith}
use Rattle.std.specs.Prelude.{◌==◌, filter}
use Rattle.std.specs.List.{All, count_by, find}
use Rattle.std.specs.Option.{IfSome, option_map_or, option_to_list}
use Rattle.std.proofs.lemmas.Bool.{eqb-true, eq-eqb}
use Rattle.std.proofs.lemmas.List.{append-nil, append_assoc, get_or-set_other, get_or_at, length-append, map-append}
use Rattle.std.proofs.lemmas.List.Elements.{All-append, All-cons, All-head, All-nil, All-tail}
use Rattle.std.proofs.lemmas.List.Sums.{sum_by-append}
use Rattle.std.proofs.lemmas.Option.{none-some}
use Rattle.sf_base.specs.declared.fences.Seen.{Seen}
use Rattle.sf_base.specs.declared.ids.LayerId.{LayerId}
use Rattle.sf_view.specs.sf_layer.declared.op.Op.{Op}
use Rattle.sf_view.specs.sf_layer.declared.op.Op.TheVariants as op
use Rattle.sf_view.specs.sf_picture.declared.picture.Picture.{Picture}
use Rattle.sf_commit_next.specs.sf_token.Pending.{Arrival}
use Rattle.sf_view.specs.sf_tree.Changes.{Rejection, after}
use Rattle.sf_view.specs.sf_tree.Trees.{TreeOf}
use Rattle.sf_commit_next.specs.sf_txn.Buffers.{Buffer}
use Rattle.sf_commit_next.specs.sf_txn.Leases.{IsEyeAfter}
use Rattle.sf_commit_next.specs.sf_txn.Transactions.{without_first}
use Rattle.sf_commit_next.specs.sf_txn.declared.lease.Lease.{Ghosts}
use Rattle.sf_commit.proofs.SettleLemmas.{then_after}
use Rattle.sf_commit.specs.Inside.{cleared, here_of, place_of, taken_from}
use Rattle.sf_commit.specs.declared.on.TakenPixels.{TakenPixels}
use Rattle.sf_commit.specs.declared.on.TakenPixels.TheVariants as taken_pixels
use Rattle.sf_commit.specs.Leases.{here_if, pictures, pictures_here}
use Rattle.sf_commit.specs.Lending.{AllKept, AreThere, IsThere, KeptRead, ends_of, is_at, read_of, reads_of}
use Rattle.sf_commit.specs.OnLayers.{OnLayer, at_hand, brought, gone_with, is_on, lent_from, on_after, without}
use Rattle.sf_commit.specs.Rounds.{Leads, Round, StageOf, committed, stage_with}

module _ {X : Type 0} (p : X → Bool) where
  -- how many pass
  pub many : List X → ℕ
  many xs = count_by p xs

  pub many_is : (xs : List X) → many xs ≡ count_by p xs
  unfolding many
  many_is xs = refl

  many-nil : many [] ≡ 0
  unfolding many
  many-nil = refl

  pub many-append : (xs ys : List X) → many (xs ++ ys) ≡ many xs + many ys
  unfolding many
  many-append xs ys = sum_by-append _ xs ys

  many-cons : (x : X) (xs : List X) → many (x ∷ xs) ≡ many (x ∷ []) + many xs
  many-cons x xs = many-append (x ∷ []) xs

  passing : (x : X) → p x ≡ true → many (x ∷ []) ≡ 1
  unfolding many
  passing x e = rw e refl

  failing : (x : X) → p x ≡ false → many (x ∷ []) ≡ 0
  unfolding many
  failing x e = rw e refl

  -- where none is counted, none passes
  none_passes : (xs : List X) → many xs ≡ 0 → All (λ x. p x ≡ false) xs
  none_passes [] e = All-nil (λ x. p x ≡ false)
  none_passes (x ∷ xs) e = by_test (none_passes xs) (p x) refl
    where
      by_test : (many xs ≡ 0 → All (λ y. p y ≡ false) xs) → (b : Bool) → p x ≡ b → All (λ y. p y ≡ false) (x ∷ xs)
      by_test rest true h = absurd (omega (arith, e, many-cons x xs, passing x h))
      by_test rest false h = All-cons (λ y. p y ≡ false) x xs h (rest (omega (arith, e, many-cons x xs)))

  -- one of them is taken out
  many_left : (t : X → Bool) (xs : List X) → many (without_first t xs) + many (option_to_list (find t xs)) ≡ many xs
  many_left t [] = omega (arith, many-nil)
  many_left t (x ∷ xs) = by_test (many_left t xs) (t x) refl
    where
      by_test : many (without_first t xs) + many (option_to_list (find t xs)) ≡ many xs → (b : Bool) → t x ≡ b
          → many (without_first t (x ∷ xs)) + many (option_to_list (find t (x ∷ xs))) ≡ many (x ∷ xs)
      by_test rest true h = rw h (omega (arith, many-append (x ∷ []) xs))
      by_test rest false h = rw h (omega (arith, rest, many-append (x ∷ []) xs, many-append (x ∷ []) (without_first t xs)))

  -- some of them are kept
  many_filter : (t : X → Bool) (xs : List X) → many (filter t xs) ≤ many xs
  many_filter t [] = omega arith
  many_filter t (x ∷ xs) = by_test (many_filter t xs) (t x) refl
    where
      by_test : many (filter t xs) ≤ many xs → (b : Bool) → t x ≡ b → many (filter t (x ∷ xs)) ≤ many (x ∷ xs)
      by_test rest true h = rw h (omega (arith, rest, many-append (x ∷ []) xs, many-append (x ∷ []) (filter t xs)))
      by_test rest false h = rw h (omega (arith, rest, many-append (x ∷ []) xs))

module _ {X Y : Type 0} (p : Y → Bool) (f : X → Y) where
  map_nil : many p [] ≡ many (λ (x : X). p (f x)) []
  unfolding many
  map_nil = refl

  map_one : (x : X) → many p (f x ∷ []) ≡ many (λ (y : X). p (f y)) (x ∷ [])
  unfolding many
  map_one x = refl

  many_map : (xs : List X) → many p (map f xs) ≡ many (λ (x : X). p (f x)) xs
  many_map [] = map_nil
  many_map (x ∷ xs) = many-cons p (f x) (map f xs) ∙ ((λ i. map_one x i + many_map xs i) ∙ sym (many-cons (λ (y : X). p (f y)) x xs))

module _ {L : Type 0} (p : OnLayer L → Bool) (none : (b : Buffer L) → p (brought b) ≡ false) where
  -- what operations take off layers goes, and what they bring does not count
  many_after : (on : List (OnLayer L)) (ops : List (LayerId × Op)) (buffers : List (Buffer L)) → many p (on_after on ops buffers) + many p (gone_with on ops buffers) ≡ many p on
  many_after on [] buffers = omega (arith, many-nil p)
  many_after on ((layer, op.Show shown) ∷ ops) [] = many_after on ops []
  many_after on ((layer, op.Show shown) ∷ ops) (b ∷ bs) =
      omega (
        arith,
        many_after (without layer on ++ brought b ∷ []) ops bs,
        many-append p (without layer on) (brought b ∷ []),
        many-append p (option_to_list (find (is_on layer) on)) (gone_with (without layer on ++ brought b ∷ []) ops bs),
        many_left p (is_on layer) on,
        failing p (brought b) (none b),
      )
  many_after on ((layer, op.Destroy) ∷ ops) buffers =
      omega (arith, many_after (without layer on) ops buffers, many-append p (option_to_list (find (is_on layer) on)) (gone_with (without layer on) ops buffers), many_left p (is_on layer) on)
  many_after on ((layer, (op.Create kind parent)) ∷ ops) buffers = many_after on ops buffers
  many_after on ((layer, (op.Reparent parent)) ∷ ops) buffers = many_after on ops buffers
  many_after on ((layer, (op.Z z)) ∷ ops) buffers = many_after on ops buffers
  many_after on ((layer, (op.Relative other z)) ∷ ops) buffers = many_after on ops buffers
  many_after on ((layer, (op.Position x y)) ∷ ops) buffers = many_after on ops buffers
  many_after on ((layer, (op.Crop crop)) ∷ ops) buffers = many_after on ops buffers
  many_after on ((layer, (op.Alpha alpha)) ∷ ops) buffers = many_after on ops buffers
  many_after on ((layer, (op.Hidden hidden)) ∷ ops) buffers = many_after on ops buffers
  many_after on ((layer, (op.Opaque opaque)) ∷ ops) buffers = many_after on ops buffers
  many_after on ((layer, (op.Colour colour)) ∷ ops) buffers = many_after on ops buffers
  many_after on ((layer, (op.Backpressure backpressure)) ∷ ops) buffers = many_after on ops buffers
  many_after on ((layer, (op.Orient orient)) ∷ ops) buffers = many_after on ops buffers

  many_brought : (buffers : List (Buffer L)) → many p (map brought buffers) ≡ 0
  many_brought [] = many-nil p
  many_brought (b ∷ bs) = omega (arith, many-cons p (brought b) (map brought bs), failing p (brought b) (none b), many_brought bs)

  many_stage : (stage : StageOf L) (a : Arrival L) (res : Result TreeOf Rejection)
      → many p (stage_with stage a res).on + many p (stage_with stage a res).gone ≡ many p stage.on + many p stage.gone
  many_stage stage a (Ok tree) =
      omega (arith, many_after stage.on a.txn.ops a.txn.buffers, many-append p stage.gone (gone_with stage.on a.txn.ops a.txn.buffers))
  many_stage stage a (Err rejection) =
      omega (arith, many_brought a.txn.buffers, many-append p stage.gone (map brought a.txn.buffers))

  pub many_along : (drawn : L → Bool) (seen : Seen) (expected : ℕ) (r end : Round L) (taken : List (Arrival L)) → Leads drawn seen expected r taken end
      → many p end.stage.on + many p end.stage.gone ≡ many p r.stage.on + many p r.stage.gone
  many_along drawn seen expected r end [] leads = ap (λ (x : Round L). many p x.stage.on + many p x.stage.gone) leads
  many_along drawn seen expected r end (a ∷ later) leads =
      many_along drawn seen expected (committed r a) end later leads.1 ∙ many_stage r.stage a (after r.stage.tree a.txn.ops)

module _ {L E R C : Type 0} (lease : Ghosts L E R C) where
  -- they are there, counted by what stands at a place
  pub there_by : (pixels : List (Option Picture)) (reads : List (KeptRead L)) → All (IsThere lease pixels) reads
      → ((place : ℕ) → many (is_at place) reads ≤ 1) → AreThere lease pixels reads
  there_by pixels reads there once = record { there = there; once = λ place. subst (λ n. n ≤ 1) (many_is (is_at place) reads) (once place) }

  once_of : (pixels : List (Option Picture)) (reads : List (KeptRead L)) → AreThere lease pixels reads → (place : ℕ) → many (is_at place) reads ≤ 1
  once_of pixels reads h place = subst (λ n. n ≤ 1) (sym (many_is (is_at place) reads)) (h.once place)

  pub there_left : (pixels : List (Option Picture)) (xs ys : List (KeptRead L)) → AreThere lease pixels (xs ++ ys) → AreThere lease pixels xs
  there_left pixels xs ys h =
      there_by pixels xs (all_left_of xs h.there) (λ place. omega (arith, once_of pixels (xs ++ ys) h place, many-append (is_at place) xs ys))
    where
      all_left_of : (zs : List (KeptRead L)) → All (IsThere lease pixels) (zs ++ ys) → All (IsThere lease pixels) zs
      all_left_of [] all = All-nil (IsThere lease pixels)
      all_left_of (z ∷ zs) all = All-cons (IsThere lease pixels) z zs (All-head (IsThere lease pixels) z (zs ++ ys) all) (all_left_of zs (All-tail (IsThere lease pixels) z (zs ++ ys) all))

  pub there_right : (pixels : List (Option Picture)) (xs ys : List (KeptRead L)) → AreThere lease pixels (xs ++ ys) → AreThere lease pixels ys
  there_right pixels xs ys h =
      there_by pixels ys (all_right_of xs h.there) (λ place. omega (arith, once_of pixels (xs ++ ys) h place, many-append (is_at place) xs ys))
    where
      all_right_of : (zs : List (KeptRead L)) → All (IsThere lease pixels) (zs ++ ys) → All (IsThere lease pixels) ys
      all_right_of [] all = all
      all_right_of (z ∷ zs) all = all_right_of zs (All-tail (IsThere lease pixels) z (zs ++ ys) all)

  -- what stands elsewhere stays when pixels are taken
  still_there : (pixels : List (Option Picture)) (place : ℕ) (read : KeptRead L) → is_at place read ≡ false → IsThere lease pixels read → IsThere lease (set pixels place None) read
  still_there pixels place read apart h = by_place read.place refl
    where
      by_place : (o : Option ℕ) → read.place ≡ o → IsThere lease (set pixels place None) read
      by_place None e = rw e tt
      by_place (Some other) e =
          let here : get_or pixels other None ≡ Some (lease.picture read.lease) = rw e at h in
          let differs : (other == place) ≡ false = ap (λ (o : Option ℕ). option_map_or (λ lent. lent == place) o false) (sym e) ∙ apart in
          rw e (get_or-set_other pixels place other None None (λ same. true≢false (sym (eq-eqb other place same) ∙ differs)) ∙ here)

  still_all : (pixels : List (Option Picture)) (place : ℕ) (reads : List (KeptRead L)) → All (λ read. is_at place read ≡ false) reads → All (IsThere lease pixels) reads
      → All (IsThere lease (set pixels place None)) reads
  still_all pixels place reads apart all = λ k d h. still_there pixels place _ (apart k d h) (all k d h)

  -- once the pixels of one read are taken, those of the others are still there
  pub there_rest : (pixels : List (Option Picture)) (read : KeptRead L) (reads : List (KeptRead L)) → AreThere lease pixels (read ∷ reads)
      → AreThere lease (cleared pixels read.place) reads
  there_rest pixels read reads h = by_place read.place refl
    where
      rest : AreThere lease pixels reads
      rest = there_right pixels (read ∷ []) reads h

      by_place : (o : Option ℕ) → read.place ≡ o → AreThere lease (cleared pixels o) reads
      by_place None e = rest
      by_place (Some place) e =
          let at : is_at place read ≡ true = ap (λ (o : Option ℕ). option_map_or (λ lent. lent == place) o false) e ∙ eq-eqb place place refl in
          let none : many (is_at place) reads ≡ 0 =
          omega (arith, once_of pixels (read ∷ reads) h place, many-cons (is_at place) read reads, passing (is_at place) read at) in
          there_by (set pixels place None) reads (still_all pixels place reads (none_passes (is_at place) reads none) rest.there) (once_of pixels reads rest)

  pub placed_on : (pixels : List (Option Picture)) (kept : List (KeptRead L)) (on : List (OnLayer L)) → AreThere lease pixels (kept ++ map read_of on)
      → All (λ (one : OnLayer L). IsThere lease pixels (read_of one)) on
  placed_on pixels kept on h = each on (there_right pixels kept (map read_of on) h).there
    where
      each : (xs : List (OnLayer L)) → All (IsThere lease pixels) (map read_of xs) → All (λ (one : OnLayer L). IsThere lease pixels (read_of one)) xs
      each [] all = All-nil (λ (one : OnLayer L). IsThere lease pixels (read_of one))
      each (x ∷ xs) all =
          All-cons (λ (one : OnLayer L). IsThere lease pixels (read_of one)) x xs (All-head (IsThere lease pixels) (read_of x) (map read_of xs) all)
          (each xs (All-tail (IsThere lease pixels) (read_of x) (map read_of xs) all))

  going : (pixels : List (Option Picture)) (xs : List (OnLayer L)) → All (λ (one : OnLayer L). IsThere lease pixels (read_of one)) xs → All (IsThere lease pixels) (reads_of xs)
  going pixels [] all = All-nil (IsThere lease pixels)
  going pixels (x ∷ xs) all =
      by_test (going pixels xs (All-tail (λ (one : OnLayer L). IsThere lease pixels (read_of one)) x xs all)) (All-head (λ (one : OnLayer L). IsThere lease pixels (read_of one)) x xs all) x.is_read refl
    where
      by_test : All (IsThere lease pixels) (reads_of xs) → IsThere lease pixels (read_of x) → (b : Bool) → x.is_read ≡ b → All (IsThere lease pixels) (reads_of (x ∷ xs))
      by_test rest here true e = rw e (All-cons (IsThere lease pixels) (read_of x) (reads_of xs) here rest)
      by_test rest here false e = rw e rest

  -- a vsync moves buffers from layers to those that go, and what it brings is not lent
  pub there_after : (pixels : List (Option Picture)) (kept : List (KeptRead L)) (on later gone : List (OnLayer L)) → AreThere lease pixels (kept ++ map read_of on)
      → All (λ (one : OnLayer L). IsThere lease pixels (read_of one)) later → All (λ (one : OnLayer L). IsThere lease pixels (read_of one)) gone
      → ((place : ℕ) → many (λ (one : OnLayer L). is_at place (read_of one)) later + many (λ (one : OnLayer L). is_at place (read_of one)) gone
      ≡ many (λ (one : OnLayer L). is_at place (read_of one)) on + many (λ (one : OnLayer L). is_at place (read_of one)) [])
      → AreThere lease pixels ((kept ++ reads_of gone) ++ map read_of later)
  there_after pixels kept on later gone h stays goes counts =
      there_by pixels ((kept ++ reads_of gone) ++ map read_of later)
      (All-append (IsThere lease pixels) (kept ++ reads_of gone) (map read_of later)
      (All-append (IsThere lease pixels) kept (reads_of gone) (there_left pixels kept (map read_of on) h).there (going pixels gone goes)) (staying later stays))
      (λ place. omega (
        arith,
        once_of pixels (kept ++ map read_of on) h place,
        many-append (is_at place) kept (map read_of on),
        many-append (is_at place) (kept ++ reads_of gone) (map read_of later),
        many-append (is_at place) kept (reads_of gone),
        counts place,
        many-nil (λ (one : OnLayer L). is_at place (read_of one)),
        many_map (is_at place) read_of on,
        many_map (is_at place) read_of later,
        fewer place,
      ))
    where
      staying : (xs : List (OnLayer L)) → All (λ (one : OnLayer L). IsThere lease pixels (read_of one)) xs → All (IsThere lease pixels) (map read_of xs)
      staying [] all = All-nil (IsThere lease pixels)
      staying (x ∷ xs) all =
          All-cons (IsThere lease pixels) (read_of x) (map read_of xs) (All-head (λ (one : OnLayer L). IsThere lease pixels (read_of one)) x xs all)
          (staying xs (All-tail (λ (one : OnLayer L). IsThere lease pixels (read_of one)) x xs all))

      fewer : (place : ℕ) → many (is_at place) (reads_of gone) ≤ many (λ (one : OnLayer L). is_at place (read_of one)) gone
      fewer place =
          omega (
            arith,
            many_map (is_at place) read_of (filter (λ (one : OnLayer L). one.is_read) gone),
            many_filter (λ (one : OnLayer L). is_at place (read_of one)) (λ (one : OnLayer L). one.is_read) gone,
          )

  -- where nothing is lent, all pixels are at hand
  here_unlent : (on : List (OnLayer L)) → All (IsThere lease []) (map read_of on) → pictures_here lease on ≡ pictures lease on
  here_unlent [] all = refl
  here_unlent (x ∷ xs) all =
      by_place (here_unlent xs (All-tail (IsThere lease []) (read_of x) (map read_of xs) all)) (All-head (IsThere lease []) (read_of x) (map read_of xs) all) x.place refl
    where
      by_place : pictures_here lease xs ≡ pictures lease xs → IsThere lease [] (read_of x) → (o : Option ℕ) → x.place ≡ o
          → here_if x.place (lease.picture x.lease) ++ pictures_here lease xs ≡ lease.picture x.lease ∷ pictures lease xs
      by_place rest there None e = rw e (ap (λ ps. lease.picture x.lease ∷ ps) rest)
      by_place rest there (Some place) e = absurd (none-some (lease.picture x.lease) (rw e at there))

  pub pictures_unlent : (kept : List (KeptRead L)) (on : List (OnLayer L)) → AreThere lease [] (kept ++ map read_of on) → pictures_here lease on ≡ pictures lease on
  pictures_unlent kept on h = here_unlent on (there_right [] kept (map read_of on) h).there

  pub here_all : (on : List (OnLayer L)) → pictures_here lease (map at_hand on) ≡ pictures lease on
  here_all [] = refl
  here_all (x ∷ xs) = ap (λ ps. lease.picture x.lease ∷ ps) (here_all xs)

  pub here_lent : (place : ℕ) (on : List (OnLayer L)) → pictures_here lease (lent_from place on) ≡ []
  here_lent place [] = refl
  here_lent place (x ∷ xs) = here_lent (place + 1) xs

  pub pictures_lent : (place : ℕ) (on : List (OnLayer L)) → pictures lease (lent_from place on) ≡ pictures lease on
  pictures_lent place [] = refl
  pictures_lent place (x ∷ xs) = ap (λ ps. lease.picture x.lease ∷ ps) (pictures_lent (place + 1) xs)

  pub length_lent : (place : ℕ) (on : List (OnLayer L)) → length (lent_from place on) ≡ length on
  length_lent place [] = refl
  length_lent place (x ∷ xs) = ap suc (length_lent (place + 1) xs)

  -- pixels at hand are lent at no place
  pub there_at_hand : (on : List (OnLayer L)) → AreThere lease [] (map read_of (map at_hand on))
  there_at_hand on = there_by [] (map read_of (map at_hand on)) (none_lent on) (λ place. omega (arith, no_place place on))
    where
      none_lent : (xs : List (OnLayer L)) → All (IsThere lease []) (map read_of (map at_hand xs))
      none_lent [] = All-nil (IsThere lease [])
      none_lent (x ∷ xs) = All-cons (IsThere lease []) (read_of (at_hand x)) (map read_of (map at_hand xs)) tt (none_lent xs)

      no_place : (place : ℕ) (xs : List (OnLayer L)) → many (is_at place) (map read_of (map at_hand xs)) ≡ 0
      no_place place [] = many-nil (is_at place)
      no_place place (x ∷ xs) =
          omega (arith, many-cons (is_at place) (read_of (at_hand x)) (map read_of (map at_hand xs)), failing (is_at place) (read_of (at_hand x)) refl, no_place place xs)

  places_lent : (place from : ℕ) (xs : List (OnLayer L)) → (many (is_at place) (map read_of (lent_from from xs)) ≤ 1) × (place < from → many (is_at place) (map read_of (lent_from from xs)) ≡ 0)
  places_lent place from [] = (omega (arith, many-nil {X = KeptRead L} (is_at place)), λ less. many-nil (is_at place))
  places_lent place from (x ∷ xs) =
      let first : KeptRead L = record { lease = x.lease; place = Some from } in
      by_test (places_lent place (from + 1) xs) (many-cons (is_at place) first (map read_of (lent_from (from + 1) xs))) (from == place) refl
    where
      by_test : (many (is_at place) (map read_of (lent_from (from + 1) xs)) ≤ 1) × (place < from + 1 → many (is_at place) (map read_of (lent_from (from + 1) xs)) ≡ 0)
          → many (is_at place) (map read_of (lent_from from (x ∷ xs))) ≡ many (is_at place) (record { lease = x.lease; place = Some from } ∷ []) + many (is_at place) (map read_of (lent_from (from + 1) xs))
          → (b : Bool) → (from == place) ≡ b
          → (many (is_at place) (map read_of (lent_from from (x ∷ xs))) ≤ 1) × (place < from → many (is_at place) (map read_of (lent_from from (x ∷ xs))) ≡ 0)
      by_test rest all true e =
          let same : from ≡ place = eqb-true from place e in
          let none : many (is_at place) (map read_of (lent_from (from + 1) xs)) ≡ 0 = rest.1 (omega (arith, same)) in
          let one = passing (is_at place) (record { lease = x.lease; place = Some from }) e in
          (omega (arith, all, none, one), λ less. absurd (omega (arith, less, same)))
      by_test rest all false e =
          let zero = failing (is_at place) (record { lease = x.lease; place = Some from }) e in
          let at_most = rest.0 in
          let fewer = rest.1 in
          (omega (arith, all, zero, at_most), λ less. let none : many (is_at place) (map read_of (lent_from (from + 1) xs)) ≡ 0 = fewer (omega (arith, less)) in omega (arith, all, none, zero))

  -- what is lent stands at its places
  pub there_lent : (on : List (OnLayer L)) → AreThere lease (map (λ picture. Some picture) (pictures lease on)) (map read_of (lent_from 0 on))
  there_lent on = there_by (map (λ picture. Some picture) (pictures lease on)) (map read_of (lent_from 0 on)) (stand [] 0 on refl) (λ place. (places_lent place 0 on).0)
    where
      stand : (before : List (Option Picture)) (place : ℕ) (xs : List (OnLayer L)) → length before ≡ place
          → All (IsThere lease (before ++ map (λ picture. Some picture) (pictures lease xs))) (map read_of (lent_from place xs))
      stand before place [] e = All-nil (IsThere lease (before ++ []))
      stand before place (x ∷ xs) e =
          let picture = Some (lease.picture x.lease) in
          let others = map (λ (p : Picture). Some p) (pictures lease xs) in
          let first : KeptRead L = record { lease = x.lease; place = Some place } in
          All-cons (IsThere lease (before ++ picture ∷ others)) first (map read_of (lent_from (place + 1) xs)) (get_or_at before picture others None place e)
          (subst (λ (ps : List (Option Picture)). All (IsThere lease ps) (map read_of (lent_from (place + 1) xs))) (append_assoc before (picture ∷ []) others)
          (stand (before ++ picture ∷ []) (place + 1) xs (omega (arith, length-append before (picture ∷ []), e))))

  -- some of the reads that were kept were left, and these are still to leave
  pub record Left (slots : List (Option Picture)) (kept rest : List (KeptRead L)) (old now : E) (pixels : List (Option Picture)) : Type 0 where
    pub done : List (KeptRead L)
    pub all : done ++ rest ≡ kept
    pub reads : IsEyeAfter lease old now (ends_of lease done)
    pub fits : AllKept (lease.fits (lease.mark now)) rest
    pub there : AreThere lease pixels rest
    pub others : (others : List (KeptRead L)) → AreThere lease slots (kept ++ others) → AreThere lease pixels (rest ++ others)

  pub left_none : (slots : List (Option Picture)) (kept rest : List (KeptRead L)) (eye : E) → rest ≡ kept → AllKept (lease.fits (lease.mark eye)) kept → AreThere lease slots kept
      → Left slots kept rest eye eye slots
  left_none slots kept rest eye same fits there = record {
    done = [];
    all = same;
    reads = record { mark = refl; ends = sym (append-nil (lease.ends eye)); keeps = λ l knows. knows };
    fits = subst (AllKept (lease.fits (lease.mark eye))) (sym same) fits;
    there = subst (AreThere lease slots) (sym same) there;
    others = λ others h. subst (λ (reads : List (KeptRead L)). AreThere lease slots (reads ++ others)) (sym same) h;
  }

  pub left_more : (slots : List (Option Picture)) (kept : List (KeptRead L)) (one : KeptRead L) (rest : List (KeptRead L)) (old now next : E) (pixels later : List (Option Picture))
      → Left slots kept (one ∷ rest) old now pixels → IsEyeAfter lease now next (lease.end one.lease ∷ []) → later ≡ cleared pixels one.place → Left slots kept rest old next later
  left_more slots kept one rest old now next pixels later so reads same = record {
    done = so.done ++ one ∷ [];
    all = append_assoc so.done (one ∷ []) rest ∙ so.all;
    reads = subst (IsEyeAfter lease old next) (sym (map-append (λ (read : KeptRead L). lease.end read.lease) so.done (one ∷ [])))
        (then_after lease old now next (ends_of lease so.done) (lease.end one.lease ∷ []) so.reads reads);
    fits = subst (λ m. AllKept (lease.fits m) rest) (sym reads.mark) (All-tail (λ (read : KeptRead L). lease.fits (lease.mark now) read.lease) one rest so.fits);
    there = subst (λ (ps : List (Option Picture)). AreThere lease ps rest) (sym same) (there_rest pixels one rest so.there);
    others = λ others h. subst (λ (ps : List (Option Picture)). AreThere lease ps (rest ++ others)) (sym same) (there_rest pixels one (rest ++ others) (so.others others h));
  }

  pub left_all : (slots : List (Option Picture)) (kept rest : List (KeptRead L)) (old now : E) (pixels : List (Option Picture)) → Left slots kept rest old now pixels → rest ≡ []
      → IsEyeAfter lease old now (ends_of lease kept) × ((others : List (KeptRead L)) → AreThere lease slots (kept ++ others) → AreThere lease pixels others)
  left_all slots kept rest old now pixels so none = (
    subst (λ (reads : List (KeptRead L)). IsEyeAfter lease old now (ends_of lease reads)) (sym (append-nil so.done) ∙ (ap (λ (reads : List (KeptRead L)). so.done ++ reads) (sym none) ∙ so.all)) so.reads,
    λ others h. subst (λ (reads : List (KeptRead L)). AreThere lease pixels (reads ++ others)) none (so.others others h),
  )

-- the pixels of a read show its picture, wherever they are
pub taken_is : (slots : List (Option Picture)) (taken : TakenPixels) (place : Option ℕ) (picture : Picture) (before after : List Picture) → place_of taken ≡ place
    → here_of taken ++ after ≡ here_if place picture ++ before → IfSome place (λ p. get_or slots p None ≡ Some picture) → (taken_from slots taken ≡ Some picture) × (after ≡ before)
taken_is slots (taken_pixels.Here painted) None picture before after at here there = let both : painted ∷ after ≡ picture ∷ before = here in (cc, cc)
taken_is slots (taken_pixels.Here painted) (Some p) picture before after at here there = cc
taken_is slots (taken_pixels.Lent q) None picture before after at here there = cc
taken_is slots (taken_pixels.Lent q) (Some p) picture before after at here there = let same : q ≡ p = cc in (ap (λ n. get_or slots n None) same ∙ there, here)

module _ {L : Type 0} where
  -- the next buffer to be lent
  pub lent_next : (from i : ℕ) (on : List (OnLayer L)) (d : OnLayer L) → i < length on → get_or (lent_from from (take i on) ++ drop i on) i d ≡ get_or on i d
  lent_next from i [] d h = absurd (omega (arith, h))
  lent_next from zero (x ∷ xs) d h = refl
  lent_next from (suc i) (x ∷ xs) d h = let less : i < length xs = omega (arith, h) in lent_next (from + 1) i xs d less

  -- one more buffer is lent
  pub lent_more : (from i place : ℕ) (on : List (OnLayer L)) (d : OnLayer L) → i < length on → place ≡ from + i
      → set (lent_from from (take i on) ++ drop i on) i (record (get_or on i d) { place = Some place }) ≡ lent_from from (take (suc i) on) ++ drop (suc i) on
  lent_more from i place [] d h e = absurd (omega (arith, h))
  lent_more from zero place (x ∷ xs) d h e = let same : place ≡ from = omega (arith, e) in ap (λ (n : ℕ). record x { place = Some n } ∷ xs) same
  lent_more from (suc i) place (x ∷ xs) d h e =
      let less : i < length xs = omega (arith, h) in
      ap (λ (rest : List (OnLayer L)). record x { place = Some from } ∷ rest) (lent_more (from + 1) i place xs d less (omega (arith, e)))

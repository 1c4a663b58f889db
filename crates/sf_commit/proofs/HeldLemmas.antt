-- All that is pending is gone over by the looks, in the order of arrival.
use Rattle.std.proofs.Common.{◌≡◌, ℕ, ◌+◌, ◌<◌, Bool, true, false, List, [], ◌∷◌, ◌++◌, length, map, get_or, take, Option, Some, None, refl, ap, sym, ◌∙◌, subst, inl, inr, arith}
use Rattle.std.specs.Prelude.{if◌then◌else◌}
use Rattle.std.specs.List.{All, AllZip, cons_option, filter_map, find}
use Rattle.std.specs.Option.{IfSome, option_and_then, option_map}
use Rattle.std.proofs.lemmas.Bool.{eq-eqb, ne_eqb}
use Rattle.std.proofs.lemmas.List.{append-nil, take_more}
use Rattle.std.proofs.lemmas.List.Elements.{All-cons, All-head, All-nil, All-tail, All-weaker, filter_map-append}
use Rattle.sf_base.specs.declared.fences.Seen.{Seen}
use Rattle.sf_commit_next.specs.sf_ready.Facts.{FactsOf}
use Rattle.sf_commit_next.specs.sf_ready.declared.hold.Hold.{Hold}
use Rattle.sf_commit_next.specs.sf_ready.declared.hold.Hold.TheVariants as hold
use Rattle.sf_commit_next.specs.sf_txn.Buffers.{Buffer}
use Rattle.sf_commit_next.specs.sf_txn.Transactions.{without_first}
use Rattle.sf_commit_next.specs.sf_txn.declared.lease.Lease.{Ghosts}
use Rattle.sf_commit_next.specs.sf_token.Loads.{IsLookedArrival, looks_at, looks_of}
use Rattle.sf_commit_next.specs.sf_token.Pending.{Arrival, IsRisingFrom, has_number, is_of}
use Rattle.sf_commit_next.specs.sf_token.declared.looks.Looks.{Looks}
use Rattle.sf_commit.proofs.DecideLemmas.{hold_same}
use Rattle.sf_commit.specs.inner.Deciding.{Comes, IsState}
use Rattle.sf_commit.specs.inner.Holding.{AreLooks, IsFoundDrawn, IsPart, found_by, held_of, is_first, told_by, told_in}
use Rattle.sf_commit_next.specs.Next.{IsLookedAt}
use Rattle.sf_commit.specs.Rounds.{Leads, Round, StageOf, committed, facts_of, held}

-- what holds of all holds of a part
part_all : {A : Type 0} (P : A → Type 0) (xs ys : List A) → IsPart xs ys → All P ys → All P xs
part_all P [] ys part all = All-nil P
part_all P (x ∷ xs) [] part all = absurd part
part_all P (x ∷ xs) (y ∷ ys) (inl same) all = All-cons P x xs (subst P (sym same.0) (All-head P y ys all)) (part_all P xs ys same.1 (All-tail P y ys all))
part_all P (x ∷ xs) (y ∷ ys) (inr later) all = part_all P (x ∷ xs) ys later (All-tail P y ys all)

-- a part of a list is part of a longer one
part_more : {A : Type 0} (xs : List A) (y : A) (ys : List A) → IsPart xs ys → IsPart xs (y ∷ ys)
part_more [] y ys part = tt
part_more (x ∷ xs) y ys part = inr part

part_same : {A : Type 0} (xs : List A) → IsPart xs xs
part_same [] = tt
part_same (x ∷ xs) = inl (refl, part_same xs)

-- without one more item it is still a part
part_left : {A : Type 0} (t : A → Bool) (xs ys : List A) → IsPart xs ys → IsPart (without_first t xs) ys
part_left t [] ys part = tt
part_left t (x ∷ xs) [] part = absurd part
part_left t (x ∷ xs) (y ∷ ys) (inl same) = by_test (part_left t xs ys same.1) (t x) refl
  where
    by_test : IsPart (without_first t xs) ys → (b : Bool) → t x ≡ b → IsPart (without_first t (x ∷ xs)) (y ∷ ys)
    by_test rest true e = rw e (part_more xs y ys same.1)
    by_test rest false e = rw e (inl (same.0, rest))
part_left t (x ∷ xs) (y ∷ ys) (inr later) = part_more (without_first t (x ∷ xs)) y ys (part_left t (x ∷ xs) ys later)

-- what is given of what is given
composed : {X Y Z : Type 0} (f : X → Option Y) (h : Y → Option Z) (xs : List X) → filter_map (λ x. option_and_then h (f x)) xs ≡ filter_map h (filter_map f xs)
composed f h [] = refl
composed f h (x ∷ xs) = by_given (f x) (composed f h xs)
  where
    by_given : (o : Option _) → filter_map (λ x. option_and_then h (f x)) xs ≡ filter_map h (filter_map f xs)
        → cons_option (option_and_then h o) (filter_map (λ x. option_and_then h (f x)) xs) ≡ filter_map h (cons_option o (filter_map f xs))
    by_given None same = same
    by_given (Some y) same = λ i. cons_option (h y) (same i)

module _ {L : Type 0} where
  -- all that rises from a number is above it
  above : (n : ℕ) (xs : List (Arrival L)) (last : ℕ) → IsRisingFrom n xs last → All (λ (a : Arrival L). n < a.number) xs
  above n [] last h = All-nil (λ (a : Arrival L). n < a.number)
  above n (x ∷ xs) last h =
      let first = h.0 in
      All-cons (λ (a : Arrival L). n < a.number) x xs first
      (All-weaker (λ (a : Arrival L). x.number < a.number) (λ (a : Arrival L). n < a.number) (λ a m. omega (arith, m, first)) xs (above x.number xs last h.1))

  -- a number below all others is not found
  not_found_below : (n : ℕ) (xs : List (Arrival L)) → All (λ (a : Arrival L). n < a.number) xs → find (has_number n) xs ≡ None
  not_found_below n [] all = refl
  not_found_below n (x ∷ xs) all =
      let more = All-head (λ (a : Arrival L). n < a.number) x xs all in
      rw (ne_eqb x.number n (λ e. omega (arith, more, e))) (not_found_below n xs (All-tail (λ (a : Arrival L). n < a.number) x xs all))

  module _ (drawn : L → Bool) (seen : Seen) (expected : ℕ) (facts : FactsOf) (pending : List (Arrival L)) where
    -- what is told, if anything, goes last
    abbrev pub with_told : List (ℕ × Hold) → Option (ℕ × Hold) → List (ℕ × Hold)
    with_told made None = made
    with_told made (Some told) = made ++ told ∷ []

    -- one more look
    pub told_more : (looks : List Looks) (i : ℕ) (look : Looks) (made : List (ℕ × Hold)) (told : Option (ℕ × Hold)) → i < length looks
        → look ≡ get_or looks i look → told ≡ told_by drawn seen expected facts pending look → made ≡ filter_map (told_by drawn seen expected facts pending) (take i looks)
        → with_told made told ≡ filter_map (told_by drawn seen expected facts pending) (take (i + 1) looks)
    told_more looks i look made told h at given same =
        let tells : Looks → Option (ℕ × Hold) = told_by drawn seen expected facts pending in
        last made told
        ∙ (ap (λ o. made ++ cons_option o []) (given ∙ ap tells at)
        ∙ (ap (λ front. front ++ cons_option (tells (get_or looks i look)) []) same
        ∙ (sym (filter_map-append tells (take i looks) (get_or looks i look ∷ []))
        ∙ ap (filter_map tells) (sym (take_more looks i look h)))))
      where
        last : (front : List (ℕ × Hold)) (o : Option (ℕ × Hold)) → with_told front o ≡ front ++ cons_option o []
        last front None = sym (append-nil front)
        last front (Some x) = refl

module _ {L E R C : Type 0} (lease : Ghosts L E R C) where
  -- a lower number more changes nothing of what looks at higher ones find
  skip : (x : Arrival L) (xs ys : List (Arrival L)) → All (λ (a : Arrival L). x.number < a.number) ys
      → filter_map (found_by (x ∷ xs)) (looks_of lease ys) ≡ filter_map (found_by xs) (looks_of lease ys)
  skip x xs [] all = refl
  skip x xs (y ∷ ys) all =
      let more = All-head (λ (a : Arrival L). x.number < a.number) y ys all in
      rw (ne_eqb x.number y.number (λ e. omega (arith, more, e)))
      (ap (cons_option (found_by xs (looks_at lease y))) (skip x xs ys (All-tail (λ (a : Arrival L). x.number < a.number) y ys all)))

  -- the looks go over all that is pending, in order
  goes_over : (n : ℕ) (looked pending : List (Arrival L)) (last : ℕ) → IsRisingFrom n looked last → IsPart pending looked
      → filter_map (found_by pending) (looks_of lease looked) ≡ pending
  goes_over n [] [] last rising part = refl
  goes_over n [] (x ∷ xs) last rising part = absurd part
  goes_over n (y ∷ ys) [] last rising part = goes_over y.number ys [] last rising.1 tt
  goes_over n (y ∷ ys) (x ∷ xs) last rising (inl same) =
      let all = subst (λ (k : ℕ). All (λ (a : Arrival L). k < a.number) ys) (ap (λ (a : Arrival L). a.number) (sym same.0)) (above y.number ys last rising.1) in
      rw (eq-eqb x.number y.number (ap (λ (a : Arrival L). a.number) same.0))
      (ap (λ rest. x ∷ rest) (skip x xs ys all ∙ goes_over y.number ys xs last rising.1 same.1))
  goes_over n (y ∷ ys) (x ∷ xs) last rising (inr later) =
      let none = not_found_below y.number (x ∷ xs) (part_all (λ (a : Arrival L). y.number < a.number) (x ∷ xs) ys later (above y.number ys last rising.1)) in
      ap (λ o. cons_option o (filter_map (found_by (x ∷ xs)) (looks_of lease ys))) none ∙ goes_over y.number ys (x ∷ xs) last rising.1 later

  -- nor does it change that they showed what the leases show
  move : (x : Arrival L) (xs ys : List (Arrival L)) → All (λ (a : Arrival L). x.number < a.number) ys
      → All (IsFoundDrawn lease xs) (looks_of lease ys) → All (IsFoundDrawn lease (x ∷ xs)) (looks_of lease ys)
  move x xs [] all drawn = All-nil (IsFoundDrawn lease (x ∷ xs))
  move x xs (y ∷ ys) all drawn =
      let more = All-head (λ (a : Arrival L). x.number < a.number) y ys all in
      All-cons (IsFoundDrawn lease (x ∷ xs)) (looks_at lease y) (looks_of lease ys)
      (rw (ne_eqb x.number y.number (λ e. omega (arith, more, e))) (All-head (IsFoundDrawn lease xs) (looks_at lease y) (looks_of lease ys) drawn))
      (move x xs ys (All-tail (λ (a : Arrival L). x.number < a.number) y ys all) (All-tail (IsFoundDrawn lease xs) (looks_at lease y) (looks_of lease ys) drawn))

  -- each look showed what the leases show of the transaction that it finds
  found_drawn : (n : ℕ) (looked pending : List (Arrival L)) (last : ℕ) → IsRisingFrom n looked last → IsPart pending looked
      → All (IsFoundDrawn lease pending) (looks_of lease looked)
  found_drawn n [] pending last rising part = All-nil (IsFoundDrawn lease pending)
  found_drawn n (y ∷ ys) [] last rising part =
      All-cons (IsFoundDrawn lease []) (looks_at lease y) (looks_of lease ys) tt (found_drawn y.number ys [] last rising.1 tt)
  found_drawn n (y ∷ ys) (x ∷ xs) last rising (inl same) =
      let all = subst (λ (k : ℕ). All (λ (a : Arrival L). k < a.number) ys) (ap (λ (a : Arrival L). a.number) (sym same.0)) (above y.number ys last rising.1) in
      All-cons (IsFoundDrawn lease (x ∷ xs)) (looks_at lease y) (looks_of lease ys)
      (rw (eq-eqb x.number y.number (ap (λ (a : Arrival L). a.number) same.0))
      (ap (λ (a : Arrival L). map (λ (b : Buffer L). lease.shown b.lease) a.txn.buffers) (sym same.0)))
      (move x xs ys all (found_drawn y.number ys xs last rising.1 same.1))
  found_drawn n (y ∷ ys) (x ∷ xs) last rising (inr later) =
      let none = not_found_below y.number (x ∷ xs) (part_all (λ (a : Arrival L). y.number < a.number) (x ∷ xs) ys later (above y.number ys last rising.1)) in
      All-cons (IsFoundDrawn lease (x ∷ xs)) (looks_at lease y) (looks_of lease ys)
      (subst (λ o. IfSome o (λ (a : Arrival L). (looks_at lease y).drawn ≡ map (λ (b : Buffer L). lease.shown b.lease) a.txn.buffers)) (sym none) tt)
      (found_drawn y.number ys (x ∷ xs) last rising.1 later)

  pub all_drawn : (looks : List Looks) (pending : List (Arrival L)) → AreLooks lease looks pending → All (IsFoundDrawn lease pending) looks
  all_drawn looks pending are = subst (All (IsFoundDrawn lease pending)) (sym are.same) (found_drawn 0 are.looked pending are.last are.rising are.part)

  -- what the looks tell is all that waits
  pub told_all : (seen : Seen) (expected : ℕ) (facts : FactsOf) (looks : List Looks) (pending : List (Arrival L)) → AreLooks lease looks pending
      → filter_map (told_by lease.shown seen expected facts pending) looks ≡ held_of lease.shown seen expected facts pending
  told_all seen expected facts looks pending are =
      composed (found_by pending) (told_in lease.shown seen expected facts pending) looks
      ∙ ap (filter_map (told_in lease.shown seen expected facts pending))
      (ap (filter_map (found_by pending)) are.same ∙ goes_over 0 are.looked pending are.last are.rising are.part)

  -- a look at a lower number more changes nothing of what was looked at
  more_looks : (look : Looks) (rest : List Looks) (xs : List (Arrival L)) → All (λ (a : Arrival L). look.number < a.number) xs
      → All (IsLookedAt lease.shown rest) xs → All (IsLookedAt lease.shown (look ∷ rest)) xs
  more_looks look rest [] all looked = All-nil (IsLookedAt lease.shown (look ∷ rest))
  more_looks look rest (x ∷ xs) all looked =
      let less = All-head (λ (a : Arrival L). look.number < a.number) x xs all in
      All-cons (IsLookedAt lease.shown (look ∷ rest)) x xs
      (record { same = rw (ne_eqb look.number x.number (λ e. omega (arith, less, e))) (All-head (IsLookedAt lease.shown rest) x xs looked).same })
      (more_looks look rest xs (All-tail (λ (a : Arrival L). look.number < a.number) x xs all) (All-tail (IsLookedAt lease.shown rest) x xs looked))

  all_looked : (n : ℕ) (looked : List (Arrival L)) (last : ℕ) → IsRisingFrom n looked last → All (IsLookedAt lease.shown (looks_of lease looked)) looked
  all_looked n [] last rising = All-nil (IsLookedAt lease.shown [])
  all_looked n (x ∷ xs) last rising =
      All-cons (IsLookedAt lease.shown (looks_of lease (x ∷ xs))) x xs (record { same = rw (eq-eqb x.number x.number refl) refl })
      (more_looks (looks_at lease x) (looks_of lease xs) xs (above x.number xs last rising.1) (all_looked x.number xs last rising.1))

  -- what is pending was looked at
  pub looked_at : (looks : List Looks) (pending : List (Arrival L)) → AreLooks lease looks pending → All (IsLookedAt lease.shown looks) pending
  looked_at looks pending are =
      part_all (IsLookedAt lease.shown looks) pending are.looked are.part
      (subst (λ (l : List Looks). All (IsLookedAt lease.shown l) are.looked) (sym are.same) (all_looked 0 are.looked are.last are.rising))

  -- looks leave the numbers as they are
  pub looked_rise : (n : ℕ) (old new : List (Arrival L)) (last : ℕ) → AllZip (IsLookedArrival lease) old new → IsRisingFrom n old last
      → IsRisingFrom n new last
  looked_rise n [] [] last zip rising = rising
  looked_rise n [] (y ∷ ys) last zip rising = absurd zip
  looked_rise n (x ∷ xs) [] last zip rising = absurd zip
  looked_rise n (x ∷ xs) (y ∷ ys) last zip rising =
      let number = sym zip.0.number in (
        subst (λ (k : ℕ). n < k) number rising.0,
        subst (λ (k : ℕ). IsRisingFrom k ys last) number (looked_rise x.number xs ys last zip.1 rising.1),
      )

  -- the looks are those at what was pending when they were made, and a commit keeps that
  pub looks_begin : (pending : List (Arrival L)) (last : ℕ) → IsRisingFrom 0 pending last → AreLooks lease (looks_of lease pending) pending
  looks_begin pending last rising = record { looked = pending; last = last; same = refl; rising = rising; part = part_same pending }

  pub looks_left : (t : Arrival L → Bool) (looks : List Looks) (pending : List (Arrival L)) → AreLooks lease looks pending
      → AreLooks lease looks (without_first t pending)
  looks_left t looks pending are =
      record { looked = are.looked; last = are.last; same = are.same; rising = are.rising; part = part_left t pending are.looked are.part }

  -- it holds along all commits
  pub looks_along : (drawn : L → Bool) (seen : Seen) (expected : ℕ) (looks : List Looks) (r end : Round L) (taken : List (Arrival L))
      → Leads drawn seen expected r taken end → AreLooks lease looks r.pending → AreLooks lease looks end.pending
  looks_along drawn seen expected looks r end [] leads are = subst (λ (x : Round L). AreLooks lease looks x.pending) (sym leads) are
  looks_along drawn seen expected looks r end (a ∷ later) leads are =
      looks_along drawn seen expected looks (committed r a) end later leads.1 (looks_left (is_of a.txn.token) looks r.pending are)

  -- and to the end of the deciding
  pub looks_stay : (seen : Seen) (expected : ℕ) (looks : List Looks) (begun : Round L) (stage : StageOf L) (pending : List (Arrival L)) (facts : FactsOf)
      → Comes lease.shown seen expected begun stage pending facts → AreLooks lease looks begun.pending → AreLooks lease looks pending
  looks_stay seen expected looks begun stage pending facts comes are =
      subst (AreLooks lease looks) (sym comes.state.waits)
      (looks_along lease.shown seen expected looks begun comes.end comes.decided.taken comes.decided.leads are)

module _ {L : Type 0} (drawn : L → Bool) (seen : Seen) (expected : ℕ) where
  -- the facts in memory tell what waits at the end of the deciding
  pub held_is : (stage : StageOf L) (pending : List (Arrival L)) (facts : FactsOf) (r : Round L) → IsState stage pending facts r
      → held_of drawn seen expected facts pending ≡ held drawn seen expected r
  held_is stage pending facts r state =
      let same = λ (a : Arrival L). hold_same a.txn (map (λ (b : Buffer L). drawn b.lease) a.txn.buffers) facts (facts_of r) seen expected state.same in
      (λ i. filter_map (λ (a : Arrival L). option_map (λ h. (a.number, h)) (if is_first pending a then same a i else Some hold.Behind)) pending)
      ∙ ap (held_of drawn seen expected (facts_of r)) state.waits

-- What a caller sent, and the calls on the arrivals that put it there.
use Rattle.std.proofs.Common.{◌≡◌, ℕ, zero, suc, ◌+◌, ◌<◌, ◌≤◌, ◌==◌, ◌⊎◌, true, false, List, [], ◌∷◌, ◌++◌, arith, ap, ◌∙◌, sym, refl, inl, inr, length, filter, Some}
use Rattle.std.specs.Prelude.{if◌then◌else◌, nat_le, slice_get}
use Rattle.std.proofs.lemmas.Bool.{cases_Bool, cases_lt, eq-eqb, eqb-true, le-leb, leb-true}
use Rattle.std.proofs.lemmas.List.{append-nil, append_assoc, length-append, map-append}
use Rattle.std.proofs.lemmas.List.Elements.{filter-append}
use Rattle.law_draws.specs.sf_calls.declared.object.Entry.{Entry}
use Rattle.law_draws.specs.sf_calls.Histories.{calls_by}
use Rattle.law_draws.specs.sf_surface.Tokens.{ReadLeaseOf}
use Rattle.law_draws.specs.sf_token.Arrivals.{is_take, sent}
use Rattle.law_draws.specs.sf_token.declared.arrivals.ArriveCall.TheVariants as arrive
use Rattle.law_draws.specs.sf_token.Pending.{Arrival}
use Rattle.law_draws.specs.sf_txn.Transactions.{Contents}
use Rattle.law_draws.specs.sf_actor.Known.{ArriveWithout, arrivals_told, is_sent_by}
use Rattle.law_draws.proofs.sf_actor_lemmas.GoingOn.{own_arrivals}
use Rattle.sf_live_compositor.specs.sf_live_seats.Arriving.{ArrivalCalls, Arrived, Arriving}
use Rattle.law_threads.proofs.CallCounts.{mine_more, others_mine}
use Rattle.law_threads.specs.Members.{bit, mine}

-- what a caller sent of these, in order, without their places
abbrev pub sent_own : ℕ → List (Arrival ReadLeaseOf) → List (Arrival ReadLeaseOf)
sent_own by arrivals = arrivals_told false (filter (is_sent_by by) arrivals)

-- it, without its place
abbrev pub unnumbered : Arrival ReadLeaseOf → Arrival ReadLeaseOf
unnumbered arrived = record arrived { number = 0 }

pub own_joined : (by : ℕ) (xs ys : List (Arrival ReadLeaseOf)) → sent_own by (xs ++ ys) ≡ sent_own by xs ++ sent_own by ys
own_joined by xs ys = ap (arrivals_told false) (filter-append (is_sent_by by) xs ys) ∙ map-append unnumbered (filter (is_sent_by by) xs) (filter (is_sent_by by) ys)

-- arrivals that go on without the caller have none more of it
pub own_without : (by : ℕ) (old new : List (Arrival ReadLeaseOf)) → ArriveWithout by old new → sent_own by new ≡ sent_own by old
own_without by old new goes = ap (sent_own by) goes.joined ∙ ap (arrivals_told false) (own_arrivals by old goes.later goes.none)

pub own_more : (by : ℕ) (earlier : List (Arrival ReadLeaseOf)) (a : Arrival ReadLeaseOf) → a.actor.0 ≡ by → sent_own by (earlier ++ a ∷ []) ≡ sent_own by earlier ++ unnumbered a ∷ []
own_more by earlier a own = own_joined by earlier (a ∷ []) ∙ ap (λ (xs : List (Arrival ReadLeaseOf)). sent_own by earlier ++ xs) (rw (eq-eqb a.actor.0 by own) refl)

-- no call of the caller takes
abbrev pub NoTakes : ℕ → ArrivalCalls → Type 0
NoTakes by [] = Unit {0}
NoTakes by (e ∷ earlier) = (is_take e.call ≡ true → e.by ≡ by → ⊥) × NoTakes by earlier

-- a call that sends
abbrev Sends : Entry Arriving Arrived → Type 0
Sends e = (step : ℕ) × (txn : Contents ReadLeaseOf) × (e.call ≡ arrive.Send step txn)

by_call : (c : Arriving) → ((step : ℕ) × (txn : Contents ReadLeaseOf) × (c ≡ arrive.Send step txn)) ⊎ (c ≡ arrive.Take)
by_call (arrive.Send step txn) = inl (step, txn, refl)
by_call arrive.Take = inr refl

abbrev arrival_of : (e : Entry Arriving Arrived) → Sends e → ArrivalCalls → Arrival ReadLeaseOf
arrival_of e sends earlier = record { number = length (sent earlier) + 1; actor = record { 0 = e.by }; step = sends.0; txn = sends.1 }

sent_send : (e : Entry Arriving Arrived) (sends : Sends e) (earlier : ArrivalCalls) → sent (e ∷ earlier) ≡ sent earlier ++ arrival_of e sends earlier ∷ []
sent_send e sends earlier = λ i. sent (record { by = e.by; call = sends.2 i; reply = e.reply } ∷ earlier)

sent_take : (e : Entry Arriving Arrived) (earlier : ArrivalCalls) → e.call ≡ arrive.Take → sent (e ∷ earlier) ≡ sent earlier
sent_take e earlier takes = (λ i. sent (record { by = e.by; call = takes i; reply = e.reply } ∷ earlier)) ∙ append-nil (sent earlier)

-- a call of another adds nothing of the caller's
sent_other : (by : ℕ) (e : Entry Arriving Arrived) (earlier : ArrivalCalls) → (e.by == by) ≡ false → sent_own by (sent (e ∷ earlier)) ≡ sent_own by (sent earlier)
sent_other by e earlier apart = by_one (by_call e.call)
  where
    by_one : (Sends e ⊎ (e.call ≡ arrive.Take)) → sent_own by (sent (e ∷ earlier)) ≡ sent_own by (sent earlier)
    by_one (inl sends) = ap (sent_own by) (sent_send e sends earlier) ∙ own_joined by (sent earlier) (arrival_of e sends earlier ∷ [])
        ∙ ap (λ (xs : List (Arrival ReadLeaseOf)). sent_own by (sent earlier) ++ xs) (rw apart refl) ∙ append-nil (sent_own by (sent earlier))
    by_one (inr takes) = ap (sent_own by) (sent_take e earlier takes)

-- a caller that takes nothing sends with each call
sends_one : (by : ℕ) (e : Entry Arriving Arrived) → (is_take e.call ≡ true → e.by ≡ by → ⊥) → e.by ≡ by → Sends e
sends_one by e none own = by_one (by_call e.call)
  where
    by_one : (Sends e ⊎ (e.call ≡ arrive.Take)) → Sends e
    by_one (inl sends) = sends
    by_one (inr takes) = absurd (none (ap is_take takes) own)

sent_by : (by : ℕ) (e : Entry Arriving Arrived) (sends : Sends e) (earlier : ArrivalCalls) → e.by ≡ by → sent_own by (sent (e ∷ earlier)) ≡ sent_own by (sent earlier) ++ unnumbered (arrival_of e sends earlier) ∷ []
sent_by by e sends earlier own = ap (sent_own by) (sent_send e sends earlier) ∙ own_more by (sent earlier) (arrival_of e sends earlier) own

-- it sent as much as it called
pub own_many : (by : ℕ) (calls : ArrivalCalls) → NoTakes by calls → length (sent_own by (sent calls)) ≡ length (calls_by by calls)
own_many by [] none = refl
own_many by (e ∷ earlier) none = by_caller (cases_Bool (e.by == by)) (own_many by earlier none.1)
  where
    by_caller : ((e.by == by) ≡ true) ⊎ ((e.by == by) ≡ false) → length (sent_own by (sent earlier)) ≡ length (calls_by by earlier) → length (sent_own by (sent (e ∷ earlier))) ≡ length (calls_by by (e ∷ earlier))
    by_caller (inl met) rest =
        let own = eqb-true e.by by met in
        let sends = sends_one by e none.0 own in
        let joined = ap (λ (xs : List (Arrival ReadLeaseOf)). length xs) (sent_by by e sends earlier own) ∙ length-append (sent_own by (sent earlier)) (unnumbered (arrival_of e sends earlier) ∷ []) in
        rw met (omega (arith, rest, joined))
    by_caller (inr unmet) rest = rw unmet (ap (λ (xs : List (Arrival ReadLeaseOf)). length xs) (sent_other by e earlier unmet) ∙ rest)

module _ {A : Type 0} where
  get_front : (xs ys : List A) (n : ℕ) → n < length xs → slice_get (xs ++ ys) n ≡ slice_get xs n
  get_front [] ys n low = absurd (omega (arith, low))
  get_front (x ∷ xs) ys zero low = refl
  get_front (x ∷ xs) ys (suc n) low = get_front xs ys n (omega (arith, low))

  get_last : (xs : List A) (x y : A) (n : ℕ) → length xs ≤ n → slice_get (xs ++ x ∷ []) n ≡ Some y → (x ≡ y) × (length xs ≡ n)
  get_last [] x y zero high got = (the got, refl)
    where
      the : Some x ≡ Some y → x ≡ y
      the same = cc
  get_last [] x y (suc n) high got = absurd (cc got)
  get_last (z ∷ xs) x y zero high got = absurd (omega (arith, high))
  get_last (z ∷ xs) x y (suc n) high got = let rest = get_last xs x y n (omega (arith, high)) got in (rest.0, ap suc rest.1)

-- the caller's call after so many others of it, which sent this
pub record IsOwn (by n : ℕ) (calls : ArrivalCalls) (one : Arrival ReadLeaseOf) : Type 0 where
  pub more : ArrivalCalls
  pub e : Entry Arriving Arrived
  pub history : ArrivalCalls
  pub is : calls ≡ more ++ e ∷ history
  pub own : e.by ≡ by
  pub sends : e.call ≡ arrive.Send one.step one.txn
  pub after : length (calls_by by history) ≡ n

own_behind : (by n : ℕ) (e : Entry Arriving Arrived) (earlier : ArrivalCalls) (one : Arrival ReadLeaseOf) → IsOwn by n earlier one → IsOwn by n (e ∷ earlier) one
own_behind by n e earlier one found = record {
  more = e ∷ found.more;
  e = found.e;
  history = found.history;
  is = ap (λ (calls : ArrivalCalls). e ∷ calls) found.is;
  own = found.own;
  sends = found.sends;
  after = found.after;
}

-- what a caller sent was put there by its call after as many others
pub find_own : (by n : ℕ) (calls : ArrivalCalls) (one : Arrival ReadLeaseOf) → NoTakes by calls → slice_get (sent_own by (sent calls)) n ≡ Some one → IsOwn by n calls one
find_own by n [] one none got = absurd (cc got)
find_own by n (e ∷ earlier) one none got = by_caller (cases_Bool (e.by == by)) (find_own by n earlier one none.1)
  where
    by_caller : ((e.by == by) ≡ true) ⊎ ((e.by == by) ≡ false) → (slice_get (sent_own by (sent earlier)) n ≡ Some one → IsOwn by n earlier one) → IsOwn by n (e ∷ earlier) one
    by_caller (inl met) further = by_place (cases_lt n (length (sent_own by (sent earlier))))
      where
        own : e.by ≡ by
        own = eqb-true e.by by met

        sends : Sends e
        sends = sends_one by e none.0 own

        got_there : slice_get (sent_own by (sent earlier) ++ unnumbered (arrival_of e sends earlier) ∷ []) n ≡ Some one
        got_there = ap (λ (xs : List (Arrival ReadLeaseOf)). slice_get xs n) (sym (sent_by by e sends earlier own)) ∙ got

        by_place : (n < length (sent_own by (sent earlier))) ⊎ (length (sent_own by (sent earlier)) ≤ n) → IsOwn by n (e ∷ earlier) one
        by_place (inl less) =
            own_behind by n e earlier one (further (sym (get_front (sent_own by (sent earlier)) (unnumbered (arrival_of e sends earlier) ∷ []) n less) ∙ got_there))
        by_place (inr over) =
            let last = get_last (sent_own by (sent earlier)) (unnumbered (arrival_of e sends earlier)) one n over got_there in
            record {
              more = [];
              e = e;
              history = earlier;
              is = refl;
              own = own;
              sends = sends.2 ∙ ap (λ (a : Arrival ReadLeaseOf). arrive.Send a.step a.txn) last.0;
              after = sym (own_many by earlier none.1) ∙ last.1;
            }
    by_caller (inr unmet) further = own_behind by n e earlier one (further (ap (λ (xs : List (Arrival ReadLeaseOf)). slice_get xs n) (sym (sent_other by e earlier unmet)) ∙ got))

-- the earliest of these calls, of which so many are the caller's
abbrev pub firsts : ℕ → ℕ → ArrivalCalls → ArrivalCalls
firsts by n [] = []
firsts by n (e ∷ earlier) = if nat_le (length (calls_by by (e ∷ earlier))) n then e ∷ earlier else firsts by n earlier

pub mine_firsts : (by place : ℕ) (more calls : ArrivalCalls) → mine by place (firsts by (length (calls_by by calls)) (more ++ calls)) ≡ mine by place calls
mine_firsts by place [] [] = refl
mine_firsts by place [] (e ∷ earlier) = rw (le-leb (length (calls_by by (e ∷ earlier))) (length (calls_by by (e ∷ earlier))) (omega arith)) refl
mine_firsts by place (m ∷ more) calls = by_many (cases_Bool (nat_le (length (calls_by by (m ∷ more ++ calls))) (length (calls_by by calls)))) (mine_firsts by place more calls)
  where
    by_many : (nat_le (length (calls_by by (m ∷ more ++ calls))) (length (calls_by by calls)) ≡ true) ⊎ (nat_le (length (calls_by by (m ∷ more ++ calls))) (length (calls_by by calls)) ≡ false)
        → mine by place (firsts by (length (calls_by by calls)) (more ++ calls)) ≡ mine by place calls → mine by place (firsts by (length (calls_by by calls)) (m ∷ more ++ calls)) ≡ mine by place calls
    by_many (inl met) rest = rw met (others_mine by place (m ∷ more) calls (leb-true (length (calls_by by (m ∷ more ++ calls))) (length (calls_by by calls)) met))
    by_many (inr unmet) rest = rw unmet rest

-- calls that came later are at other places
mine_low : (by place : ℕ) (more calls : ArrivalCalls) → place < length calls → mine by place (more ++ calls) ≡ mine by place calls
mine_low by place [] calls low = refl
mine_low by place (m ∷ more) calls low =
    let rest = mine_low by place more calls low in
    elim (cases_Bool (length (more ++ calls) == place)) [
      | inl met ↦ let same = eqb-true (length (more ++ calls)) place met in let long = length-append more calls in absurd (omega (arith, low, same, long))
      | inr unmet ↦ rw unmet (omega (arith, rest))
    ]

module _ (by n : ℕ) (calls : ArrivalCalls) (one : Arrival ReadLeaseOf) (found : IsOwn by n calls one) (place : ℕ) where
  own_after : length (calls_by by (found.e ∷ found.history)) ≡ n + 1
  own_after = let after = found.after in rw (eq-eqb found.e.by by found.own) (omega (arith, after))

  upto_it : mine by place (firsts by (n + 1) calls) ≡ mine by place (found.e ∷ found.history)
  upto_it =
      ap (λ (m : ℕ). mine by place (firsts by m calls)) (sym own_after) ∙ ap (λ (cs : ArrivalCalls). mine by place (firsts by (length (calls_by by (found.e ∷ found.history))) cs)) found.is
      ∙ mine_firsts by place found.more (found.e ∷ found.history)

  before_it : mine by place (firsts by n calls) ≡ mine by place found.history
  before_it =
      ap (λ (m : ℕ). mine by place (firsts by m calls)) (sym found.after)
      ∙ ap (λ (cs : ArrivalCalls). mine by place (firsts by (length (calls_by by found.history)) cs)) (found.is ∙ sym (append_assoc found.more (found.e ∷ []) found.history))
      ∙ mine_firsts by place (found.more ++ found.e ∷ []) found.history

  -- it is one more of the caller's first calls
  pub own_known : mine by place (firsts by (n + 1) calls) ≡ mine by place (firsts by n calls) + bit (length found.history == place)
  own_known =
      let a = upto_it in
      let b = before_it in
      let c = mine_more by place found.e found.history found.own in
      omega (arith, a, b, c)

  -- a call of the caller that is none of those is behind it
  pub own_first : mine by place (firsts by (n + 1) calls) < mine by place calls → length found.history < place
  own_first fewer = elim (cases_lt (length found.history) place) [
    | inl less ↦ less
    | inr over ↦
        let a = upto_it in
        let b = mine_low by place found.more (found.e ∷ found.history) (omega (arith, over)) in
        let c = ap (mine by place) found.is in
        absurd (omega (arith, fewer, a, b, c))
  ]

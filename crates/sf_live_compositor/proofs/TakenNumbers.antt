-- What a compositor takes has rising numbers, beyond all that it took before.
use Rattle.std.proofs.Common.{◌≡◌, ℕ, ◌+◌, ◌<◌, ◌≤◌, List, [], ◌∷◌, ◌++◌, length, arith, ap, sym, refl, subst}
use Rattle.std.proofs.lemmas.List.{length-append}
use Rattle.sf_live_threads.specs.sf_calls.declared.object.Entry.{Entry}
use Rattle.sf_live_threads.specs.sf_calls.Histories.{Begins}
use Rattle.sf_live_threads.specs.sf_surface.Tokens.{ReadLeaseOf}
use Rattle.sf_live_threads.specs.sf_token.Arrivals.{arrival, sent, waiting}
use Rattle.sf_live_threads.specs.sf_token.Pending.{Arrival, IsRisingFrom}
use Rattle.sf_live_threads.specs.sf_token.declared.arrivals.ArriveCall.TheVariants as arrive
use Rattle.sf_live_threads.specs.sf_commit.Handlers.{last_of}
use Rattle.sf_live_threads.specs.sf_actor.Plain.{taken_in}
use Rattle.sf_live_threads.specs.sf_calls_stamped.Stamps.{unstamped}
use Rattle.sf_live_threads.specs.sf_live_seats.Arriving.{ArrivalCalls, ArrivalsPass, Arrived, Arriving}
use Rattle.sf_live_threads.specs.sf_live_seats.Calls.{TookOne}

module _ {L : Type 0} where
  -- one more arrival with a greater number
  one_more : (before : ℕ) (list : List (Arrival L)) (one : Arrival L) → IsRisingFrom before list (last_of before list) → last_of before list < one.number
      → IsRisingFrom before (list ++ one ∷ []) (last_of before (list ++ one ∷ [])) × (last_of before (list ++ one ∷ []) ≡ one.number)
  one_more before [] one rising less = ((less, omega arith), refl)
  one_more before (a ∷ list) one rising less =
      let rest = one_more a.number list one rising.1 less in
      ((rising.0, rest.0), rest.1)

-- the numbers of what waits rise, up to the count of all that was sent
record RisesFrom (before : ℕ) (calls : ArrivalCalls) : Type 0 where
  rising : IsRisingFrom before (waiting calls) (last_of before (waiting calls))
  last : last_of before (waiting calls) ≤ length (sent calls)

sent_more : (e : Entry Arriving Arrived) (calls : ArrivalCalls) → length (sent calls) ≤ length (sent (e ∷ calls))
sent_more e calls = (let sum = length-append (sent calls) (arrival (length (sent calls) + 1) e) in omega (arith, sum))

rises_more : (before : ℕ) (e : Entry Arriving Arrived) (earlier : ArrivalCalls) → before ≤ taken_in (e ∷ earlier) → (before ≤ taken_in earlier → RisesFrom before earlier) → RisesFrom before (e ∷ earlier)
rises_more before e earlier low rest = by_call e.call refl
  where
    by_call : (asked : Arriving) → e.call ≡ asked → RisesFrom before (e ∷ earlier)
    by_call (arrive.Send step txn) is =
        let before_low : before ≤ taken_in earlier = rw is at low in
        let rises = rest before_low in
        let one : Arrival ReadLeaseOf = record { number = length (sent earlier) + 1; actor = record { 0 = e.by }; step = step; txn = txn } in
        let last = rises.last in
        let more = one_more before (waiting earlier) one rises.rising (omega (arith, last)) in
        rw is (record {
          rising = more.0;
          last = (let number = more.1 in let sum = length-append (sent earlier) (one ∷ []) in omega (arith, number, sum));
        })
    by_call arrive.Take is =
        let before_low : before ≤ length (sent earlier) = rw is at low in
        rw is (record { rising = omega arith; last = (let sum = length-append (sent earlier) [] in omega (arith, sum, before_low)) })

waits_rising : (before : ℕ) (calls : ArrivalCalls) → before ≤ taken_in calls → RisesFrom before calls
waits_rising before [] low = record { rising = omega arith; last = omega (arith, low) }
waits_rising before (e ∷ earlier) low = rises_more before e earlier low (waits_rising before earlier)

low_more : (e : Entry Arriving Arrived) (earlier : ArrivalCalls) → taken_in earlier ≤ length (sent earlier) → taken_in (e ∷ earlier) ≤ length (sent (e ∷ earlier))
low_more e earlier rest = by_call e.call refl
  where
    by_call : (asked : Arriving) → e.call ≡ asked → taken_in (e ∷ earlier) ≤ length (sent (e ∷ earlier))
    by_call (arrive.Send step txn) is = (let more = sent_more e earlier in let same : taken_in (e ∷ earlier) ≡ taken_in earlier = rw is refl in omega (arith, rest, more, same))
    by_call arrive.Take is = (let more = sent_more e earlier in let same : taken_in (e ∷ earlier) ≡ length (sent earlier) = rw is refl in omega (arith, more, same))

taken_low : (calls : ArrivalCalls) → taken_in calls ≤ length (sent calls)
taken_low [] = omega arith
taken_low (e ∷ earlier) = low_more e earlier (taken_low earlier)

taken_more : (e : Entry Arriving Arrived) (calls : ArrivalCalls) → taken_in calls ≤ taken_in (e ∷ calls)
taken_more e calls = by_call e.call refl
  where
    by_call : (asked : Arriving) → e.call ≡ asked → taken_in calls ≤ taken_in (e ∷ calls)
    by_call (arrive.Send step txn) is = rw is (omega arith)
    by_call arrive.Take is = (let low = taken_low calls in rw is (omega (arith, low)))

taken_joined : (more calls : ArrivalCalls) → taken_in calls ≤ taken_in (more ++ calls)
taken_joined [] calls = omega arith
taken_joined (e ∷ more) calls = (let rest = taken_joined more calls in let one = taken_more e (more ++ calls) in omega (arith, rest, one))

-- more is taken as calls go on
taken_on : (old new : ArrivalCalls) → Begins old new → taken_in old ≤ taken_in new
taken_on old new begins = subst (λ (calls : ArrivalCalls). taken_in old ≤ taken_in calls) (sym begins.1) (taken_joined begins.0 old)

-- what was taken through a pass
pub record TakesRising (last : ℕ) (new : ArrivalsPass) (list : List (Arrival ReadLeaseOf)) : Type 0 where
  pub rising : IsRisingFrom last list (last_of last list)
  pub known : last_of last list ≤ taken_in (unstamped new.seen)

pub take_rises : (last : ℕ) (old new : ArrivalsPass) (list : List (Arrival ReadLeaseOf)) → TookOne old new list → last ≤ taken_in (unstamped old.seen) → TakesRising last new list
take_rises last old new list took known =
    let more = taken_on (unstamped old.seen) took.earlier took.goes_on.begins in
    let rises = waits_rising last took.earlier (omega (arith, known, more)) in
    record {
      rising = subst (λ (xs : List (Arrival ReadLeaseOf)). IsRisingFrom last xs (last_of last xs)) (sym took.waits) rises.rising;
      known =
          subst (λ (n : ℕ). last_of last list ≤ n) (sym (ap taken_in took.newest))
          (subst (λ (xs : List (Arrival ReadLeaseOf)). last_of last xs ≤ length (sent took.earlier)) (sym took.waits) rises.last);
    }

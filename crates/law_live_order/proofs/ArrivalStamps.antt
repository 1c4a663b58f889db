-- A number for each arrival of a run in threads: the stamp of the call that put it there, and greater ones for those that never were.
use Rattle.std.proofs.Common.{◌≡◌, ℕ, suc, ◌+◌, ◌-◌, ◌<◌, ◌≤◌, ◌&&◌, Bool, true, false, not, List, [], ◌∷◌, ◌++◌, length, get_or, Some, slice_get, refl, ap, ◌∙◌, sym, inl, inr, subst, arith}
use Rattle.std.specs.Prelude.{◌⊎◌, if◌then◌else◌, nat_lt}
use Rattle.std.proofs.lemmas.Bool.{cases_lt}
use Rattle.std.proofs.lemmas.Bool.Decides.{nat_tests}
use Rattle.std.proofs.lemmas.List.{append-nil, get_or-append_right, get_or_append_left, length-append}
use Rattle.std.proofs.lemmas.Option.{get_or_from_slice_get, slice_get_read, slice_get_within}
use Rattle.law_threads.specs.sf_calls_stamped.Stamps.{StampsRise, newest_stamp, stamp_of, unstamped}
use Rattle.law_threads.specs.sf_live_seats.Arriving.{ArrivalEntry, Arriving}
use Rattle.law_threads.specs.sf_surface.Tokens.{ReadLeaseOf}
use Rattle.law_threads.specs.sf_token.Arrivals.{is_take, sent}
use Rattle.law_threads.specs.sf_token.Pending.{Arrival}
use Rattle.law_threads.specs.sf_token.declared.arrivals.ArriveCall.TheVariants as arrive
use Rattle.law_threads.specs.sf_txn.Transactions.{Contents}

-- how many transactions these calls sent
abbrev pub many_sent : List ArrivalEntry → ℕ
many_sent seen = length (sent (unstamped seen))

abbrev pub arrival_stamp : List ArrivalEntry → ℕ → ℕ
arrival_stamp [] n = n
arrival_stamp (e ∷ earlier) n =
    if not (is_take e.call.1) && nat_lt (many_sent earlier) n then stamp_of e + (n - (many_sent earlier + 1)) else arrival_stamp earlier n

-- a call sends, or it takes
pub record IsSend (e : ArrivalEntry) : Type 0 where
  pub step : ℕ
  pub txn : Contents ReadLeaseOf
  pub sends : e.call.1 ≡ arrive.Send step txn

send_or_take : (e : ArrivalEntry) → IsSend e ⊎ (e.call.1 ≡ arrive.Take)
send_or_take e = by_call e.call.1 refl
  where
    by_call : (asked : Arriving) → e.call.1 ≡ asked → IsSend e ⊎ (e.call.1 ≡ arrive.Take)
    by_call (arrive.Send step txn) is = inl (record { step = step; txn = txn; sends = is })
    by_call arrive.Take is = inr is

-- the same call, with what it asks in its place
abbrev asking : ArrivalEntry → Arriving → ArrivalEntry
asking e asked = record { by = e.by; call = (e.call.0, asked); reply = e.reply }

many_send : (e : ArrivalEntry) (earlier : List ArrivalEntry) → IsSend e → many_sent (e ∷ earlier) ≡ many_sent earlier + 1
many_send e earlier is =
    subst (λ (asked : Arriving). many_sent (asking e asked ∷ earlier) ≡ many_sent earlier + 1) (sym is.sends)
    (length-append (sent (unstamped earlier)) (record { number = many_sent earlier + 1; actor = record { 0 = e.by }; step = is.step; txn = is.txn } ∷ []))

many_take : (e : ArrivalEntry) (earlier : List ArrivalEntry) → e.call.1 ≡ arrive.Take → many_sent (e ∷ earlier) ≡ many_sent earlier
many_take e earlier is =
    subst (λ (asked : Arriving). many_sent (asking e asked ∷ earlier) ≡ many_sent earlier) (sym is) (ap (λ (xs : List (Arrival ReadLeaseOf)). length xs) (append-nil (sent (unstamped earlier))))

-- the number of what comes behind all that was sent before
last_stamp : (e : ArrivalEntry) (earlier : List ArrivalEntry) → IsSend e → (n : ℕ) → many_sent earlier < n → arrival_stamp (e ∷ earlier) n ≡ stamp_of e + (n - (many_sent earlier + 1))
last_stamp e earlier is n over =
    let t : nat_lt (many_sent earlier) n ≡ true = grind (arith, nat_tests, over) in
    subst (λ (asked : Arriving). arrival_stamp (asking e asked ∷ earlier) n ≡ stamp_of e + (n - (many_sent earlier + 1))) (sym is.sends) (rw t refl)

no_and : (a b : Bool) → b ≡ false → (a && b) ≡ false
no_and true b none = none
no_and false b none = refl

older_stamp : (e : ArrivalEntry) (earlier : List ArrivalEntry) (n : ℕ) → n ≤ many_sent earlier → arrival_stamp (e ∷ earlier) n ≡ arrival_stamp earlier n
older_stamp e earlier n low =
    let t : nat_lt (many_sent earlier) n ≡ false = grind (arith, nat_tests, low) in
    rw (no_and (not (is_take e.call.1)) (nat_lt (many_sent earlier) n) t) refl

take_same : (e : ArrivalEntry) (earlier : List ArrivalEntry) (n : ℕ) → e.call.1 ≡ arrive.Take → arrival_stamp (e ∷ earlier) n ≡ arrival_stamp earlier n
take_same e earlier n is = subst (λ (asked : Arriving). arrival_stamp (asking e asked ∷ earlier) n ≡ arrival_stamp earlier n) (sym is) refl

-- what was sent has no greater number than the newest stamp
pub sent_low : (seen : List ArrivalEntry) → StampsRise seen → (n : ℕ) → n ≤ many_sent seen → arrival_stamp seen n ≤ newest_stamp seen
sent_low [] rise n low = low
sent_low (e ∷ earlier) rise n low = elim (cases_lt (many_sent earlier) n) [
  | inr under ↦
      let rest = sent_low earlier rise.2 n under in
      let same = older_stamp e earlier n under in
      let above = rise.1 in
      omega (arith, rest, same, above)
  | inl over ↦ elim (send_or_take e) [
    | inl sends ↦
        let same = last_stamp e earlier sends n over in
        let many = many_send e earlier sends in
        omega (arith, same, many, low, over)
    | inr takes ↦ let many = many_take e earlier takes in absurd (omega (arith, many, low, over))
  ]
]

-- the numbers rise
pub sent_rises : (seen : List ArrivalEntry) → StampsRise seen → (n m : ℕ) → n < m → arrival_stamp seen n < arrival_stamp seen m
sent_rises [] rise n m less = less
sent_rises (e ∷ earlier) rise n m less = elim (send_or_take e) [
  | inr takes ↦
      let one = take_same e earlier n takes in
      let two = take_same e earlier m takes in
      let rest = sent_rises earlier rise.2 n m less in
      omega (arith, one, two, rest)
  | inl sends ↦ elim (cases_lt (many_sent earlier) m) [
    | inr under ↦
        let one = older_stamp e earlier n (omega (arith, less, under)) in
        let two = older_stamp e earlier m under in
        let rest = sent_rises earlier rise.2 n m less in
        omega (arith, one, two, rest)
    | inl over ↦
        let two = last_stamp e earlier sends m over in
        elim (cases_lt (many_sent earlier) n) [
          | inl over_too ↦ let one = last_stamp e earlier sends n over_too in omega (arith, one, two, less, over_too)
          | inr under ↦
              let one = older_stamp e earlier n under in
              let most = sent_low earlier rise.2 n under in
              let above = rise.1 in
              omega (arith, one, two, most, above)
        ]
  ]
]

-- more calls leave the numbers of what was sent before
pub many_more : (more seen : List ArrivalEntry) → many_sent seen ≤ many_sent (more ++ seen)
many_more [] seen = omega arith
many_more (e ∷ more) seen = let rest = many_more more seen in elim (send_or_take e) [
  | inl sends ↦ let many = many_send e (more ++ seen) sends in omega (arith, rest, many)
  | inr takes ↦ let many = many_take e (more ++ seen) takes in omega (arith, rest, many)
]

pub stamp_stays : (more seen : List ArrivalEntry) (n : ℕ) → n ≤ many_sent seen → arrival_stamp (more ++ seen) n ≡ arrival_stamp seen n
stamp_stays [] seen n low = refl
stamp_stays (e ∷ more) seen n low = let many = many_more more seen in older_stamp e (more ++ seen) n (omega (arith, low, many)) ∙ stamp_stays more seen n low

-- what a call sent
abbrev sent_last : (e : ArrivalEntry) (earlier : List ArrivalEntry) → IsSend e → Arrival ReadLeaseOf
sent_last e earlier is = record { number = many_sent earlier + 1; actor = record { 0 = e.by }; step = is.step; txn = is.txn }

-- the call that sent what arrived at a place
pub record IsSentAt (seen : List ArrivalEntry) (place : ℕ) (arrived : Arrival ReadLeaseOf) : Type 0 where
  pub more : List ArrivalEntry
  pub e : ArrivalEntry
  pub earlier : List ArrivalEntry
  pub is : seen ≡ more ++ e ∷ earlier
  pub by : e.by ≡ arrived.actor.0
  pub txn : Contents ReadLeaseOf
  pub sends : e.call.1 ≡ arrive.Send arrived.step txn
  pub many : many_sent earlier ≡ place

none_sent : (place : ℕ) (arrived : Arrival ReadLeaseOf) → slice_get [] place ≡ Some arrived → ⊥
none_sent place arrived got = let within = slice_get_within [] place arrived got in omega (arith, within)

pub sent_at : (seen : List ArrivalEntry) (place : ℕ) (arrived : Arrival ReadLeaseOf) → slice_get (sent (unstamped seen)) place ≡ Some arrived → IsSentAt seen place arrived
sent_at [] place arrived got = absurd (none_sent place arrived got)
sent_at (e ∷ earlier) place arrived got = elim (cases_lt place (many_sent earlier)) [
  | inl low ↦ older (sent_at earlier place arrived (elim (send_or_take e) [
    | inl sends ↦ inside low sends
    | inr takes ↦ ap (λ (xs : List (Arrival ReadLeaseOf)). slice_get xs place) (sym (taken takes)) ∙ got
  ]))
  | inr high ↦ elim (send_or_take e) [
    | inl sends ↦ newest high sends
    | inr takes ↦ let within = slice_get_within (sent (unstamped (e ∷ earlier))) place arrived got in let many = many_take e earlier takes in absurd (omega (arith, within, many, high))
  ]
]
  where
    older : IsSentAt earlier place arrived → IsSentAt (e ∷ earlier) place arrived
    older at = record { more = e ∷ at.more; e = at.e; earlier = at.earlier; is = ap (λ (es : List ArrivalEntry). e ∷ es) at.is; by = at.by; txn = at.txn; sends = at.sends; many = at.many }

    taken : e.call.1 ≡ arrive.Take → sent (unstamped (e ∷ earlier)) ≡ sent (unstamped earlier)
    taken is = subst (λ (asked : Arriving). sent (unstamped (asking e asked ∷ earlier)) ≡ sent (unstamped earlier)) (sym is) (append-nil (sent (unstamped earlier)))

    joined : (is : IsSend e) → sent (unstamped (e ∷ earlier)) ≡ sent (unstamped earlier) ++ sent_last e earlier is ∷ []
    joined is = subst (λ (asked : Arriving). sent (unstamped (asking e asked ∷ earlier)) ≡ sent (unstamped earlier) ++ sent_last e earlier is ∷ []) (sym is.sends) refl

    inside : place < many_sent earlier → IsSend e → slice_get (sent (unstamped earlier)) place ≡ Some arrived
    inside low is =
        let all : slice_get (sent (unstamped earlier) ++ sent_last e earlier is ∷ []) place ≡ Some arrived = ap (λ (xs : List (Arrival ReadLeaseOf)). slice_get xs place) (sym (joined is)) ∙ got in
        slice_get_read (sent (unstamped earlier)) (many_sent earlier) place arrived refl low
        (sym (sym (get_or_append_left (sent (unstamped earlier)) (sent_last e earlier is ∷ []) arrived place low) ∙ get_or_from_slice_get (sent (unstamped earlier) ++ sent_last e earlier is ∷ []) place arrived arrived all))

    newest : many_sent earlier ≤ place → IsSend e → IsSentAt (e ∷ earlier) place arrived
    newest high is =
        let all : slice_get (sent (unstamped earlier) ++ sent_last e earlier is ∷ []) place ≡ Some arrived = ap (λ (xs : List (Arrival ReadLeaseOf)). slice_get xs place) (sym (joined is)) ∙ got in
        let within = slice_get_within (sent (unstamped earlier) ++ sent_last e earlier is ∷ []) place arrived all in
        let long = length-append (sent (unstamped earlier)) (sent_last e earlier is ∷ []) in
        let here : place ≡ many_sent earlier = omega (arith, high, within, long) in
        let none : place - many_sent earlier ≡ 0 = omega (arith, here) in
        let same : sent_last e earlier is ≡ arrived =
        sym (get_or-append_right (sent (unstamped earlier)) (sent_last e earlier is ∷ []) (many_sent earlier) place arrived refl high ∙ ap (λ (i : ℕ). get_or (sent_last e earlier is ∷ []) i arrived) none)
        ∙ get_or_from_slice_get (sent (unstamped earlier) ++ sent_last e earlier is ∷ []) place arrived arrived all in
        record {
          more = [];
          e = e;
          earlier = earlier;
          is = refl;
          by = ap (λ (a : Arrival ReadLeaseOf). a.actor.0) same;
          txn = is.txn;
          sends = is.sends ∙ ap (λ (n : ℕ). arrive.Send n is.txn) (ap (λ (a : Arrival ReadLeaseOf). a.step) same);
          many = sym here;
        }

-- its number is its stamp
pub stamp_sent : (seen : List ArrivalEntry) (place : ℕ) (arrived : Arrival ReadLeaseOf) (at : IsSentAt seen place arrived) → arrival_stamp seen (suc place) ≡ stamp_of at.e
stamp_sent seen place arrived at =
    let many = at.many in
    let sends : IsSend at.e = record { step = arrived.step; txn = at.txn; sends = at.sends } in
    let all = many_send at.e at.earlier sends in
    let over : many_sent at.earlier < suc place = omega (arith, many) in
    let here = last_stamp at.e at.earlier sends (suc place) over in
    let whole : arrival_stamp seen (suc place) ≡ arrival_stamp (at.more ++ at.e ∷ at.earlier) (suc place) = ap (λ (es : List ArrivalEntry). arrival_stamp es (suc place)) at.is in
    let stays = stamp_stays at.more (at.e ∷ at.earlier) (suc place) (omega (arith, many, all)) in
    let whole_is = whole ∙ stays in
    omega (arith, whole_is, here, many)

-- What was sent is what was taken, and what waits; its numbers are those from 1 on.
use Rattle.std.proofs.Common.{◌≡◌, ℕ, zero, suc, ◌+◌, ◌<◌, ◌≤◌, List, [], ◌∷◌, ◌++◌, length, map, take, refl, ap, ◌∙◌, sym, subst, arith, append_assoc, add-zero}
use Rattle.std.proofs.lemmas.List.{append-nil, length-append}
use Rattle.std.specs.List.{range_with_len}
use Rattle.sf_commit.specs.sf_calls.Histories.{entry}
use Rattle.sf_commit.specs.Handlers.{last_of}
use Rattle.sf_actor_steps.specs.sf_surface.Tokens.{Issued, ReadLeaseOf}
use Rattle.sf_commit.specs.sf_token.Arrivals.{Calls, sent, waiting}
use Rattle.sf_commit.specs.sf_token.Pending.{Arrival, IsRisingFrom}
use Rattle.sf_commit.specs.sf_token.declared.arrivals.ArriveCall.{ArriveCall}
use Rattle.sf_commit.specs.sf_token.declared.arrivals.ArriveCall.TheVariants as call
use Rattle.sf_commit.specs.sf_token.declared.arrivals.ArriveReply.{ArriveReply}
use Rattle.sf_actor_steps.specs.sf_turns.Views.{SeatView}
use Rattle.sf_actor_steps.specs.sf_actor.Plain.{taken_in}

abbrev pub Sent : Type 0
Sent = List (Arrival ReadLeaseOf)

abbrev pub ArrivalCalls : Type 0
ArrivalCalls = Calls ReadLeaseOf SeatView ReadLeaseOf Issued

take_front : (xs ys : Sent) → take (length xs) (xs ++ ys) ≡ xs
take_front [] ys = refl
take_front (x ∷ xs) ys = ap (λ (zs : Sent). x ∷ zs) (take_front xs ys)

-- what was taken, so many of the first that were sent, and what waits behind it
record Parts (calls : ArrivalCalls) : Type 0 where
  taken : Sent
  many : length taken ≡ taken_in calls
  all : sent calls ≡ taken ++ waiting calls

parts_more : (earlier : ArrivalCalls) (by : ℕ) (asked : ArriveCall ReadLeaseOf SeatView ReadLeaseOf Issued) (reply : ArriveReply ReadLeaseOf SeatView ReadLeaseOf Issued) → Parts earlier → Parts (entry by asked reply ∷ earlier)
parts_more earlier by (call.Send step txn) reply is =
    let one : Sent = record { number = length (sent earlier) + 1; actor = record { 0 = by }; step = step; txn = txn } ∷ [] in
    record { taken = is.taken; many = is.many; all = ap (λ (xs : Sent). xs ++ one) is.all ∙ append_assoc is.taken (waiting earlier) one }
parts_more earlier by call.Take reply is = record { taken = sent earlier; many = refl; all = refl }

parts : (calls : ArrivalCalls) → Parts calls
parts [] = record { taken = []; many = refl; all = refl }
parts (e ∷ earlier) = parts_more earlier e.by e.call e.reply (parts earlier)

-- the first that were sent were taken, and the others wait
pub sent_is : (calls : ArrivalCalls) → sent calls ≡ take (taken_in calls) (sent calls) ++ waiting calls
sent_is calls =
    let is = parts calls in
    let front : take (taken_in calls) (sent calls) ≡ is.taken = ap (λ (n : ℕ). take n (sent calls)) (sym is.many) ∙ ap (take (length is.taken)) is.all ∙ take_front is.taken (waiting calls) in
    is.all ∙ ap (λ (xs : Sent). xs ++ waiting calls) (sym front)

pub waiting_many : (calls : ArrivalCalls) → taken_in calls + length (waiting calls) ≡ length (sent calls)
waiting_many calls =
    let is = parts calls in
    let many = is.many in
    let all = ap (λ (xs : Sent). length xs) is.all in
    let both = length-append is.taken (waiting calls) in
    omega (arith, many, all, both)

-- the numbers go on from one to the next
abbrev pub AreNumbered : ℕ → Sent → Type 0
AreNumbered n [] = Unit {0}
AreNumbered n (arrived ∷ later) = (arrived.number ≡ n + 1) × AreNumbered (n + 1) later

numbered_more : (n : ℕ) (xs ys : Sent) → AreNumbered n xs → AreNumbered (n + length xs) ys → AreNumbered n (xs ++ ys)
numbered_more n [] ys first then = subst (λ (m : ℕ). AreNumbered m ys) (add-zero n) then
numbered_more n (x ∷ xs) ys first then = (first.0, numbered_more (n + 1) xs ys first.1 (subst (λ (m : ℕ). AreNumbered m ys) (next n xs) then))
  where
    next : (n : ℕ) (xs : Sent) → n + suc (length xs) ≡ (n + 1) + length xs
    next n xs = omega arith

numbered_behind : (n : ℕ) (xs ys : Sent) → AreNumbered n (xs ++ ys) → AreNumbered (n + length xs) ys
numbered_behind n [] ys both = subst (λ (m : ℕ). AreNumbered m ys) (sym (add-zero n)) both
numbered_behind n (x ∷ xs) ys both = subst (λ (m : ℕ). AreNumbered m ys) (next n xs) (numbered_behind (n + 1) xs ys both.1)
  where
    next : (n : ℕ) (xs : Sent) → (n + 1) + length xs ≡ n + suc (length xs)
    next n xs = omega arith

sent_more : (earlier : ArrivalCalls) (by : ℕ) (asked : ArriveCall ReadLeaseOf SeatView ReadLeaseOf Issued) (reply : ArriveReply ReadLeaseOf SeatView ReadLeaseOf Issued) → AreNumbered 0 (sent earlier) → AreNumbered 0 (sent (entry by asked reply ∷ earlier))
sent_more earlier by (call.Send step txn) reply is =
    numbered_more 0 (sent earlier) (record { number = length (sent earlier) + 1; actor = record { 0 = by }; step = step; txn = txn } ∷ []) is (own (length (sent earlier)), tt)
  where
    own : (n : ℕ) → n + 1 ≡ (0 + n) + 1
    own n = omega arith
sent_more earlier by call.Take reply is = subst (AreNumbered 0) (sym (append-nil (sent earlier))) is

-- what was sent is numbered from 1 on, and what waits from the number behind that of the last one that was taken
pub sent_numbered : (calls : ArrivalCalls) → AreNumbered 0 (sent calls)
sent_numbered [] = tt
sent_numbered (e ∷ earlier) = sent_more earlier e.by e.call e.reply (sent_numbered earlier)

pub waiting_numbered : (calls : ArrivalCalls) → AreNumbered (taken_in calls) (waiting calls)
waiting_numbered calls =
    let is = parts calls in
    let behind = numbered_behind 0 is.taken (waiting calls) (subst (AreNumbered 0) is.all (sent_numbered calls)) in
    subst (λ (n : ℕ). AreNumbered n (waiting calls)) (from (length is.taken) (taken_in calls) is.many) behind
  where
    from : (n m : ℕ) → n ≡ m → 0 + n ≡ m
    from n m same = omega arith

pub numbers_are : (n : ℕ) (xs : Sent) → AreNumbered n xs → map (λ (arrived : Arrival ReadLeaseOf). arrived.number) xs ≡ range_with_len (n + 1) (length xs)
numbers_are n [] is = refl
numbers_are n (x ∷ xs) is =
    ap (λ (k : ℕ). k ∷ map (λ (arrived : Arrival ReadLeaseOf). arrived.number) xs) is.0 ∙ ap (λ (ks : List ℕ). (n + 1) ∷ ks) (numbers_are (n + 1) xs is.1)

-- so they rise
pub numbered_rise : (n : ℕ) (xs : Sent) → AreNumbered n xs → IsRisingFrom n xs (last_of n xs)
numbered_rise n [] is = omega arith
numbered_rise n (x ∷ xs) is =
    let first = is.0 in
    (omega (arith, first), subst (λ (m : ℕ). IsRisingFrom m xs (last_of m xs)) (sym first) (numbered_rise (n + 1) xs is.1))

pub numbered_last : (n : ℕ) (xs : Sent) → AreNumbered n xs → last_of n xs ≡ n + length xs
numbered_last n [] is = omega arith
numbered_last n (x ∷ xs) is =
    let rest = ap (λ (m : ℕ). last_of m xs) is.0 ∙ numbered_last (n + 1) xs is.1 in
    omega (arith, rest)

-- what waits rises from the last one that was taken up to the last one that was sent
pub waiting_rises : (calls : ArrivalCalls) → IsRisingFrom (taken_in calls) (waiting calls) (last_of (taken_in calls) (waiting calls))
waiting_rises calls = numbered_rise (taken_in calls) (waiting calls) (waiting_numbered calls)

pub waiting_last : (calls : ArrivalCalls) → last_of (taken_in calls) (waiting calls) ≡ length (sent calls)
waiting_last calls = numbered_last (taken_in calls) (waiting calls) (waiting_numbered calls) ∙ waiting_many calls

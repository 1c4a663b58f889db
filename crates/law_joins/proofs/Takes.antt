-- What a compositor took among threads: since nobody else takes, it is all that was sent before its last take.
use Rattle.std.proofs.Common.{◌≡◌, ℕ, ◌+◌, ◌≤◌, ◌==◌, true, false, List, [], ◌∷◌, ◌++◌, length, take, refl, ap, sym, ◌∙◌, subst, inl, inr, ◌⊎◌, arith}
use Rattle.std.specs.Prelude.{Contains}
use Rattle.std.proofs.lemmas.Bool.{cases_Bool, eq-eqb, false≢true}
use Rattle.std.proofs.lemmas.List.{append-nil, append_assoc, take-append-le, take_all}
use Rattle.std.proofs.lemmas.List.Elements.{Contains-append_left}
use Rattle.atomic_table.specs.Seated.{TableId}
use Rattle.law_threads.specs.sf_calls.declared.object.Entry.{Entry}
use Rattle.law_threads.specs.sf_calls.Histories.{Begins, GoesOnWithout, calls_by, entry}
use Rattle.law_threads.specs.sf_calls_stamped.Stamps.{unstamped}
use Rattle.law_threads.specs.sf_surface.Tokens.{Issued, ReadLeaseOf}
use Rattle.law_threads.specs.sf_token.declared.arrivals.ArriveCall.TheVariants as arrive
use Rattle.law_threads.specs.sf_token.declared.arrivals.ArriveReply.TheVariants as reply
use Rattle.law_threads.specs.sf_token.Arrivals.{arrival, is_take, sent, waiting}
use Rattle.law_threads.specs.sf_token.Pending.{Arrival, IsRisingFrom}
use Rattle.law_threads.specs.sf_turns.Views.{SeatView}
use Rattle.law_threads.specs.sf_txn.declared.lease.Lease.{Ghosts}
use Rattle.law_threads.specs.sf_commit.Handlers.{HandlerOf, last_of}
use Rattle.law_threads.specs.sf_actor.Plain.{taken_in}
use Rattle.law_threads.proofs.sf_actor_set_lemmas.ArrivalLemmas.{sent_is, waiting_last, waiting_many, waiting_rises}
use Rattle.law_threads.proofs.law_played_lemmas.Members.{has_here, has_later}
use Rattle.law_threads.specs.sf_live_seats.declared.locks.Locks.{Locks}
use Rattle.law_threads.specs.sf_live_seats.Arriving.{ArrivalCalls, ArrivalsPass, Arrived, Arriving}
use Rattle.law_threads.proofs.sf_live_seats_lemmas.CallsOfOthers.{none_later}
use Rattle.law_joins.specs.Logs.{HasTaken, OnlyFirstTakes, taken_of}
use Rattle.law_joins.proofs.Fronts.{arrivals_begin, arrivals_looked, begins_on}
use Rattle.law_threads.specs.sf_live_compositor.Vsyncs.{Begin, IsVsync, More, Sitting, Vsyncs}

abbrev Sent : Type 0
Sent = List (Arrival ReadLeaseOf)

-- none of these calls takes
abbrev pub NoTakes : ArrivalCalls → Type 0
NoTakes [] = Unit {0}
NoTakes (one ∷ earlier) = (is_take one.call ≡ false) × NoTakes earlier

pub sent_more : (more calls : ArrivalCalls) → (later : Sent) × (sent (more ++ calls) ≡ sent calls ++ later)
sent_more [] calls = ([], sym (append-nil (sent calls)))
sent_more (one ∷ more) calls =
    let rest = sent_more more calls in
    let last = arrival (length (sent (more ++ calls)) + 1) one in
    (rest.0 ++ last, ap (λ (list : Sent). list ++ last) rest.1 ∙ append_assoc (sent calls) rest.0 last)

pub taken_more : (more calls : ArrivalCalls) → NoTakes more → taken_in (more ++ calls) ≡ taken_in calls
taken_more [] calls none = refl
taken_more (one ∷ more) calls none = rw none.0 (taken_more more calls none.1)

pub taken_low : (calls : ArrivalCalls) → taken_in calls ≤ length (sent calls)
taken_low calls = let many = waiting_many calls in omega (arith, many)

pub front_more : (more calls : ArrivalCalls) → NoTakes more → take (taken_in (more ++ calls)) (sent (more ++ calls)) ≡ take (taken_in calls) (sent calls)
front_more more calls none =
    let later = sent_more more calls in
    (λ i. take (taken_more more calls none i) (later.1 i)) ∙ take-append-le (taken_in calls) (sent calls) later.0 (taken_low calls)

-- calls of others than the first caller take nothing
no_takes : (arriving : ArrivalCalls) → OnlyFirstTakes arriving → (more : ArrivalCalls) → ((one : Entry Arriving Arrived) → Contains more one → Contains arriving one) → calls_by 0 more ≡ [] → NoTakes more
no_takes arriving only [] among none = tt
no_takes arriving only (one ∷ more) among none = elim (cases_Bool (one.by == 0)) [
  | inl met ↦ (let some = rw met at none in absurd (cc))
  | inr unmet ↦ (not_taken unmet (cases_Bool (is_take one.call)), no_takes arriving only more (λ other there. among other (has_later one other more there)) (rw unmet at none))
]
  where
    not_taken : (one.by == 0) ≡ false → (is_take one.call ≡ true) ⊎ (is_take one.call ≡ false) → is_take one.call ≡ false
    not_taken unmet (inl taken) = absurd (false≢true (sym unmet ∙ eq-eqb one.by 0 (only one (among one (has_here one more)) taken)))
    not_taken unmet (inr none) = none

pub goes_without_takes : (arriving : ArrivalCalls) → OnlyFirstTakes arriving → (calls later : ArrivalCalls) → (goes : GoesOnWithout 0 calls later) → Begins later arriving → NoTakes goes.begins.0
goes_without_takes arriving only calls later goes begins =
    no_takes arriving only goes.begins.0
    (λ one there. subst (λ (list : ArrivalCalls). Contains list one) (sym begins.1)
    (Contains-append_right' begins.0 later one (subst (λ (list : ArrivalCalls). Contains list one) (sym goes.begins.1) (Contains-append_left goes.begins.0 calls one there))))
    (none_later 0 goes.begins.0 calls (ap (calls_by 0) (sym goes.begins.1) ∙ goes.calls))
  where
    Contains-append_right' : (xs ys : ArrivalCalls) (one : Entry Arriving Arrived) → Contains ys one → Contains (xs ++ ys) one
    Contains-append_right' [] ys one there = there
    Contains-append_right' (x ∷ xs) ys one there = has_later x one (xs ++ ys) (Contains-append_right' xs ys one there)

-- A take, behind calls that take nothing.
pub record TakesAll (calls : ArrivalCalls) (arrived : Sent) (later : ArrivalCalls) : Type 0 where
  pub by : ℕ
  pub more : ArrivalCalls
  pub none : NoTakes more
  pub newest : later ≡ entry by arrive.Take (reply.Batch arrived) ∷ more ++ calls
  pub waits : arrived ≡ waiting (more ++ calls)

module _ (calls : ArrivalCalls) (arrived : Sent) (later : ArrivalCalls) (takes : TakesAll calls arrived later) where
  abbrev earlier : ArrivalCalls
  earlier = takes.more ++ calls

  taken_now : taken_in later ≡ length (sent earlier)
  taken_now = ap taken_in takes.newest

  taken_before : taken_in earlier ≡ taken_in calls
  taken_before = taken_more takes.more calls takes.none

  pub takes_last : last_of (taken_in calls) arrived ≡ taken_in later
  takes_last = (λ i. last_of (sym taken_before i) (takes.waits i)) ∙ waiting_last earlier ∙ sym taken_now

  pub takes_rise : IsRisingFrom (taken_in calls) arrived (last_of (taken_in calls) arrived)
  takes_rise =
      subst (λ (list : Sent). IsRisingFrom (taken_in calls) list (last_of (taken_in calls) list)) (sym takes.waits)
      (subst (λ (n : ℕ). IsRisingFrom n (waiting earlier) (last_of n (waiting earlier))) taken_before (waiting_rises earlier))

  sent_later : sent later ≡ sent earlier
  sent_later = ap (λ (list : ArrivalCalls). sent list) takes.newest ∙ append-nil (sent earlier)

  pub takes_front : take (taken_in later) (sent later) ≡ take (taken_in calls) (sent calls) ++ arrived
  takes_front =
      (λ i. take (taken_now i) (sent_later i))
      ∙ take_all (length (sent earlier)) (sent earlier) (omega arith)
      ∙ sent_is earlier
      ∙ (λ i. front_more takes.more calls takes.none i ++ sym takes.waits i)

module _ {B : Type 0} (lease : Ghosts ReadLeaseOf SeatView ReadLeaseOf Issued) (table : TableId) (locks : Locks B) (period : ℕ) (arriving : ArrivalCalls) (only : OnlyFirstTakes arriving) where
  -- what a vsync takes
  pub vsync_takes : (before after : Sitting B) (v : IsVsync lease table locks period before after) → after.seats.by ≡ 0 → Begins (unstamped after.seats.arrivals.seen) arriving
      → TakesAll (unstamped before.seats.arrivals.seen) v.arrived (unstamped after.seats.arrivals.seen)
  vsync_takes before after v first begins =
      let by : v.looked.arrivals.by ≡ 0 =
      ap (λ (a : ArrivalsPass). a.by) (arrivals_looked lease table locks period before after v) ∙ sym (ap (λ (a : ArrivalsPass). a.by) v.stays.arrivals) ∙ v.own.number ∙ first in
      let goes : GoesOnWithout 0 (unstamped before.seats.arrivals.seen) v.takes.took.earlier =
      subst (λ (a : ArrivalsPass). GoesOnWithout 0 (unstamped a.seen) v.takes.took.earlier) (arrivals_looked lease table locks period before after v)
      (subst (λ (n : ℕ). GoesOnWithout n (unstamped v.looked.arrivals.seen) v.takes.took.earlier) by v.takes.took.goes_on) in
      let took : unstamped after.seats.arrivals.seen ≡ entry v.looked.arrivals.by arrive.Take (reply.Batch v.arrived) ∷ v.takes.took.earlier = ap (λ (a : ArrivalsPass). unstamped a.seen) v.arrivals ∙ v.takes.took.newest in
      record {
        by = v.looked.arrivals.by;
        more = goes.begins.0;
        none = goes_without_takes arriving only (unstamped before.seats.arrivals.seen) v.takes.took.earlier goes
            (begins_on v.takes.took.earlier (unstamped after.seats.arrivals.seen) arriving (entry v.looked.arrivals.by arrive.Take (reply.Batch v.arrived) ∷ [], took) begins);
        newest = took ∙ ap (λ (list : ArrivalCalls). entry v.looked.arrivals.by arrive.Take (reply.Batch v.arrived) ∷ list) goes.begins.1;
        waits = v.takes.took.waits ∙ ap (λ (list : ArrivalCalls). waiting list) goes.begins.1;
      }

  -- so what the handler took last is the last that was taken, all along a log
  pub log_takes : (start last : Sitting B) (log : Vsyncs lease table locks period start last) → start.handler.last ≡ 0 → start.seats.arrivals.seen ≡ [] → last.seats.by ≡ 0
      → Begins (unstamped last.seats.arrivals.seen) arriving → HasTaken last.handler (unstamped last.seats.arrivals.seen) (taken_of lease table locks period log)
  log_takes start last Begin none nothing first begins = record {
    last = none ∙ sym (ap (λ (list : _). taken_in (unstamped list)) nothing);
    front = ap (λ (list : _). take (taken_in (unstamped list)) (sent (unstamped list))) nothing;
  }
  log_takes start last (More {before} {after} log v) none nothing first begins =
      let takes = vsync_takes before after v first begins in
      let was = log_takes start before log none nothing (sym v.caller ∙ first)
      (begins_on (unstamped before.seats.arrivals.seen) (unstamped after.seats.arrivals.seen) arriving (arrivals_begin lease table locks period before after v) begins) in
      record {
        last = ap (λ (h : HandlerOf ReadLeaseOf). h.last) v.decides.settled.state ∙ ap (λ (n : ℕ). last_of n v.arrived) was.last
            ∙ takes_last (unstamped before.seats.arrivals.seen) v.arrived (unstamped after.seats.arrivals.seen) takes;
        front = takes_front (unstamped before.seats.arrivals.seen) v.arrived (unstamped after.seats.arrivals.seen) takes ∙ ap (λ (list : Sent). list ++ v.arrived) was.front;
      }

-- what is known at the join goes on from there
pub joins_taken : (arriving : ArrivalCalls) → OnlyFirstTakes arriving → (handler : HandlerOf ReadLeaseOf) (calls : ArrivalCalls) (taken : Sent) → HasTaken handler calls taken → GoesOnWithout 0 calls arriving → HasTaken handler arriving taken
joins_taken arriving only handler calls taken has goes =
    let none = goes_without_takes arriving only calls arriving goes ([], refl) in
    record {
      last = has.last ∙ sym (ap taken_in goes.begins.1 ∙ taken_more goes.begins.0 calls none);
      front = ap (λ (list : ArrivalCalls). take (taken_in list) (sent list)) goes.begins.1 ∙ front_more goes.begins.0 calls none ∙ has.front;
    }

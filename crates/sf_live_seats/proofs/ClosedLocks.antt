-- What is left when what was shared is closed.
use Rattle.std.proofs.Common.{◌≡◌, ℕ, suc, ◌<◌, ◌≤◌, ◌==◌, Bool, true, false, List, [], ◌∷◌, inl, inr, length, get_or, arith, ap, ap₂, ◌∙◌, sym, refl, subst}
use Rattle.std.specs.Prelude.{map, not, Contains}
use Rattle.std.specs.List.{AllByRecursion, AllZip, list_any}
use Rattle.std.proofs.Math.Nat.{max-le}
use Rattle.std.proofs.lemmas.Bool.{cases_Bool, eqb-true}
use Rattle.std.proofs.lemmas.List.{append-nil}
use Rattle.std.proofs.lemmas.List.Elements.{Contains-append_right}
use Rattle.atomic_table.specs.Seated.{TableId}
use Rattle.sf_base.specs.Points.{greatest, value_at}
use Rattle.sf_base.proofs.PointLemmas.{has_le}
use Rattle.sf_calls.specs.Histories.{GoesOnWithout, calls_by}
use Rattle.sf_calls.specs.Passes.{TookAll}
use Rattle.sf_calls.specs.declared.object.Entry.{Entry}
use Rattle.sf_calls_stamped.specs.Stamps.{StampsRise, unstamped}
use Rattle.sf_actor.specs.sf_surface.declared.mark.QueueMark.{QueueMark}
use Rattle.sf_actor.specs.sf_surface.Histories.{Made}
use Rattle.sf_actor.specs.sf_surface.Objects.{ObjectOf, mark_of}
use Rattle.sf_actor.specs.sf_surface.Tokens.{ReadLeaseOf}
use Rattle.sf_intake.specs.sf_token.Arrivals.{sent}
use Rattle.sf_intake.specs.sf_token.Pending.{Arrival}
use Rattle.sf_actor.specs.Desks.{known_of, mark_among, values_of}
use Rattle.sf_actor.specs.Known.{AreAmong, ArriveWithout, CountsRise, GoesOn, Rise, is_sent_by}
use Rattle.sf_actor.specs.Plain.{PlainOf, calls_among, home_of as plain_home, is_queue, view_of as plain_view}
use Rattle.sf_actor.proofs.CallGrowth.{value-values}
use Rattle.sf_live_seats.specs.declared.first.FirstSeats.{FirstSeats}
use Rattle.sf_live_seats.specs.declared.locks.Locks.{Locks}
use Rattle.sf_live_seats.specs.declared.locks.QueueLock.{QueueLock}
use Rattle.sf_live_seats.specs.declared.seats.Seats.{Seats}
use Rattle.sf_live_seats.specs.Arriving.{ArrivalEntry, Arrived, Arriving}
use Rattle.sf_live_seats.specs.Closing.{AreClosed, Closes, GoesOnIn, HasNoEntry, IsClosed, IsLast, IsOrdered}
use Rattle.sf_live_seats.specs.First.{HasAll, IsFirst, Leads, TookPass, gave_of, took_of}
use Rattle.sf_live_seats.specs.Seats.{IsPassOf, QueueEntry, QueuePass, arrivals_known, calls_known, home_of, is_at, lock_mark, mark_in, tells_of, view_of}
use Rattle.sf_live_seats.proofs.IntakeHands.{first_known}
use Rattle.sf_live_seats.proofs.CallsOfOthers.{calls_unstamped, goes_unstamped, sent_goes}
use Rattle.sf_live_seats.proofs.CallOrder.{contains_cons}
use Rattle.sf_live_seats.proofs.QueuePass.{as_long, zip_at}
use Rattle.sf_live_seats.proofs.GivenPasses.{by_place}

nowhere : {X : Type 0} (x : X) → Contains [] x → ⊥
nowhere x there = (let low = there.1 in omega (arith, low))

map_in : {X Y : Type 0} (f : X → Y) (xs : List X) (x : X) → Contains xs x → Contains (map f xs) (f x)
map_in f [] x there = absurd (nowhere x there)
map_in f (y ∷ xs) x there = elim (contains_cons y xs x there) [
  | inl same ↦ (0, omega arith, ap f (sym same))
  | inr later ↦ Contains-append_right (f y ∷ []) (map f xs) (f x) (map_in f xs x later)
]

from_map : {X Y : Type 0} (f : X → Y) (xs : List X) (y : Y) → Contains (map f xs) y → (x : X) × Contains xs x × (y ≡ f x)
from_map f [] y there = absurd (nowhere y there)
from_map f (x ∷ xs) y there = elim (contains_cons (f x) (map f xs) y there) [
  | inl same ↦ (x, (0, omega arith, refl), same)
  | inr later ↦ (
      let found = from_map f xs y later in
      (found.0, Contains-append_right (x ∷ []) xs found.0 found.1, found.2))
]

zip_from : {X Y : Type 0} (R : X → Y → Type 0) (xs : List X) (ys : List Y) → length ys ≡ length xs → ((k : ℕ) (x : X) (y : Y) → k < length xs → R (get_or xs k x) (get_or ys k y)) → AllZip R xs ys
zip_from R [] [] long each = tt
zip_from R [] (y ∷ ys) long each = absurd (omega (arith, long))
zip_from R (x ∷ xs) [] long each = absurd (omega (arith, long))
zip_from R (x ∷ xs) (y ∷ ys) long each =
    (each 0 x y (omega arith), zip_from R xs ys (omega (arith, long)) (λ k a b low. each (suc k) a b (omega (arith, low))))

greatest_among : (t : ℕ) (these those : List (ℕ × ℕ)) → AreAmong these those → greatest t these ≤ greatest t those
greatest_among t [] those among = omega arith
greatest_among t (p ∷ these) those among =
    let rest = greatest_among t these those (λ q there. among q (Contains-append_right (p ∷ []) these q there)) in
    max-le (one_among (p.0 == t) refl) rest
  where
    at_once : Contains (p ∷ these) p
    at_once = (0, omega arith, refl)

    one_among : (test : Bool) → (p.0 == t) ≡ test → value_at t p ≤ greatest t those
    one_among true is =
        let same : p ≡ (t, p.1) = ap (λ (n : ℕ). (n, p.1)) (eqb-true p.0 t is) in
        rw is (has_le t p.1 those (subst (λ (q : ℕ × ℕ). Contains those q) same (among p at_once)))
    one_among false is = rw is (omega arith)

values_rise : (these those : List (ℕ × ℕ)) → AreAmong these those → Rise (values_of these) (values_of those)
values_rise these those among t low high =
    let a = value-values these t low high in
    let b = value-values those t low high in
    let c = greatest_among t these those among in
    omega (arith, a, b, c)

-- where a caller has no entry
no_entry : {C R : Type 0} (by : ℕ) (log : List (Entry (ℕ × C) (ℕ × R))) → calls_by by log ≡ [] → calls_by by (unstamped log) ≡ []
no_entry by log none = calls_unstamped by log ∙ ap unstamped none

none_sent : (by : ℕ) (log : List (Entry Arriving Arrived)) → calls_by by log ≡ [] → list_any (is_sent_by by) (sent log) ≡ false
none_sent by log none =
    let goes = sent_goes by [] log (record { begins = (log, sym (append-nil log)); calls = none }) in
    ap (list_any (is_sent_by by)) goes.joined ∙ goes.none

-- what is said of a value by its opposite
pub told_none : (some none : Bool) → some ≡ not none → none ≡ not some
told_none some true e = sym (ap not e)
told_none some false e = sym (ap not e)

module _ {B : Type 0} where
  -- the first passes took in all that they gave
  pub all_last : (buffers : TableId) (locks : Locks B) (first : FirstSeats B) → IsFirst buffers locks first → HasAll first → AllZip IsLast locks.queues.items first.seats.queues.items
  all_last buffers locks first is has =
      let ls = locks.queues.items in
      let ps = first.seats.queues.items in
      zip_from IsLast ls ps (as_long (IsPassOf first.seats.by) ls ps is.own.queues) (λ k l p low.
      let own = zip_at (IsPassOf first.seats.by) ls ps k l p is.own.queues low in
      let long = as_long (IsPassOf first.seats.by) ls ps is.own.queues in
      let leads = by_place (Leads (gave_of first)) ps k p is.queues (omega (arith, low, long)) in
      record {
        own = own.own;
        is_first = leads.is_first;
        marked = own.marked;
        took_all = λ b gave.
            let found = from_map (λ (seats : Seats B). seats.by) (took_of first) b (has.all b (subst (λ (bs : List ℕ). Contains bs b) leads.gave_is gave)) in
            let taken = is.took found.0 found.1 in
            let there = zip_at (TookPass found.0.by) ps found.0.queues.items k p p taken.queues (omega (arith, low, long)) in
            subst (λ (n : ℕ). Contains (map (λ (q : ℕ × List (QueueEntry B)). q.0) (get_or ps k p).took) n) (sym found.2)
            (map_in (λ (q : ℕ × List (QueueEntry B)). q.0) (get_or ps k p).took (found.0.by, (get_or found.0.queues.items k p).seen) there);
      })

  pub last_arrivals : (buffers : TableId) (locks : Locks B) (first : FirstSeats B) → IsFirst buffers locks first → HasAll first → TookAll first.seats.arrivals.gave first.seats.arrivals.took
  last_arrivals buffers locks first is has = λ b gave.
      let found = from_map (λ (seats : Seats B). seats.by) (took_of first) b (has.all b gave) in
      let taken = is.took found.0 found.1 in
      subst (λ (n : ℕ). Contains (map (λ (q : ℕ × List ArrivalEntry). q.0) first.seats.arrivals.took) n) (sym found.2)
      (map_in (λ (q : ℕ × List ArrivalEntry). q.0) first.seats.arrivals.took (found.0.by, found.0.arrivals.seen) taken.arrivals)

  closed_marks : (locks : List (QueueLock B)) (passes : List (QueuePass B)) (objects : List (ObjectOf B)) → AreClosed locks passes objects → map mark_of objects ≡ map lock_mark locks
  closed_marks [] [] [] closed = refl
  closed_marks [] [] (o ∷ objects) closed = absurd closed
  closed_marks [] (p ∷ passes) objects closed = absurd closed
  closed_marks (l ∷ locks) [] objects closed = absurd closed
  closed_marks (l ∷ locks) (p ∷ passes) [] closed = absurd closed
  closed_marks (l ∷ locks) (p ∷ passes) (o ∷ objects) closed =
      ap₂ (λ (m : QueueMark) (ms : List QueueMark). m ∷ ms) closed.0.mark (closed_marks locks passes objects closed.1)

  at_object : (by queue : ℕ) (lock : QueueLock B) (pass : QueuePass B) (object : ObjectOf B) → IsPassOf by lock pass → IsClosed lock pass object → is_at queue pass ≡ is_queue queue object
  at_object by queue lock pass object own closed =
      ap (λ m. (mark_in m).queue.0 == queue) own.marked ∙ sym (ap (λ (m : QueueMark). m.queue.0 == queue) closed.mark)

  closed_calls : (by queue : ℕ) (locks : List (QueueLock B)) (passes : List (QueuePass B)) (objects : List (ObjectOf B)) → AllZip (IsPassOf by) locks passes → AreClosed locks passes objects → calls_among objects queue ≡ calls_known passes queue
  closed_calls by queue [] [] [] own closed = refl
  closed_calls by queue [] [] (o ∷ objects) own closed = absurd closed
  closed_calls by queue [] (p ∷ passes) objects own closed = absurd closed
  closed_calls by queue (l ∷ locks) [] objects own closed = absurd closed
  closed_calls by queue (l ∷ locks) (p ∷ passes) [] own closed = absurd closed
  closed_calls by queue (l ∷ locks) (p ∷ passes) (o ∷ objects) own closed =
      let same = at_object by queue l p o own.0 closed.0 in
      let rest = closed_calls by queue locks passes objects own.1 closed.1 in
      elim (cases_Bool (is_queue queue o)) [
        | inl met ↦ rw (met, same ∙ met) closed.0.calls
        | inr unmet ↦ rw (unmet, same ∙ unmet) rest
      ]

  closed_rise : (locks : List (QueueLock B)) (passes : List (QueuePass B)) (objects : List (ObjectOf B)) → AreClosed locks passes objects → AllByRecursion (λ (pass : QueuePass B). StampsRise pass.seen) passes
  closed_rise [] [] [] closed = tt
  closed_rise [] [] (o ∷ objects) closed = absurd closed
  closed_rise [] (p ∷ passes) objects closed = absurd closed
  closed_rise (l ∷ locks) [] objects closed = absurd closed
  closed_rise (l ∷ locks) (p ∷ passes) [] closed = absurd closed
  closed_rise (l ∷ locks) (p ∷ passes) (o ∷ objects) closed = (closed.0.rise, closed_rise locks passes objects closed.1)

  closed_on : (by : ℕ) (locks : List (QueueLock B)) (passes others : List (QueuePass B)) (objects : List (ObjectOf B)) → AreClosed locks passes objects → AllZip (TookPass by) passes others → AllZip (GoesOnIn by) passes others
  closed_on by [] [] [] objects closed took = tt
  closed_on by [] [] (q ∷ others) objects closed took = absurd took
  closed_on by [] (p ∷ passes) others objects closed took = absurd closed
  closed_on by (l ∷ locks) [] others objects closed took = absurd closed
  closed_on by (l ∷ locks) (p ∷ passes) [] objects closed took = absurd took
  closed_on by (l ∷ locks) (p ∷ passes) (q ∷ others) [] closed took = absurd closed
  closed_on by (l ∷ locks) (p ∷ passes) (q ∷ others) (o ∷ objects) closed took =
      (closed.0.taken (by, q.seen) took.0, closed_on by locks passes others objects closed.1 took.1)

  same_place : (by other queue : ℕ) (lock : QueueLock B) (p q : QueuePass B) → IsPassOf by lock p → IsPassOf other lock q → is_at queue q ≡ is_at queue p
  same_place by other queue lock p q own theirs = ap (λ m. (mark_in m).queue.0 == queue) (theirs.marked ∙ sym own.marked)

  closed_goes : (by other queue : ℕ) (locks : List (QueueLock B)) (passes others : List (QueuePass B)) (objects : List (ObjectOf B)) → AllZip (IsPassOf by) locks passes → AllZip (IsPassOf other) locks others → AreClosed locks passes objects → AllZip (TookPass other) passes others → GoesOnWithout other (calls_known others queue) (calls_known passes queue)
  closed_goes by other queue [] [] [] objects own theirs closed took = record { begins = ([], refl); calls = refl }
  closed_goes by other queue [] [] (q ∷ others) objects own theirs closed took = absurd took
  closed_goes by other queue [] (p ∷ passes) others objects own theirs closed took = absurd own
  closed_goes by other queue (l ∷ locks) [] others objects own theirs closed took = absurd own
  closed_goes by other queue (l ∷ locks) (p ∷ passes) [] objects own theirs closed took = absurd took
  closed_goes by other queue (l ∷ locks) (p ∷ passes) (q ∷ others) [] own theirs closed took = absurd closed
  closed_goes by other queue (l ∷ locks) (p ∷ passes) (q ∷ others) (o ∷ objects) own theirs closed took =
      let same = same_place by other queue l p q own.0 theirs.0 in
      let rest = closed_goes by other queue locks passes others objects own.1 theirs.1 closed.1 took.1 in
      elim (cases_Bool (is_at queue p)) [
        | inl met ↦ rw (met, same ∙ met) (goes_unstamped other q.seen p.seen (closed.0.taken (other, q.seen) took.0))
        | inr unmet ↦ rw (unmet, same ∙ unmet) rest
      ]

  closed_nobody : (by other queue : ℕ) (gave : List ℕ) (locks : List (QueueLock B)) (passes : List (QueuePass B)) (objects : List (ObjectOf B)) → AllZip (IsPassOf by) locks passes → AllByRecursion (Leads gave) passes → AreClosed locks passes objects → (Contains (by ∷ gave) other → ⊥) → calls_by other (calls_known passes queue) ≡ []
  closed_nobody by other queue gave [] [] objects own leads closed not = refl
  closed_nobody by other queue gave [] (p ∷ passes) objects own leads closed not = absurd own
  closed_nobody by other queue gave (l ∷ locks) [] objects own leads closed not = absurd own
  closed_nobody by other queue gave (l ∷ locks) (p ∷ passes) [] own leads closed not = absurd closed
  closed_nobody by other queue gave (l ∷ locks) (p ∷ passes) (o ∷ objects) own leads closed not =
      let rest = closed_nobody by other queue gave locks passes objects own.1 leads.1 closed.1 not in
      let none = closed.0.callers other (λ there. not (subst (λ (bs : List ℕ). Contains bs other) (ap₂ (λ (b : ℕ) (bs : List ℕ). b ∷ bs) own.0.number leads.0.gave_is) there)) in
      elim (cases_Bool (is_at queue p)) [
        | inl met ↦ rw met (no_entry other p.seen (none ∙ ap (calls_by other) leads.0.start))
        | inr unmet ↦ rw unmet rest
      ]

  -- the desk that is left
  pub record IsLeft (locks : Locks B) (first : FirstSeats B) (desk : PlainOf B) : Type 0 where
    pub queues : AreClosed locks.queues.items first.seats.queues.items desk.queues
    pub arrivals : desk.arrivals ≡ unstamped first.seats.arrivals.seen
    pub rise : StampsRise first.seats.arrivals.seen
    pub taken : (p : ℕ × List ArrivalEntry) → Contains first.seats.arrivals.took p → GoesOnWithout p.0 p.1 first.seats.arrivals.seen
    pub callers : (b : ℕ) → (Contains (first.seats.arrivals.by ∷ first.seats.arrivals.gave) b → ⊥) → calls_by b first.seats.arrivals.seen ≡ calls_by b first.seats.arrivals.start
    pub times : desk.times ≡ first.seats.times
    pub turns : desk.turns ≡ first.seats.turns
    pub tells : desk.tells ≡ tells_of locks

  module _ (buffers : TableId) (locks : Locks B) (first : FirstSeats B) (desk : PlainOf B) (is : IsFirst buffers locks first) (left : IsLeft locks first desk) where
    calls_left : (queue : ℕ) → (plain_view desk).calls queue ≡ (view_of first.seats).calls queue
    calls_left queue = closed_calls first.seats.by queue locks.queues.items first.seats.queues.items desk.queues is.own.queues left.queues

    arrivals_left : (plain_view desk).arrivals ≡ (view_of first.seats).arrivals
    arrivals_left = ap sent left.arrivals ∙ sym (first_known locks first.seats.by first.seats.arrivals.gave first.seats.last first.seats.intake first.seats.arrivals.seen is.number is.own.way)

    -- who had no seats
    none_stamped : (by : ℕ) → (Contains (first.seats.by ∷ gave_of first) by → ⊥) → calls_by by first.seats.arrivals.seen ≡ []
    none_stamped by not =
        left.callers by (λ there. not (subst (λ (b : ℕ). Contains (b ∷ gave_of first) by) is.own.number there)) ∙ ap (calls_by by) is.start

    pub closes : Closes locks first desk
    closes = record {
      marks = closed_marks locks.queues.items first.seats.queues.items desk.queues left.queues;
      calls = calls_left;
      arrivals = arrivals_left;
      arrived = left.arrivals;
      strangers = λ by not. ap (calls_by by) left.arrivals ∙ calls_unstamped by first.seats.arrivals.seen ∙ ap unstamped (none_stamped by not);
      times = left.times;
      turns = left.turns;
      tells = left.tells;
    }

    pub ordered : IsOrdered first
    ordered = record {
      queues = closed_rise locks.queues.items first.seats.queues.items desk.queues left.queues;
      arrivals = left.rise;
      queues_on = λ seats there. closed_on seats.by locks.queues.items first.seats.queues.items seats.queues.items desk.queues left.queues (is.took seats there).queues;
      arrivals_on = λ seats there. left.taken (seats.by, seats.arrivals.seen) (is.took seats there).arrivals;
    }

    pub goes : (seats : Seats B) → Contains (took_of first) seats → GoesOn seats.by (known_of (home_of locks seats) (view_of seats)) (known_of (plain_home desk) (plain_view desk))
    goes seats there =
        let taken = is.took seats there in
        record {
          marks = λ queue. ap (λ (ms : List QueueMark). mark_among ms queue) (closed_marks locks.queues.items first.seats.queues.items desk.queues left.queues);
          tells = left.tells;
          calls = λ queue.
              subst (λ (calls : List (Made B)). GoesOnWithout seats.by (calls_known seats.queues.items queue) calls) (sym (calls_left queue))
              (closed_goes first.seats.by seats.by queue locks.queues.items first.seats.queues.items seats.queues.items desk.queues is.own.queues taken.own.queues left.queues taken.queues);
          arrivals =
              subst (λ (list : List (Arrival ReadLeaseOf)). ArriveWithout seats.by list (plain_view desk).arrivals) (sym (ap (λ at_intake. arrivals_known at_intake seats.arrivals.seen) taken.own.nothing))
              (subst (λ (list : List (Arrival ReadLeaseOf)). ArriveWithout seats.by (sent (unstamped seats.arrivals.seen)) list) (sym (ap sent left.arrivals))
              (sent_goes seats.by (unstamped seats.arrivals.seen) (unstamped first.seats.arrivals.seen)
              (goes_unstamped seats.by seats.arrivals.seen first.seats.arrivals.seen (left.taken (seats.by, seats.arrivals.seen) taken.arrivals))));
          values =
              subst (λ v. Rise (values_of seats.times.knows.known) (values_of v.knows.known)) (sym left.times) (values_rise seats.times.knows.known first.seats.times.knows.known taken.known);
          signals = subst (λ v. AreAmong seats.times.knows.signals v.knows.signals) (sym left.times) taken.signals;
          left = subst (λ v. AreAmong seats.turns.leaves v.leaves) (sym left.turns) taken.leaves;
          counts = subst (λ v. CountsRise seats.turns.seen v.seen) (sym left.turns) taken.seen;
        }

    pub nobody : (by : ℕ) → (Contains (first.seats.by ∷ gave_of first) by → ⊥) → HasNoEntry by (plain_view desk)
    nobody by not =
        let none = none_stamped by not in
        record {
          calls = λ queue.
              ap (calls_by by) (calls_left queue) ∙ closed_nobody first.seats.by by queue (gave_of first) locks.queues.items first.seats.queues.items desk.queues is.own.queues is.queues left.queues not;
          arrivals = ap (λ calls. list_any (is_sent_by by) (sent calls)) left.arrivals ∙ none_sent by (unstamped first.seats.arrivals.seen) (no_entry by first.seats.arrivals.seen none);
        }

-- Seats that the first ones take in.
use Rattle.std.proofs.Common.{◌≡◌, ℕ, zero, suc, ◌+◌, ◌<◌, ◌≤◌, ◌==◌, List, [], ◌∷◌, ◌++◌, inl, inr, length, get_or, set, Some, arith, ap, ap₂, ◌∙◌, sym, refl, subst}
use Rattle.std.specs.Prelude.{map, Contains}
use Rattle.std.specs.List.{AllByRecursion, AllZip}
use Rattle.std.specs.declared.snapshot.Snapshot.{Snapshot}
use Rattle.std.proofs.lemmas.Bool.{cases_Bool}
use Rattle.std.proofs.lemmas.List.{append-nil, length-append, map-append, nil_from_length}
use Rattle.std.proofs.lemmas.List.Elements.{Contains-append_cases, Contains-append_left, Contains-append_right}
use Rattle.std.proofs.Math.Nat.{le-max_left, le-max_right}
use Rattle.atomic_table.specs.Seated.{TableId}
use Rattle.sf_base.specs.Points.{greatest}
use Rattle.sf_base.proofs.PointLemmas.{greatest-append}
use Rattle.sf_calls.specs.Histories.{GoesOnWithout, calls_by}
use Rattle.sf_calls.specs.Passes.{met}
use Rattle.sf_times.specs.Seats.{joined as joined_times}
use Rattle.sf_times.specs.Views.{SeatView as TimesView}
use Rattle.sf_turns.specs.Views.{SeatView as TurnsView, joined as joined_turns}
use Rattle.sf_actor.specs.Known.{AreAmong}
use Rattle.sf_live_seats.specs.declared.first.FirstSeats.{FirstSeats}
use Rattle.sf_live_seats.specs.declared.locks.Locks.{Locks}
use Rattle.sf_live_seats.specs.declared.locks.QueueLock.{QueueLock}
use Rattle.sf_live_seats.specs.declared.seats.Seats.{Seats}
use Rattle.sf_live_seats.specs.Arriving.{ArrivalsPass}
use Rattle.sf_live_seats.specs.First.{IsFirst, IsTaken, Leads, Meets, TookPass, gave_of, took_of}
use Rattle.sf_live_seats.specs.Passes.{IsAt, IsFirstPass, KeepsOwn, all_met}
use Rattle.sf_live_seats.specs.Seats.{AreSeats, AreWhole, IsAtIntake, IsInOrder, IsPassOf, QueuePass, calls_known, calls_made, is_at, mark_in, moment, moments_of, pass_at, post_moment, posts_of, sent_in}
use Rattle.sf_live_seats.proofs.IntakeHands.{first_pass_at, way_later}
use Rattle.sf_live_seats.proofs.CallsOfOthers.{goes_unstamped}
use Rattle.sf_live_seats.proofs.CallOrder.{contains_cons}
use Rattle.sf_live_seats.proofs.QueuePass.{zip_at}

-- the first of a list, and one behind it
first_in : {X : Type 0} (x : X) (xs : List X) → Contains (x ∷ xs) x
first_in x xs = (0, omega arith, refl)

later_in : {X : Type 0} (x : X) (xs : List X) (y : X) → Contains xs y → Contains (x ∷ xs) y
later_in x xs y there = Contains-append_right (x ∷ []) xs y there

module _ {B : Type 0} where
  -- passes after they met others are passes of the same locks
  met_own : (by : ℕ) (locks : List (QueueLock B)) (passes notes : List (QueuePass B)) → AllZip (IsPassOf by) locks passes → AllZip (IsPassOf by) locks (all_met passes notes)
  met_own by [] [] notes own = tt
  met_own by [] (p ∷ passes) notes own = absurd own
  met_own by (l ∷ locks) [] notes own = absurd own
  met_own by (l ∷ locks) (p ∷ passes) [] own = own
  met_own by (l ∷ locks) (p ∷ passes) (n ∷ notes) own =
      (record { own = own.0.own; number = own.0.number; marked = own.0.marked; numbered = own.0.numbered }, met_own by locks passes notes own.1)

  met_leads : (gave : List ℕ) (passes notes : List (QueuePass B)) → AllByRecursion (Leads gave) passes → AllByRecursion (Leads gave) (all_met passes notes)
  met_leads gave [] notes leads = tt
  met_leads gave (p ∷ passes) [] leads = leads
  met_leads gave (p ∷ passes) (n ∷ notes) leads =
      (record { is_first = leads.0.is_first; gave_is = leads.0.gave_is; start = leads.0.start }, met_leads gave passes notes leads.1)

  -- what is known of a queue goes on without a call of theirs
  known_goes : (by queue : ℕ) (locks : List (QueueLock B)) (old new : List (QueuePass B)) → AllZip (IsPassOf by) locks old → AllZip (IsPassOf by) locks new → AllZip KeepsOwn old new
      → GoesOnWithout by (calls_known old queue) (calls_known new queue)
  known_goes by queue [] [] [] own now kept = record { begins = ([], refl); calls = refl }
  known_goes by queue [] [] (q ∷ new) own now kept = absurd kept
  known_goes by queue [] (p ∷ old) new own now kept = absurd own
  known_goes by queue (l ∷ locks) [] new own now kept = absurd own
  known_goes by queue (l ∷ locks) (p ∷ old) [] own now kept = absurd kept
  known_goes by queue (l ∷ locks) (p ∷ old) (q ∷ new) own now kept =
      let same : is_at queue q ≡ is_at queue p = ap (λ m. (mark_in m).queue.0 == queue) (now.0.marked ∙ sym own.0.marked) in
      let rest = known_goes by queue locks old new own.1 now.1 kept.1 in
      elim (cases_Bool (is_at queue p)) [
        | inl met ↦ rw (met, same ∙ met) (goes_unstamped by p.seen q.seen (subst (λ (b : ℕ). GoesOnWithout b p.seen q.seen) own.0.number kept.0))
        | inr unmet ↦ rw (unmet, same ∙ unmet) rest
      ]

  -- the caller's own calls are the same
  met_moments : (by : ℕ) (locks : List (QueueLock B)) (old new : List (QueuePass B)) → AllZip (IsPassOf by) locks old → AllZip KeepsOwn old new → calls_made by new ≡ calls_made by old
  met_moments by [] [] [] own kept = refl
  met_moments by [] [] (q ∷ new) own kept = absurd kept
  met_moments by [] (p ∷ old) new own kept = absurd own
  met_moments by (l ∷ locks) [] new own kept = absurd own
  met_moments by (l ∷ locks) (p ∷ old) [] own kept = absurd kept
  met_moments by (l ∷ locks) (p ∷ old) (q ∷ new) own kept =
      let same = subst (λ (b : ℕ). calls_by b q.seen ≡ calls_by b p.seen) own.0.number kept.0.calls in
      ap₂ (λ (xs ys : List (ℕ × ℕ)). xs ++ ys) (ap (map moment) same) (met_moments by locks old new own.1 kept.1)

  -- what was taken in before, and what is taken in now
  met_took : (by : ℕ) (passes notes others : List (QueuePass B)) → AllZip (TookPass by) passes others → AllZip (TookPass by) (all_met passes notes) others
  met_took by [] notes [] took = tt
  met_took by [] notes (o ∷ others) took = absurd took
  met_took by (p ∷ passes) notes [] took = absurd took
  met_took by (p ∷ passes) [] (o ∷ others) took = took
  met_took by (p ∷ passes) (n ∷ notes) (o ∷ others) took = (later_in (n.by, n.seen) p.took (by, o.seen) took.0, met_took by passes notes others took.1)

  met_takes : (other by : ℕ) (locks : List (QueueLock B)) (passes notes : List (QueuePass B)) → AllZip (IsPassOf other) locks passes → AllZip (IsPassOf by) locks notes → AllZip (TookPass by) (all_met passes notes) notes
  met_takes other by [] [] [] own theirs = tt
  met_takes other by [] [] (n ∷ notes) own theirs = absurd theirs
  met_takes other by [] (p ∷ passes) notes own theirs = absurd own
  met_takes other by (l ∷ locks) [] notes own theirs = absurd own
  met_takes other by (l ∷ locks) (p ∷ passes) [] own theirs = absurd theirs
  met_takes other by (l ∷ locks) (p ∷ passes) (n ∷ notes) own theirs = (
    subst (λ (b : ℕ). Contains ((n.by, n.seen) ∷ p.took) (b, n.seen)) theirs.0.number (first_in (n.by, n.seen) p.took),
    met_takes other by locks passes notes own.1 theirs.1,
  )

  pub took_one : (old new : List (Snapshot (Seats B))) (kept : Snapshot (Seats B)) (seats : Seats B) → new ≡ old ++ kept ∷ [] → kept.value ≡ seats → map (λ (s : Snapshot (Seats B)). s.value) new ≡ map (λ (s : Snapshot (Seats B)). s.value) old ++ seats ∷ []
  took_one old new kept seats pushed is =
      ap (map (λ (s : Snapshot (Seats B)). s.value)) pushed ∙ map-append (λ (s : Snapshot (Seats B)). s.value) old (kept ∷ [])
      ∙ ap (λ (t : Seats B). map (λ (s : Snapshot (Seats B)). s.value) old ++ t ∷ []) is

  pub one_longer : (old new : List (Snapshot (Seats B))) (kept : Snapshot (Seats B)) → new ≡ old ++ kept ∷ [] → length new ≡ length old + 1
  one_longer old new kept pushed = ap (λ (ss : List (Snapshot (Seats B))). length ss) pushed ∙ length-append old (kept ∷ [])

  pub first_passes : (gave : List ℕ) (passes : List (QueuePass B)) → AllByRecursion (Leads gave) passes → AllByRecursion IsFirstPass passes
  first_passes gave [] leads = tt
  first_passes gave (p ∷ passes) leads = (leads.0.is_first, first_passes gave passes leads.1)

  -- the first seats, and those that they took in
  pub record IsMet (seats : Seats B) (old new : FirstSeats B) : Type 0 where
    pub took : took_of new ≡ took_of old ++ seats ∷ []
    pub many : length new.took.items ≡ length old.took.items + 1
    pub number : new.seats.by ≡ old.seats.by
    pub step : new.seats.last.step ≡ old.seats.last.step
    pub stamp : old.seats.last.stamp ≤ new.seats.last.stamp
    pub queues : new.seats.queues.items ≡ all_met old.seats.queues.items seats.queues.items
    pub own_calls : AllZip KeepsOwn old.seats.queues.items new.seats.queues.items
    pub arrivals : new.seats.arrivals ≡ met old.seats.arrivals seats.arrivals
    pub own_arrivals : GoesOnWithout old.seats.arrivals.by old.seats.arrivals.seen new.seats.arrivals.seen
    pub times : new.seats.times ≡ record old.seats.times { knows = joined_times old.seats.times.knows seats.times.knows }
    pub turns : new.seats.turns ≡ joined_turns old.seats.turns seats.turns
    pub pass : new.seats.pass ≡ Some new.seats.arrivals
    pub intake : new.seats.intake ≡ old.seats.intake

  module _ (buffers : TableId) (locks : Locks B) (seats : Seats B) (old new : FirstSeats B) (first : IsFirst buffers locks old) (theirs : AreWhole buffers locks seats) (m : IsMet seats old new) where
    gave_same : gave_of new ≡ gave_of old
    gave_same = ap (λ (p : ArrivalsPass). p.gave) m.arrivals

    own_queues : AllZip (IsPassOf old.seats.by) locks.queues.items new.seats.queues.items
    own_queues =
        subst (λ (ps : List (QueuePass B)). AllZip (IsPassOf old.seats.by) locks.queues.items ps) (sym m.queues)
        (met_own old.seats.by locks.queues.items old.seats.queues.items seats.queues.items first.own.queues)

    arrivals_go : GoesOnWithout old.seats.by old.seats.arrivals.seen new.seats.arrivals.seen
    arrivals_go = subst (λ (b : ℕ). GoesOnWithout b old.seats.arrivals.seen new.seats.arrivals.seen) first.own.number m.own_arrivals

    moments_same : moments_of new.seats ≡ moments_of old.seats
    moments_same =
        ap (λ (b : ℕ). calls_made b new.seats.queues.items ++ (sent_in (calls_by b new.seats.arrivals.seen) ++ map post_moment (posts_of new.seats.intake))) m.number
        ∙ ap₂ (λ (xs ys : List (ℕ × ℕ)). xs ++ ys)
        (met_moments old.seats.by locks.queues.items old.seats.queues.items new.seats.queues.items first.own.queues m.own_calls)
        (ap₂ (λ calls at_intake. sent_in calls ++ map post_moment (posts_of at_intake)) arrivals_go.calls m.intake)

    in_order : IsInOrder new.seats.last (moments_of new.seats)
    in_order = subst (λ (xs : List (ℕ × ℕ)). IsInOrder new.seats.last xs) (sym moments_same) (record {
      step = λ n there. (let a = first.own.in_order.step n there in let b = m.step in omega (arith, a, b));
      stamp = λ n there. (let a = first.own.in_order.stamp n there in let b = m.stamp in omega (arith, a, b));
      rise = first.own.in_order.rise;
    })

    own_seats : AreSeats buffers locks new.seats
    own_seats = record {
      queues = subst (λ (b : ℕ). AllZip (IsPassOf b) locks.queues.items new.seats.queues.items) (sym m.number) own_queues;
      own_arrivals = ap (λ (p : ArrivalsPass). p.table) m.arrivals ∙ first.own.own_arrivals;
      marked = ap (λ (p : ArrivalsPass). p.mark) m.arrivals ∙ first.own.marked;
      number = ap (λ (p : ArrivalsPass). p.by) m.arrivals ∙ first.own.number ∙ sym m.number;
      own_times = ap (λ (v : TimesView). v.table) m.times ∙ first.own.own_times;
      own_turns = ap (λ (v : TurnsView). v.table) m.turns ∙ first.own.own_turns;
      in_order = in_order;
      takes = λ other. absurd (other (m.number ∙ first.number));
      pass =
          m.pass
          ∙ sym (ap (λ at_intake. pass_at at_intake new.seats.arrivals) m.intake ∙ first_pass_at locks old.seats.by old.seats.arrivals.gave old.seats.last old.seats.intake new.seats.arrivals first.number first.own.way);
      way =
          subst (λ (n : ℕ). IsAtIntake locks n new.seats.arrivals.gave new.seats.last new.seats.intake) (sym m.number)
          (subst (λ (bs : List ℕ). IsAtIntake locks old.seats.by bs new.seats.last new.seats.intake) (sym gave_same)
          (subst (λ at_intake. IsAtIntake locks old.seats.by old.seats.arrivals.gave new.seats.last at_intake) (sym m.intake)
          (way_later locks old.seats.by old.seats.arrivals.gave old.seats.last new.seats.last old.seats.intake m.stamp first.own.way)));
    }

    leads_all : AllByRecursion (Leads (gave_of new)) new.seats.queues.items
    leads_all =
        subst (λ (bs : List ℕ). AllByRecursion (Leads bs) new.seats.queues.items) (sym gave_same)
        (subst (λ (ps : List (QueuePass B)). AllByRecursion (Leads (gave_of old)) ps) (sym m.queues)
        (met_leads (gave_of old) old.seats.queues.items seats.queues.items first.queues))

    among_left : (these those more all : List (ℕ × ℕ)) → all ≡ those ++ more → AreAmong these those → AreAmong these all
    among_left these those more all is among = λ p there. subst (λ (xs : List (ℕ × ℕ)). Contains xs p) (sym is) (Contains-append_left those more p (among p there))

    among_right : (those more all : List (ℕ × ℕ)) → all ≡ those ++ more → AreAmong more all
    among_right those more all is = λ p there. subst (λ (xs : List (ℕ × ℕ)). Contains xs p) (sym is) (Contains-append_right those more p there)

    known_is : new.seats.times.knows.known ≡ old.seats.times.knows.known ++ seats.times.knows.known
    known_is = ap (λ (v : TimesView). v.knows.known) m.times

    signals_is : new.seats.times.knows.signals ≡ old.seats.times.knows.signals ++ seats.times.knows.signals
    signals_is = ap (λ (v : TimesView). v.knows.signals) m.times

    leaves_is : new.seats.turns.leaves ≡ old.seats.turns.leaves ++ seats.turns.leaves
    leaves_is = ap (λ (v : TurnsView). v.leaves) m.turns

    seen_is : new.seats.turns.seen ≡ old.seats.turns.seen ++ seats.turns.seen
    seen_is = ap (λ (v : TurnsView). v.seen) m.turns

    still_taken : (t : Seats B) → IsTaken old.seats buffers locks t → IsTaken new.seats buffers locks t
    still_taken t is = record {
      own = is.own;
      queues =
          subst (λ (ps : List (QueuePass B)). AllZip (TookPass t.by) ps t.queues.items) (sym m.queues)
          (met_took t.by old.seats.queues.items seats.queues.items t.queues.items is.queues);
      arrivals =
          subst (λ (p : ArrivalsPass). Contains p.took (t.by, t.arrivals.seen)) (sym m.arrivals)
          (later_in (seats.arrivals.by, seats.arrivals.seen) old.seats.arrivals.took (t.by, t.arrivals.seen) is.arrivals);
      known = among_left t.times.knows.known old.seats.times.knows.known seats.times.knows.known new.seats.times.knows.known known_is is.known;
      signals = among_left t.times.knows.signals old.seats.times.knows.signals seats.times.knows.signals new.seats.times.knows.signals signals_is is.signals;
      leaves = among_left t.turns.leaves old.seats.turns.leaves seats.turns.leaves new.seats.turns.leaves leaves_is is.leaves;
      seen = λ b. (let a = is.seen b in let sum = ap (greatest b) seen_is ∙ greatest-append b old.seats.turns.seen seats.turns.seen in let up = le-max_left (greatest b old.seats.turns.seen) (greatest b seats.turns.seen) in omega (arith, a, sum, up));
    }

    now_taken : IsTaken new.seats buffers locks seats
    now_taken = record {
      own = theirs;
      queues =
          subst (λ (ps : List (QueuePass B)). AllZip (TookPass seats.by) ps seats.queues.items) (sym m.queues)
          (met_takes old.seats.by seats.by locks.queues.items old.seats.queues.items seats.queues.items first.own.queues theirs.queues);
      arrivals =
          subst (λ (p : ArrivalsPass). Contains p.took (seats.by, seats.arrivals.seen)) (sym m.arrivals)
          (subst (λ (b : ℕ). Contains ((seats.arrivals.by, seats.arrivals.seen) ∷ old.seats.arrivals.took) (b, seats.arrivals.seen)) theirs.number
          (first_in (seats.arrivals.by, seats.arrivals.seen) old.seats.arrivals.took));
      known = among_right old.seats.times.knows.known seats.times.knows.known new.seats.times.knows.known known_is;
      signals = among_right old.seats.times.knows.signals seats.times.knows.signals new.seats.times.knows.signals signals_is;
      leaves = among_right old.seats.turns.leaves seats.turns.leaves new.seats.turns.leaves leaves_is;
      seen = λ b. (let sum = ap (greatest b) seen_is ∙ greatest-append b old.seats.turns.seen seats.turns.seen in let up = le-max_right (greatest b old.seats.turns.seen) (greatest b seats.turns.seen) in omega (arith, sum, up));
    }

    taken_all : (t : Seats B) → Contains (took_of new) t → IsTaken new.seats buffers locks t
    taken_all t there = elim (Contains-append_cases (took_of old) (seats ∷ []) t (subst (λ (ts : List (Seats B)). Contains ts t) m.took there)) [
      | inl before ↦ still_taken t (first.took t before)
      | inr last ↦ (elim (contains_cons seats [] t last) [
        | inl same ↦ subst (λ (s : Seats B). IsTaken new.seats buffers locks s) (sym same) now_taken
        | inr none ↦ absurd (let low = none.1 in omega (arith, low))
      ])
    ]

    pub first_after : length old.took.items < length (gave_of old) → IsFirst buffers locks new
    first_after out =
        let long = ap (λ (bs : List ℕ). length bs) gave_same in
        let many = m.many in
        record {
          own = own_seats;
          number = m.number ∙ first.number;
          queues = leads_all;
          arrivals = ap (λ (p : ArrivalsPass). p.is_first) m.arrivals ∙ first.arrivals;
          start = ap (λ (p : ArrivalsPass). p.start) m.arrivals ∙ first.start;
          times = ap (λ (v : TimesView). v.knows.is_first) m.times ∙ first.times;
          turns = ap (λ (v : TurnsView). v.is_first) m.turns ∙ first.turns;
          times_out = (let less = ap (λ (v : TimesView). v.knows.out) m.times in let was = first.times_out in omega (arith, long, many, less, was, out));
          turns_out = (let less = ap (λ (v : TurnsView). v.out) m.turns in let was = first.turns_out in omega (arith, long, many, less, was, out));
          took = taken_all;
        }

    calls_go : (queue : ℕ) → GoesOnWithout old.seats.by (calls_known old.seats.queues.items queue) (calls_known new.seats.queues.items queue)
    calls_go queue = known_goes old.seats.by queue locks.queues.items old.seats.queues.items new.seats.queues.items first.own.queues own_queues m.own_calls

    pub meets_after : Meets seats old new
    meets_after = record { gave = gave_same; took = m.took; number = m.number; times = m.times; turns = m.turns; queues = m.own_calls; calls = calls_go; arrivals = arrivals_go }

-- The first passes met those of a caller, one after another.
module _ {B : Type 0} where
  pub record MeetSoFar (old now all rest : List (QueuePass B)) (place : ℕ) : Type 0 where
    pub taken : List (QueuePass B)
    pub joined : taken ++ rest ≡ all
    pub count : length taken ≡ place
    pub now_is : now ≡ all_met old taken
    pub own_calls : AllZip KeepsOwn old now

  all_kept : (old : List (QueuePass B)) → AllZip KeepsOwn old old
  all_kept [] = tt
  all_kept (p ∷ old) = (record { begins = ([], refl); calls = refl }, all_kept old)

  none_met : (old : List (QueuePass B)) → all_met old [] ≡ old
  none_met [] = refl
  none_met (p ∷ old) = refl

  pub meet_starts : (old all rest : List (QueuePass B)) → rest ≡ all → MeetSoFar old old all rest 0
  meet_starts old all rest is = record { taken = []; joined = is; count = refl; now_is = sym (none_met old); own_calls = all_kept old }

  met_at : (old taken : List (QueuePass B)) (d : QueuePass B) → get_or (all_met old taken) (length taken) d ≡ get_or old (length taken) d
  met_at [] taken d = refl
  met_at (p ∷ old) [] d = refl
  met_at (p ∷ old) (n ∷ taken) d = met_at old taken d

  met_next : (old taken : List (QueuePass B)) (note d : QueuePass B) → length taken < length old → set (all_met old taken) (length taken) (met (get_or old (length taken) d) note) ≡ all_met old (taken ++ note ∷ [])
  met_next [] taken note d low = absurd (omega (arith, low))
  met_next (p ∷ old) [] note d low = ap (λ (ps : List (QueuePass B)). met p note ∷ ps) (sym (none_met old))
  met_next (p ∷ old) (n ∷ taken) note d low = ap (λ (ps : List (QueuePass B)). met p n ∷ ps) (met_next old taken note d (omega (arith, low)))

  pub met_long : (old taken : List (QueuePass B)) → length (all_met old taken) ≡ length old
  met_long [] taken = refl
  met_long (p ∷ old) [] = refl
  met_long (p ∷ old) (n ∷ taken) = (let rest = met_long old taken in omega (arith, rest))

  kept_set : (old now : List (QueuePass B)) (place : ℕ) (next d : QueuePass B) → AllZip KeepsOwn old now → place < length old → KeepsOwn (get_or old place d) next → AllZip KeepsOwn old (set now place next)
  kept_set [] [] place next d kept low new = tt
  kept_set [] (q ∷ now) place next d kept low new = absurd kept
  kept_set (p ∷ old) [] place next d kept low new = absurd kept
  kept_set (p ∷ old) (q ∷ now) zero next d kept low new = (new, kept.1)
  kept_set (p ∷ old) (q ∷ now) (suc place) next d kept low new = (kept.0, kept_set old now place next d kept.1 (omega (arith, low)) new)

  pushed_long : (taken : List (QueuePass B)) (note : QueuePass B) → length (taken ++ note ∷ []) ≡ length taken + 1
  pushed_long [] note = refl
  pushed_long (n ∷ taken) note = (let rest = pushed_long taken note in omega (arith, rest))

  pushed_joined : (taken rest : List (QueuePass B)) (note : QueuePass B) → (taken ++ note ∷ []) ++ rest ≡ taken ++ (note ∷ rest)
  pushed_joined [] rest note = refl
  pushed_joined (n ∷ taken) rest note = ap (λ (ps : List (QueuePass B)). n ∷ ps) (pushed_joined taken rest note)

  behind : (taken rest : List (QueuePass B)) (note d : QueuePass B) → get_or (taken ++ (note ∷ rest)) (length taken) d ≡ note
  behind [] rest note d = refl
  behind (n ∷ taken) rest note d = behind taken rest note d

  join_long : (taken rest : List (QueuePass B)) → length (taken ++ rest) ≡ length taken + length rest
  join_long [] rest = omega arith
  join_long (n ∷ taken) rest = (let more = join_long taken rest in omega (arith, more))

  pub met_there : (old now all rest : List (QueuePass B)) (place : ℕ) (d : QueuePass B) → MeetSoFar old now all rest place → get_or now place d ≡ get_or old place d
  met_there old now all rest place d so =
      ap (λ (ps : List (QueuePass B)). get_or ps place d) so.now_is ∙ ap (λ (k : ℕ). get_or (all_met old so.taken) k d) (sym so.count) ∙ met_at old so.taken d ∙ ap (λ (k : ℕ). get_or old k d) so.count

  pub note_there : (old now all rest : List (QueuePass B)) (place : ℕ) (note d : QueuePass B) → MeetSoFar old now all (note ∷ rest) place → get_or all place d ≡ note
  note_there old now all rest place note d so =
      ap (λ (ps : List (QueuePass B)). get_or ps place d) (sym so.joined) ∙ ap (λ (k : ℕ). get_or (so.taken ++ (note ∷ rest)) k d) (sym so.count) ∙ behind so.taken rest note d

  pub meet_goes_on : (old now all before rest : List (QueuePass B)) (place : ℕ) (note d next : QueuePass B) → MeetSoFar old now all before place → before ≡ note ∷ rest → place < length old → next ≡ met (get_or now place d) note → KeepsOwn (get_or now place d) next → MeetSoFar old (set now place next) all rest (place + 1)
  meet_goes_on old now all before rest place note d next so comes low is own =
      let here = met_there old now all before place d so in
      record {
        taken = so.taken ++ note ∷ [];
        joined = pushed_joined so.taken rest note ∙ ap (λ (ps : List (QueuePass B)). so.taken ++ ps) (sym comes) ∙ so.joined;
        count = pushed_long so.taken note ∙ ap (λ (k : ℕ). k + 1) so.count;
        now_is =
            ap (λ (ps : List (QueuePass B)). set ps place next) so.now_is
            ∙ ap₂ (λ (k : ℕ) (p : QueuePass B). set (all_met old so.taken) k p) (sym so.count)
            (is ∙ ap (λ (p : QueuePass B). met p note) (here ∙ ap (λ (k : ℕ). get_or old k d) (sym so.count)))
            ∙ met_next old so.taken note d (let c = so.count in omega (arith, low, c));
        own_calls = kept_set old now place next d so.own_calls low (subst (λ (p : QueuePass B). KeepsOwn p next) here own);
      }

  -- the pass that comes is that of its lock
  pub note_own : (locks : List (QueueLock B)) (old now all before rest : List (QueuePass B)) (place : ℕ) (note : QueuePass B) (lock : QueueLock B) → MeetSoFar old now all before place → before ≡ note ∷ rest → AllZip IsAt locks all → place < length locks → note.table ≡ (get_or locks place lock).lock
  note_own locks old now all before rest place note lock so comes own low =
      let there = note_there old now all rest place note note (subst (λ (ps : List (QueuePass B)). MeetSoFar old now all ps place) comes so) in
      subst (λ (p : QueuePass B). p.table ≡ (get_or locks place lock).lock) there (zip_at IsAt locks all place lock note own low)

  -- while there are places there are passes
  pub meet_more : (old now all rest : List (QueuePass B)) (place : ℕ) → MeetSoFar old now all rest place → length all ≡ length old → place < length old → rest ≡ [] → ⊥
  meet_more old now all rest place so long low none =
      let a = ap (λ (ps : List (QueuePass B)). length ps) so.joined in
      let b = join_long so.taken rest in
      let c = ap (λ (ps : List (QueuePass B)). length ps) none in
      let d = so.count in
      omega (arith, long, low, a, b, c, d)

  pub meet_ends : (old now all rest : List (QueuePass B)) (place : ℕ) → MeetSoFar old now all rest place → length all ≡ length old → length old ≤ place → now ≡ all_met old all
  meet_ends old now all rest place so long high =
      let a = ap (λ (ps : List (QueuePass B)). length ps) so.joined in
      let b = join_long so.taken rest in
      let d = so.count in
      let none : rest ≡ [] = nil_from_length rest (omega (arith, long, high, a, b, d)) in
      so.now_is ∙ ap (all_met old) (sym (append-nil so.taken) ∙ ap (λ (ps : List (QueuePass B)). so.taken ++ ps) (sym none) ∙ so.joined)

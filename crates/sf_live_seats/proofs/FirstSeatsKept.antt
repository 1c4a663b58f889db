-- The first seats, after they made calls.
use Rattle.std.proofs.Common.{◌≡◌, ℕ, List, [], ◌∷◌, length, arith, ap, ◌∙◌, sym, refl, subst}
use Rattle.std.specs.Prelude.{map, Contains}
use Rattle.std.specs.List.{AllByRecursion, AllZip}
use Rattle.std.proofs.lemmas.List.Elements.{Contains-append_left}
use Rattle.atomic_table.specs.Seated.{TableId}
use Rattle.sf_actor.specs.Known.{AreAmong, CountsRise}
use Rattle.sf_actor.specs.sf_surface.Reading.{EyeMark}
use Rattle.sf_times.specs.Seats.{all_loaded}
use Rattle.sf_times.specs.Views.{SeatView as TimesView}
use Rattle.sf_live_seats.specs.declared.first.FirstSeats.{FirstSeats}
use Rattle.sf_live_seats.specs.declared.locks.Locks.{Locks}
use Rattle.sf_live_seats.specs.declared.seats.Seats.{Seats}
use Rattle.sf_live_seats.specs.Arriving.{ArrivalsPass}
use Rattle.sf_live_seats.specs.Observers.{SeatGoesOn}
use Rattle.sf_live_seats.specs.First.{IsFirst, Leads, TookPass, gave_of}
use Rattle.sf_live_seats.specs.Moves.{ChangesArrivals, ChangesPasses, MovesPass, Stays}
use Rattle.sf_live_seats.specs.Seats.{AreSeats, QueuePass}

among_on : (these those more : List (ℕ × ℕ)) → AreAmong these those → AreAmong those more → AreAmong these more
among_on these those more first second = λ p there. second p (first p there)

module _ {B : Type 0} where
  lead_on : (gave : List ℕ) (old new : List (QueuePass B)) → AllZip MovesPass old new → AllByRecursion (Leads gave) old → AllByRecursion (Leads gave) new
  lead_on gave [] [] moves leads = tt
  lead_on gave [] (q ∷ new) moves leads = absurd moves
  lead_on gave (p ∷ old) [] moves leads = absurd moves
  lead_on gave (p ∷ old) (q ∷ new) moves leads = (
    record {
      is_first = ap (λ (v : QueuePass B). v.is_first) moves.0.same ∙ leads.0.is_first;
      gave_is = ap (λ (v : QueuePass B). v.gave) moves.0.same ∙ leads.0.gave_is;
      start = ap (λ (v : QueuePass B). v.start) moves.0.same ∙ leads.0.start;
    },
    lead_on gave old new moves.1 leads.1,
  )

  took_on : (by : ℕ) (old new others : List (QueuePass B)) → AllZip MovesPass old new → AllZip (TookPass by) old others → AllZip (TookPass by) new others
  took_on by [] [] others moves took = took
  took_on by [] (q ∷ new) others moves took = absurd moves
  took_on by (p ∷ old) [] others moves took = absurd moves
  took_on by (p ∷ old) (q ∷ new) [] moves took = absurd took
  took_on by (p ∷ old) (q ∷ new) (o ∷ others) moves took = (
    subst (λ (t : List (ℕ × List _)). Contains t (by, o.seen)) (sym (ap (λ (v : QueuePass B). v.took) moves.0.same)) took.0,
    took_on by old new others moves.1 took.1,
  )

  pub stays_first : (buffers : TableId) (locks : Locks B) (old new : FirstSeats B) → IsFirst buffers locks old → AreSeats buffers locks new.seats → Stays old.seats new.seats → new.took ≡ old.took → IsFirst buffers locks new
  stays_first buffers locks old new first own stays same =
      let gave : gave_of new ≡ gave_of old = ap (λ (p : ArrivalsPass). p.gave) stays.arrivals in
      let long = ap (λ (bs : List ℕ). length bs) gave in
      let many = ap (λ ts. length ts.items) same in
      record {
        own = own;
        number = stays.number ∙ first.number;
        queues =
            subst (λ (bs : List ℕ). AllByRecursion (Leads bs) new.seats.queues.items) (sym gave)
            (lead_on (gave_of old) old.seats.queues.items new.seats.queues.items stays.passes first.queues);
        arrivals = ap (λ (p : ArrivalsPass). p.is_first) stays.arrivals ∙ first.arrivals;
        start = ap (λ (p : ArrivalsPass). p.start) stays.arrivals ∙ first.start;
        times = stays.times.0 ∙ first.times;
        turns = stays.turns.0 ∙ first.turns;
        times_out = (let out = stays.times.1 in let was = first.times_out in omega (arith, long, many, out, was));
        turns_out = (let out = stays.turns.1 in let was = first.turns_out in omega (arith, long, many, out, was));
        took = λ t there.
            let is = first.took t (subst (λ (ts : List (Seats B)). Contains ts t) (ap (λ ts. map (λ s. s.value) ts.items) same) there) in
            record {
              own = is.own;
              queues = took_on t.by old.seats.queues.items new.seats.queues.items t.queues.items stays.passes is.queues;
              arrivals = subst (λ (p : ArrivalsPass). Contains p.took (t.by, t.arrivals.seen)) (sym stays.arrivals) is.arrivals;
              known = among_on t.times.knows.known old.seats.times.knows.known new.seats.times.knows.known is.known stays.known;
              signals = among_on t.times.knows.signals old.seats.times.knows.signals new.seats.times.knows.signals is.signals stays.signals;
              leaves = among_on t.turns.leaves old.seats.turns.leaves new.seats.turns.leaves is.leaves stays.leaves;
              seen = λ b. (let a = is.seen b in let d = stays.seen b in omega (arith, a, d));
            };
      }

  all_move : (passes : List (QueuePass B)) → AllZip MovesPass passes passes
  all_move [] = tt
  all_move (p ∷ passes) = (record { same = refl; begins = ([], refl) }, all_move passes)

  pub stays_called : (old new : Seats B) → ChangesPasses old new → Stays old new
  stays_called old new changes = record {
    number = ap (λ (s : Seats B). s.by) changes.same;
    passes = changes.passes;
    arrivals = (let same = ap (λ (s : Seats B). s.arrivals) changes.same in subst (λ (p : ArrivalsPass). p ≡ record old.arrivals { seen = p.seen; turns = p.turns }) (sym same) refl);
    begins = ([], ap (λ (s : Seats B). s.arrivals.seen) changes.same);
    times = (ap (λ (s : Seats B). s.times.knows.is_first) changes.same, ap (λ (s : Seats B). s.times.knows.out) changes.same);
    known = subst (λ (ps : List (ℕ × ℕ)). AreAmong old.times.knows.known ps) (sym (ap (λ (s : Seats B). s.times.knows.known) changes.same)) (λ p there. there);
    signals = subst (λ (ps : List (ℕ × ℕ)). AreAmong old.times.knows.signals ps) (sym (ap (λ (s : Seats B). s.times.knows.signals) changes.same)) (λ p there. there);
    turns = (ap (λ (s : Seats B). s.turns.is_first) changes.same, ap (λ (s : Seats B). s.turns.out) changes.same);
    leaves = subst (λ (ps : List (ℕ × ℕ)). AreAmong old.turns.leaves ps) (sym (ap (λ (s : Seats B). s.turns.leaves) changes.same)) (λ p there. there);
    seen = subst (λ (ps : List (ℕ × ℕ)). CountsRise old.turns.seen ps) (sym (ap (λ (s : Seats B). s.turns.seen) changes.same)) (λ b. omega arith);
  }

  pub stays_sent : (old new : Seats B) → ChangesArrivals old new → Stays old new
  stays_sent old new changes = record {
    number = ap (λ (s : Seats B). s.by) changes.same;
    passes = subst (λ (ps : List (QueuePass B)). AllZip MovesPass old.queues.items ps) (sym (ap (λ (s : Seats B). s.queues.items) changes.same)) (all_move old.queues.items);
    arrivals = changes.pass;
    begins = changes.begins;
    times = (ap (λ (s : Seats B). s.times.knows.is_first) changes.same, ap (λ (s : Seats B). s.times.knows.out) changes.same);
    known = subst (λ (ps : List (ℕ × ℕ)). AreAmong old.times.knows.known ps) (sym (ap (λ (s : Seats B). s.times.knows.known) changes.same)) (λ p there. there);
    signals = subst (λ (ps : List (ℕ × ℕ)). AreAmong old.times.knows.signals ps) (sym (ap (λ (s : Seats B). s.times.knows.signals) changes.same)) (λ p there. there);
    turns = (ap (λ (s : Seats B). s.turns.is_first) changes.same, ap (λ (s : Seats B). s.turns.out) changes.same);
    leaves = subst (λ (ps : List (ℕ × ℕ)). AreAmong old.turns.leaves ps) (sym (ap (λ (s : Seats B). s.turns.leaves) changes.same)) (λ p there. there);
    seen = subst (λ (ps : List (ℕ × ℕ)). CountsRise old.turns.seen ps) (sym (ap (λ (s : Seats B). s.turns.seen) changes.same)) (λ b. omega arith);
  }

  -- after a look at all timelines
  pub stays_seen : (old new : Seats B) (points : List (ℕ × ℕ)) → new ≡ record old { times = new.times } → new.times ≡ record old.times { knows = all_loaded old.times.knows points } → Stays old new
  stays_seen old new points same seen = record {
    number = ap (λ (s : Seats B). s.by) same;
    passes = subst (λ (ps : List (QueuePass B)). AllZip MovesPass old.queues.items ps) (sym (ap (λ (s : Seats B). s.queues.items) same)) (all_move old.queues.items);
    arrivals = (let is = ap (λ (s : Seats B). s.arrivals) same in subst (λ (p : ArrivalsPass). p ≡ record old.arrivals { seen = p.seen; turns = p.turns }) (sym is) refl);
    begins = ([], ap (λ (s : Seats B). s.arrivals.seen) same);
    times = (ap (λ (v : TimesView). v.knows.is_first) seen, ap (λ (v : TimesView). v.knows.out) seen);
    known = subst (λ (ps : List (ℕ × ℕ)). AreAmong old.times.knows.known ps) (sym (ap (λ (v : TimesView). v.knows.known) seen)) (λ p there. Contains-append_left old.times.knows.known points p there);
    signals = subst (λ (ps : List (ℕ × ℕ)). AreAmong old.times.knows.signals ps) (sym (ap (λ (v : TimesView). v.knows.signals) seen)) (λ p there. there);
    turns = (ap (λ (s : Seats B). s.turns.is_first) same, ap (λ (s : Seats B). s.turns.out) same);
    leaves = subst (λ (ps : List (ℕ × ℕ)). AreAmong old.turns.leaves ps) (sym (ap (λ (s : Seats B). s.turns.leaves) same)) (λ p there. there);
    seen = subst (λ (ps : List (ℕ × ℕ)). CountsRise old.turns.seen ps) (sym (ap (λ (s : Seats B). s.turns.seen) same)) (λ b. omega arith);
  }

  pub stays_looked : (old new : Seats B) → new ≡ record old { turns = new.turns } → SeatGoesOn old.turns new.turns → Stays old new
  stays_looked old new same goes = record {
    number = ap (λ (s : Seats B). s.by) same;
    passes = subst (λ (ps : List (QueuePass B)). AllZip MovesPass old.queues.items ps) (sym (ap (λ (s : Seats B). s.queues.items) same)) (all_move old.queues.items);
    arrivals = (let is = ap (λ (s : Seats B). s.arrivals) same in subst (λ (p : ArrivalsPass). p ≡ record old.arrivals { seen = p.seen; turns = p.turns }) (sym is) refl);
    begins = ([], ap (λ (s : Seats B). s.arrivals.seen) same);
    times = (ap (λ (s : Seats B). s.times.knows.is_first) same, ap (λ (s : Seats B). s.times.knows.out) same);
    known = subst (λ (ps : List (ℕ × ℕ)). AreAmong old.times.knows.known ps) (sym (ap (λ (s : Seats B). s.times.knows.known) same)) (λ p there. there);
    signals = subst (λ (ps : List (ℕ × ℕ)). AreAmong old.times.knows.signals ps) (sym (ap (λ (s : Seats B). s.times.knows.signals) same)) (λ p there. there);
    turns = (ap (λ (m : EyeMark). m.is_first) goes.mark, ap (λ (m : EyeMark). m.out) goes.mark);
    leaves = goes.left;
    seen = goes.counts;
  }

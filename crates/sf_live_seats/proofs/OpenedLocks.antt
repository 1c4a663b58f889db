-- Queues that are put under locks, and taken out of them, one after another.
use Rattle.std.proofs.Common.{◌≡◌, ℕ, List, [], ◌∷◌, ◌++◌, inl, inr, length, true, Some, ap, ap₂, ◌∙◌, sym, refl, subst, arith}
use Rattle.std.specs.Prelude.{Bool, map, Contains}
use Rattle.std.specs.List.{AllByRecursion, AllZip}
use Rattle.std.proofs.lemmas.Bool.{cases_Bool}
use Rattle.std.proofs.lemmas.List.{append-nil}
use Rattle.atomic_table.specs.Seated.{TableId}
use Rattle.sf_calls.specs.Histories.{calls_by}
use Rattle.sf_calls.specs.Passes.{first_pass}
use Rattle.sf_calls_stamped.specs.Stamps.{unstamped}
use Rattle.sf_actor.specs.sf_surface.declared.mark.QueueMark.{QueueMark}
use Rattle.sf_actor.specs.sf_surface.Objects.{ObjectOf, mark_of}
use Rattle.sf_times.specs.Seats.{IsAlone}
use Rattle.sf_times.specs.Views.{SeatView as TimesView}
use Rattle.sf_intake.specs.sf_token.Arrivals.{sent}
use Rattle.sf_turns.specs.Views.{SeatView as TurnsView}
use Rattle.sf_live_seats.specs.declared.first.FirstSeats.{FirstSeats}
use Rattle.sf_live_seats.specs.declared.locks.Locks.{Locks}
use Rattle.sf_live_seats.specs.declared.locks.QueueLock.{QueueLock}
use Rattle.sf_live_seats.specs.declared.seats.Seats.{Seats}
use Rattle.sf_live_seats.specs.Arriving.{ArrivalsPass}
use Rattle.sf_live_seats.specs.Closing.{AreClosed, AreOpened, HasNoCalls, IsClosed, IsLast, IsOpened, Opens, OpensIntake}
use Rattle.sf_live_seats.specs.First.{IsFirst, KnowsNothing, Leads, gave_of}
use Rattle.sf_live_seats.proofs.GivenSeats.{no_moments, none_in_order}
use Rattle.sf_live_seats.specs.Seats.{AreSeats, IsInOrder, IsPassOf, QueuePass, calls_known, is_at, lock_mark, moments_of, post_moment, sent_in}
use Rattle.sf_live_seats.proofs.IntakeHands.{OpensAt, opens_at}

appended : {X : Type 0} (xs ys : List X) (x : X) → (xs ++ x ∷ []) ++ ys ≡ xs ++ (x ∷ ys)
appended [] ys x = refl
appended (z ∷ xs) ys x = ap (λ rest. z ∷ rest) (appended xs ys x)

module _ {B : Type 0} where
  -- those that were opened, with those still to come, are all
  pub record OpenSoFar (all rest : List (ObjectOf B)) (locks : List (QueueLock B)) (passes : List (QueuePass B)) : Type 0 where
    pub none : AllByRecursion HasNoCalls rest
    pub opens : (ls : List (QueueLock B)) (ps : List (QueuePass B)) → AreOpened rest ls ps → AreOpened all (locks ++ ls) (passes ++ ps)

  pub open_starts : (all rest : List (ObjectOf B)) (locks : List (QueueLock B)) (passes : List (QueuePass B)) → locks ≡ [] → passes ≡ [] → rest ≡ all → AllByRecursion HasNoCalls all → OpenSoFar all rest locks passes
  open_starts all rest locks passes no_locks no_passes same none = record {
    none = subst (λ (os : List (ObjectOf B)). AllByRecursion HasNoCalls os) (sym same) none;
    opens = λ ls ps are.
        subst (λ (xs : List (QueueLock B)). AreOpened all (xs ++ ls) (passes ++ ps)) (sym no_locks)
        (subst (λ (xs : List (QueuePass B)). AreOpened all ls (xs ++ ps)) (sym no_passes) (subst (λ (os : List (ObjectOf B)). AreOpened os ls ps) same are));
  }

  pub open_goes_on : (all rest : List (ObjectOf B)) (locks locks' : List (QueueLock B)) (passes passes' : List (QueuePass B)) (object : ObjectOf B) (lock : QueueLock B) (pass : QueuePass B) → OpenSoFar all (object ∷ rest) locks passes → IsOpened object lock pass → locks' ≡ locks ++ lock ∷ [] → passes' ≡ passes ++ pass ∷ [] → OpenSoFar all rest locks' passes'
  open_goes_on all rest locks locks' passes passes' object lock pass so is pushed_lock pushed_pass = record {
    none = so.none.1;
    opens = λ ls ps are.
        subst (λ (xs : List (QueueLock B)). AreOpened all xs (passes' ++ ps)) (sym (ap (λ (xs : List (QueueLock B)). xs ++ ls) pushed_lock ∙ appended locks ls lock))
        (subst (λ (xs : List (QueuePass B)). AreOpened all (locks ++ (lock ∷ ls)) xs) (sym (ap (λ (xs : List (QueuePass B)). xs ++ ps) pushed_pass ∙ appended passes ps pass))
        (so.opens (lock ∷ ls) (pass ∷ ps) (is, are)));
  }

  pub open_ends : (all rest : List (ObjectOf B)) (locks : List (QueueLock B)) (passes : List (QueuePass B)) → OpenSoFar all rest locks passes → rest ≡ [] → AreOpened all locks passes
  open_ends all rest locks passes so none =
      subst (λ (xs : List (QueueLock B)). AreOpened all xs passes) (append-nil locks)
      (subst (λ (xs : List (QueuePass B)). AreOpened all (locks ++ []) xs) (append-nil passes) (so.opens [] [] (subst (λ (os : List (ObjectOf B)). AreOpened os [] []) (sym none) tt)))

  -- those that were closed, with those still to come, are all
  pub record CloseSoFar (all_locks locks : List (QueueLock B)) (all_passes passes : List (QueuePass B)) (objects : List (ObjectOf B)) : Type 0 where
    pub last : AllZip IsLast locks passes
    pub closes : (more : List (ObjectOf B)) → AreClosed locks passes more → AreClosed all_locks all_passes (objects ++ more)

  pub close_starts : (all_locks locks : List (QueueLock B)) (all_passes passes : List (QueuePass B)) (objects : List (ObjectOf B)) → locks ≡ all_locks → passes ≡ all_passes → objects ≡ [] → AllZip IsLast all_locks all_passes → CloseSoFar all_locks locks all_passes passes objects
  close_starts all_locks locks all_passes passes objects same_locks same_passes none last = record {
    last = subst (λ (xs : List (QueueLock B)). AllZip IsLast xs passes) (sym same_locks) (subst (λ (xs : List (QueuePass B)). AllZip IsLast all_locks xs) (sym same_passes) last);
    closes = λ more closed.
        subst (λ (xs : List (ObjectOf B)). AreClosed all_locks all_passes (xs ++ more)) (sym none)
        (subst (λ (xs : List (QueueLock B)). AreClosed xs all_passes more) same_locks (subst (λ (xs : List (QueuePass B)). AreClosed locks xs more) same_passes closed));
  }

  pub close_goes_on : (all_locks locks : List (QueueLock B)) (all_passes passes : List (QueuePass B)) (objects objects' : List (ObjectOf B)) (lock : QueueLock B) (pass : QueuePass B) (object : ObjectOf B) → CloseSoFar all_locks (lock ∷ locks) all_passes (pass ∷ passes) objects → IsClosed lock pass object → objects' ≡ objects ++ object ∷ [] → CloseSoFar all_locks locks all_passes passes objects'
  close_goes_on all_locks locks all_passes passes objects objects' lock pass object so is pushed = record {
    last = so.last.1;
    closes = λ more closed.
        subst (λ (xs : List (ObjectOf B)). AreClosed all_locks all_passes xs) (sym (ap (λ (xs : List (ObjectOf B)). xs ++ more) pushed ∙ appended objects more object)) (so.closes (object ∷ more) (is, closed));
  }

  -- a lock that is left has its pass
  pub has_pass : (locks : List (QueueLock B)) (passes : List (QueuePass B)) (lock : QueueLock B) → AllZip IsLast (lock ∷ locks) passes → passes ≡ [] → ⊥
  has_pass locks passes lock last none = subst (λ (xs : List (QueuePass B)). AllZip IsLast (lock ∷ locks) xs) none last

  pub close_ends : (all_locks locks : List (QueueLock B)) (all_passes passes : List (QueuePass B)) (objects : List (ObjectOf B)) → CloseSoFar all_locks locks all_passes passes objects → locks ≡ [] → AreClosed all_locks all_passes objects
  close_ends all_locks locks all_passes passes objects so none =
      by_passes passes (subst (λ (xs : List (QueueLock B)). AllZip IsLast xs passes) none so.last) (λ more closed. so.closes more (subst (λ (xs : List (QueueLock B)). AreClosed xs passes more) (sym none) closed))
    where
      by_passes : (ps : List (QueuePass B)) → AllZip IsLast [] ps → ((more : List (ObjectOf B)) → AreClosed [] ps more → AreClosed all_locks all_passes (objects ++ more)) → AreClosed all_locks all_passes objects
      by_passes [] last closes = subst (λ (xs : List (ObjectOf B)). AreClosed all_locks all_passes xs) (append-nil objects) (closes [] tt)
      by_passes (p ∷ ps) last closes = absurd last

  -- what was opened, for the first caller
  opened_own : (objects : List (ObjectOf B)) (locks : List (QueueLock B)) (passes : List (QueuePass B)) → AreOpened objects locks passes → AllZip (IsPassOf 0) locks passes
  opened_own [] [] [] are = tt
  opened_own [] [] (p ∷ passes) are = absurd are
  opened_own [] (l ∷ locks) passes are = absurd are
  opened_own (o ∷ objects) [] passes are = absurd are
  opened_own (o ∷ objects) (l ∷ locks) [] are = absurd are
  opened_own (o ∷ objects) (l ∷ locks) (p ∷ passes) are = (
    record {
      own = ap (λ (q : QueuePass B). q.table) are.0.leads;
      number = ap (λ (q : QueuePass B). q.by) are.0.leads;
      marked = ap (λ (q : QueuePass B). q.mark) are.0.leads ∙ ap (λ (x : ObjectOf B). Some (mark_of x)) (sym are.0.opened);
      numbered = are.0.number ∙ ap (λ (x : ObjectOf B). x.queue.number) (sym are.0.opened);
    },
    opened_own objects locks passes are.1,
  )

  opened_leads : (objects : List (ObjectOf B)) (locks : List (QueueLock B)) (passes : List (QueuePass B)) → AreOpened objects locks passes → AllByRecursion (Leads []) passes
  opened_leads [] [] [] are = tt
  opened_leads [] [] (p ∷ passes) are = absurd are
  opened_leads [] (l ∷ locks) passes are = absurd are
  opened_leads (o ∷ objects) [] passes are = absurd are
  opened_leads (o ∷ objects) (l ∷ locks) [] are = absurd are
  opened_leads (o ∷ objects) (l ∷ locks) (p ∷ passes) are = (
    record {
      is_first = ap (λ (q : QueuePass B). q.is_first) are.0.leads;
      gave_is = ap (λ (q : QueuePass B). q.gave) are.0.leads;
      start = ap (λ (q : QueuePass B). q.start) are.0.leads;
    },
    opened_leads objects locks passes are.1,
  )

  opened_nothing : (objects : List (ObjectOf B)) (locks : List (QueueLock B)) (passes : List (QueuePass B)) → AreOpened objects locks passes → AllByRecursion (λ (pass : QueuePass B). pass.seen ≡ []) passes
  opened_nothing [] [] [] are = tt
  opened_nothing [] [] (p ∷ passes) are = absurd are
  opened_nothing [] (l ∷ locks) passes are = absurd are
  opened_nothing (o ∷ objects) [] passes are = absurd are
  opened_nothing (o ∷ objects) (l ∷ locks) [] are = absurd are
  opened_nothing (o ∷ objects) (l ∷ locks) (p ∷ passes) are = (ap (λ (q : QueuePass B). q.seen) are.0.leads, opened_nothing objects locks passes are.1)

  opened_marks : (objects : List (ObjectOf B)) (locks : List (QueueLock B)) (passes : List (QueuePass B)) → AreOpened objects locks passes → map lock_mark locks ≡ map mark_of objects
  opened_marks [] [] [] are = refl
  opened_marks [] [] (p ∷ passes) are = absurd are
  opened_marks [] (l ∷ locks) passes are = absurd are
  opened_marks (o ∷ objects) [] passes are = absurd are
  opened_marks (o ∷ objects) (l ∷ locks) [] are = absurd are
  opened_marks (o ∷ objects) (l ∷ locks) (p ∷ passes) are =
      ap₂ (λ (m : QueueMark) (ms : List QueueMark). m ∷ ms) (ap mark_of are.0.opened) (opened_marks objects locks passes are.1)

  no_calls : (passes : List (QueuePass B)) (queue : ℕ) → AllByRecursion (λ (pass : QueuePass B). pass.seen ≡ []) passes → calls_known passes queue ≡ []
  no_calls [] queue none = refl
  no_calls (p ∷ passes) queue none = elim (cases_Bool (is_at queue p)) [
    | inl met ↦ rw met (ap unstamped none.0)
    | inr unmet ↦ rw unmet (no_calls passes queue none.1)
  ]

  -- the first caller's seats, as they are made of what was opened
  pub record IsMade (tells : Bool) (objects : List (ObjectOf B)) (times : TimesView) (turns : TurnsView) (locks : Locks B) (first : FirstSeats B) : Type 0 where
    pub queues : AreOpened objects locks.queues.items first.seats.queues.items
    pub number : first.seats.by ≡ 0
    pub step : first.seats.last.step ≡ 0
    pub arrivals : first.seats.arrivals ≡ first_pass locks.arrivals 0 tt []
    pub times_is : first.seats.times ≡ times
    pub own_times : times.table ≡ locks.times
    pub turns_is : first.seats.turns ≡ turns
    pub took : first.took.items ≡ []
    pub pass : first.seats.pass ≡ Some first.seats.arrivals
    pub intake : OpensIntake tells locks.intake first.seats.intake

  module _ (buffers : TableId) (tells : Bool) (objects : List (ObjectOf B)) (times : TimesView) (turns : TurnsView) (locks : Locks B) (first : FirstSeats B) (alone : IsAlone times.knows) (own : turns.table ≡ buffers) (is_first : turns.is_first ≡ true) (none_out : turns.out ≡ 0) (m : IsMade tells objects times turns locks first) where
    opens : OpensAt tells locks first.seats.intake
    opens = opens_at tells locks first.seats.intake m.intake

    arrived : first.seats.arrivals.seen ≡ []
    arrived = ap (λ (p : ArrivalsPass). p.seen) m.arrivals

    gave_none : gave_of first ≡ []
    gave_none = ap (λ (p : ArrivalsPass). p.gave) m.arrivals

    nothing : KnowsNothing first.seats
    nothing = record { queues = opened_nothing objects locks.queues.items first.seats.queues.items m.queues; arrivals = arrived; posts = opens.posts; unfinished = opens.unfinished }

    moments : moments_of first.seats ≡ []
    moments =
        ap₂ (λ (xs ys : List (ℕ × ℕ)). xs ++ ys) (no_moments first.seats.by first.seats.queues.items nothing.queues)
        (ap₂ (λ calls posts. sent_in (calls_by first.seats.by calls) ++ map post_moment posts) arrived opens.posts)

    own_seats : AreSeats buffers locks first.seats
    own_seats = record {
      queues = subst (λ (b : ℕ). AllZip (IsPassOf b) locks.queues.items first.seats.queues.items) (sym m.number) (opened_own objects locks.queues.items first.seats.queues.items m.queues);
      own_arrivals = ap (λ (p : ArrivalsPass). p.table) m.arrivals;
      marked = ap (λ (p : ArrivalsPass). p.mark) m.arrivals;
      number = ap (λ (p : ArrivalsPass). p.by) m.arrivals ∙ sym m.number;
      own_times = ap (λ (v : TimesView). v.table) m.times_is ∙ m.own_times;
      own_turns = ap (λ (v : TurnsView). v.table) m.turns_is ∙ own;
      in_order = subst (λ (xs : List (ℕ × ℕ)). IsInOrder first.seats.last xs) (sym moments) (none_in_order first.seats.last);
      takes = λ other. absurd (other m.number);
      pass = m.pass ∙ sym (opens.same_pass first.seats.arrivals);
      way = opens.way first.seats.by first.seats.arrivals.gave first.seats.last m.number;
    }

    pub first_made : IsFirst buffers locks first
    first_made =
        let gave = ap (λ (bs : List ℕ). length bs) gave_none in
        let took = ap (λ ts. length ts) m.took in
        record {
          own = own_seats;
          number = m.number;
          queues = subst (λ (bs : List ℕ). AllByRecursion (Leads bs) first.seats.queues.items) (sym gave_none) (opened_leads objects locks.queues.items first.seats.queues.items m.queues);
          arrivals = ap (λ (p : ArrivalsPass). p.is_first) m.arrivals;
          start = ap (λ (p : ArrivalsPass). p.start) m.arrivals;
          times = ap (λ (v : TimesView). v.knows.is_first) m.times_is ∙ alone.0;
          turns = ap (λ (v : TurnsView). v.is_first) m.turns_is ∙ is_first;
          times_out = (let out = ap (λ (v : TimesView). v.knows.out) m.times_is ∙ alone.1 in omega (arith, gave, took, out));
          turns_out = (let out = ap (λ (v : TurnsView). v.out) m.turns_is ∙ none_out in omega (arith, gave, took, out));
          took = λ seats there. absurd (let low = (subst (λ (ts : List (Seats B)). Contains ts seats) (ap (λ ts. map (λ s. s.value) ts) m.took) there).1 in omega (arith, low));
        }

    pub opens_made : Opens tells objects times turns locks first
    opens_made = record {
      marks = opened_marks objects locks.queues.items first.seats.queues.items m.queues;
      tells_is = opens.tells_is;
      number = m.number;
      step = m.step;
      calls = λ queue. no_calls first.seats.queues.items queue nothing.queues;
      arrivals = opens.known_is first.seats.arrivals.seen ∙ ap (λ calls. sent (unstamped calls)) arrived;
      nothing = nothing;
      times_is = m.times_is;
      turns_is = m.turns_is;
      gave = gave_none;
      took = ap (λ ts. map (λ s. s.value) ts) m.took;
    }

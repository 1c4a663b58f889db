-- What is shared as it is opened, and what is left of it when it is closed.
use Rattle.std.specs.Prelude.{◌≡◌, ℕ, Bool, true, false, Option, Some, None, List, [], ◌∷◌, map, Contains}
use Rattle.std.specs.List.{AllByRecursion, AllZip, list_any}
use Rattle.sf_calls.specs.Histories.{GoesOnWithout, calls_by}
use Rattle.atomic_table.specs.Seated.{TableId}
use Rattle.sf_calls.specs.Passes.{TookAll, first_pass}
use Rattle.sf_calls_stamped.specs.Stamps.{StampsRise, unstamped}
use Rattle.sf_actor.specs.sf_surface.Objects.{ObjectOf, mark_of}
use Rattle.sf_times.specs.Views.{SeatView as TimesView}
use Rattle.sf_turns.specs.Views.{SeatView}
use Rattle.sf_actor.specs.Desks.{DeskView, known_of}
use Rattle.sf_actor.specs.Known.{GoesOn, is_sent_by}
use Rattle.sf_actor.specs.Plain.{PlainOf, home_of as plain_home, view_of as plain_view}
use Rattle.sf_intake.specs.Views.{first_taker}
use Rattle.sf_live_seats.specs.declared.at_intake.AtIntake.{AtIntake}
use Rattle.sf_live_seats.specs.declared.at_intake.AtIntake.TheVariants as at
use Rattle.sf_live_seats.specs.declared.first.FirstSeats.{FirstSeats}
use Rattle.sf_live_seats.specs.declared.inbox.Inbox.{Inbox}
use Rattle.sf_live_seats.specs.declared.locks.Locks.{Locks}
use Rattle.sf_live_seats.specs.declared.locks.QueueLock.{QueueLock}
use Rattle.sf_live_seats.specs.declared.seats.Seats.{Seats}
use Rattle.sf_live_seats.specs.Arriving.{ArrivalCalls, ArrivalEntry, ArrivalsPass}
use Rattle.sf_live_seats.specs.Inboxes.{IsEmpty}
use Rattle.sf_live_seats.specs.First.{KnowsNothing, gave_of, took_of}
use Rattle.sf_live_seats.specs.Seats.{QueuePass, QueueEntry, home_of, lock_mark, marks_of, tells_of, view_of}

-- the first pass at the arrivals under this lock, which took in all that it gave
pub record IsLastAtArrivals (table : TableId) (pass : ArrivalsPass) : Type 0 where
  pub own : pass.table ≡ table
  pub is_first : pass.is_first ≡ true
  pub took_all : TookAll pass.gave pass.took

-- The arrivals that were under a lock have the calls that the first pass knows. They go on from those that each pass knew, with no
-- further one of its caller, and past the first ones they have none of a caller without a pass.
pub record AreArrivalsClosed (pass : ArrivalsPass) (arrivals : ArrivalCalls) : Type 0 where
  pub calls : arrivals ≡ unstamped pass.seen
  pub rise : StampsRise pass.seen
  pub taken : (p : ℕ × List ArrivalEntry) → Contains pass.took p → GoesOnWithout p.0 p.1 pass.seen
  pub callers : (by : ℕ) → (Contains (pass.by ∷ pass.gave) by → ⊥) → calls_by by pass.seen ≡ calls_by by pass.start

module _ {B : Type 0} where
  abbrev pub HasNoCalls : ObjectOf B → Type 0
  HasNoCalls object = object.calls ≡ []

  -- a queue was put under a lock, and this is the first caller's pass
  pub record IsOpened (object : ObjectOf B) (lock : QueueLock B) (pass : QueuePass B) : Type 0 where
    pub opened : lock.opened.value ≡ object
    pub number : lock.number ≡ object.queue.number
    pub leads : pass ≡ first_pass lock.lock 0 (mark_of object) []

  -- so was each of these
  abbrev pub AreOpened : List (ObjectOf B) → List (QueueLock B) → List (QueuePass B) → Type 0
  AreOpened [] [] [] = Unit {0}
  AreOpened (object ∷ objects) (lock ∷ locks) (pass ∷ passes) = IsOpened object lock pass × AreOpened objects locks passes
  AreOpened objects locks passes = ⊥

  -- the first caller has an inbox at this intake, where nothing was sent and no sender was made
  pub record OpensInbox (intake : Option (ℕ × ℕ)) (first : AtIntake B) : Type 0 where
    pub inbox : Inbox B
    pub takes : first ≡ at.Takes inbox
    pub intake_is : intake ≡ Some inbox.taker.intake
    pub taker : inbox.taker ≡ first_taker inbox.taker.intake
    pub empty : IsEmpty inbox

  -- where places are reported there is no intake
  abbrev pub OpensIntake : Bool → Option (ℕ × ℕ) → AtIntake B → Type 0
  OpensIntake true intake first = (intake ≡ None) × (first ≡ at.Nothing)
  OpensIntake false intake first = OpensInbox intake first

  -- what is shared, and the first caller's seats, before anything was called
  pub record Opens (tells : Bool) (objects : List (ObjectOf B)) (times : TimesView) (turns : SeatView) (locks : Locks B) (first : FirstSeats B) : Type 0 where
    pub marks : marks_of locks ≡ map mark_of objects
    pub tells_is : tells_of locks ≡ tells
    pub number : first.seats.by ≡ 0
    pub step : first.seats.last.step ≡ 0
    pub calls : (queue : ℕ) → (view_of first.seats).calls queue ≡ []
    pub arrivals : (view_of first.seats).arrivals ≡ []
    pub nothing : KnowsNothing first.seats
    pub times_is : first.seats.times ≡ times
    pub turns_is : first.seats.turns ≡ turns
    pub gave : gave_of first ≡ []
    pub took : took_of first ≡ []

  -- the first pass of the lock, which took in all that it gave
  pub record IsLast (lock : QueueLock B) (pass : QueuePass B) : Type 0 where
    pub own : pass.table ≡ lock.lock
    pub is_first : pass.is_first ≡ true
    pub marked : pass.mark ≡ Some (lock_mark lock)
    pub took_all : TookAll pass.gave pass.took

  -- The queue that was under a lock has the calls that the first pass knows. They go on from those that each pass knew, with no
  -- further one of its caller, and past the first ones they have none of a caller without a pass.
  pub record IsClosed (lock : QueueLock B) (pass : QueuePass B) (object : ObjectOf B) : Type 0 where
    pub mark : mark_of object ≡ lock_mark lock
    pub calls : object.calls ≡ unstamped pass.seen
    pub rise : StampsRise pass.seen
    pub taken : (p : ℕ × List (QueueEntry B)) → Contains pass.took p → GoesOnWithout p.0 p.1 pass.seen
    pub callers : (by : ℕ) → (Contains (pass.by ∷ pass.gave) by → ⊥) → calls_by by pass.seen ≡ calls_by by pass.start

  abbrev pub AreClosed : List (QueueLock B) → List (QueuePass B) → List (ObjectOf B) → Type 0
  AreClosed [] [] [] = Unit {0}
  AreClosed (lock ∷ locks) (pass ∷ passes) (object ∷ objects) = IsClosed lock pass object × AreClosed locks passes objects
  AreClosed locks passes objects = ⊥

  -- what each caller knew whose seats were taken in goes on in what the desk knows, without a further entry of that caller
  abbrev pub AllGoOn : Locks B → FirstSeats B → PlainOf B → Type 0
  AllGoOn locks first desk = (seats : Seats B) → Contains (took_of first) seats
      → GoesOn seats.by (known_of (home_of locks seats) (view_of seats)) (known_of (plain_home desk) (plain_view desk))

  -- the desk has the queues that were shared, and knows what the first seats know; nobody without seats called on the arrivals
  pub record Closes (locks : Locks B) (first : FirstSeats B) (desk : PlainOf B) : Type 0 where
    pub marks : map mark_of desk.queues ≡ marks_of locks
    pub calls : (queue : ℕ) → (plain_view desk).calls queue ≡ (view_of first.seats).calls queue
    pub arrivals : (plain_view desk).arrivals ≡ (view_of first.seats).arrivals
    pub arrived : desk.arrivals ≡ unstamped first.seats.arrivals.seen
    pub strangers : (by : ℕ) → (Contains (first.seats.by ∷ gave_of first) by → ⊥) → calls_by by desk.arrivals ≡ []
    pub times : desk.times ≡ first.seats.times
    pub turns : desk.turns ≡ first.seats.turns
    pub tells : desk.tells ≡ tells_of locks

  -- what one caller's pass knew goes on in what the last one knows, without a further call of that caller
  abbrev pub GoesOnIn : ℕ → QueuePass B → QueuePass B → Type 0
  GoesOnIn by last own = GoesOnWithout by own.seen last.seen

  -- Along the calls on each queue, and along those on the arrivals, the stamps rise. What each caller knew whose seats were taken in
  -- goes on without a further call of it.
  pub record IsOrdered (first : FirstSeats B) : Type 0 where
    pub queues : AllByRecursion (λ (pass : QueuePass B). StampsRise pass.seen) first.seats.queues.items
    pub arrivals : StampsRise first.seats.arrivals.seen
    pub queues_on : (seats : Seats B) → Contains (took_of first) seats → AllZip (GoesOnIn seats.by) first.seats.queues.items seats.queues.items
    pub arrivals_on : (seats : Seats B) → Contains (took_of first) seats → GoesOnWithout seats.by seats.arrivals.seen first.seats.arrivals.seen

  -- no call and no arrival is the caller's
  pub record HasNoEntry (by : ℕ) (view : DeskView B) : Type 0 where
    pub calls : (queue : ℕ) → calls_by by (view.calls queue) ≡ []
    pub arrivals : list_any (is_sent_by by) view.arrivals ≡ false

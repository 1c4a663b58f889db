-- Seats and the home of a desk of them.
use Rattle.std.proofs.Common.{◌≡◌, ℕ, List, [], ◌∷◌, length, arith, ap, ap₂, ◌∙◌, refl, Some}
use Rattle.std.specs.Prelude.{map}
use Rattle.std.specs.List.{AllZip}
use Rattle.atomic_table.specs.Seated.{TableId}
use Rattle.sf_base.specs.declared.ids.QueueId.{QueueId}
use Rattle.sf_actor.specs.sf_surface.declared.mark.QueueMark.{QueueMark}
use Rattle.sf_live_seats.specs.declared.locks.Locks.{Locks}
use Rattle.sf_live_seats.specs.declared.locks.QueueLock.{QueueLock}
use Rattle.sf_live_seats.specs.declared.seats.Seats.{Seats}
use Rattle.sf_live_seats.specs.Seats.{AreSeats, IsPassOf, QueuePass, home_of, lock_mark}
use Rattle.sf_live_seats.specs.Shared.{IsHome}
use Rattle.sf_live_seats.proofs.IntakeHands.{way_there}

abbrev first_or : {X : Type 0} → X → List X → X
first_or d [] = d
first_or d (x ∷ xs) = x

abbrev rest_of : {X : Type 0} → List X → List X
rest_of [] = []
rest_of (x ∷ xs) = xs

abbrev queue_in : QueueMark → QueueId
queue_in mark = mark.queue

module _ {B : Type 0} where
  abbrev lock_of : QueueLock B → TableId
  lock_of lock = lock.lock

  abbrev number_of : QueueLock B → QueueId
  number_of lock = lock.number

  numbers_are : (by : ℕ) (locks : List (QueueLock B)) (passes : List (QueuePass B)) → AllZip (IsPassOf by) locks passes → map number_of locks ≡ map queue_in (map lock_mark locks)
  numbers_are by [] passes own = refl
  numbers_are by (l ∷ locks) [] own = absurd own
  numbers_are by (l ∷ locks) (p ∷ passes) own = ap₂ (λ (n : QueueId) (ns : List QueueId). n ∷ ns) own.0.numbered (numbers_are by locks passes own.1)

  pub home_made : (buffers : TableId) (locks : Locks B) (seats : Seats B) → AreSeats buffers locks seats → IsHome locks (home_of locks seats)
  home_made buffers locks seats are = record { marks = refl; intake = refl; tables = refl; numbered = numbers_are seats.by locks.queues.items seats.queues.items are.queues }

  own_there : (by : ℕ) (was locks : List (QueueLock B)) (passes : List (QueuePass B)) → AllZip (IsPassOf by) was passes → map lock_mark was ≡ map lock_mark locks → map lock_of was ≡ map lock_of locks → map number_of locks ≡ map queue_in (map lock_mark locks) → AllZip (IsPassOf by) locks passes
  own_there by [] [] passes own marks tables numbers = own
  own_there by [] (l ∷ locks) passes own marks tables numbers = absurd (let long = ap (λ (xs : List TableId). length xs) tables in omega (arith, long))
  own_there by (w ∷ was) [] passes own marks tables numbers = absurd (let long = ap (λ (xs : List TableId). length xs) tables in omega (arith, long))
  own_there by (w ∷ was) (l ∷ locks) [] own marks tables numbers = absurd own
  own_there by (w ∷ was) (l ∷ locks) (p ∷ passes) own marks tables numbers = (
    record {
      own = own.0.own ∙ ap (first_or w.lock) tables;
      number = own.0.number;
      marked = own.0.marked ∙ ap (λ (m : QueueMark). Some m) (ap (first_or (lock_mark w)) marks);
      numbered = ap (first_or l.number) numbers;
    },
    own_there by was locks passes own.1 (ap rest_of marks) (ap rest_of tables) (ap rest_of numbers),
  )

  -- seats of locks are ones of all locks with that home
  pub at_home : (buffers : TableId) (was locks : Locks B) (seats : Seats B) → AreSeats buffers was seats → IsHome locks (home_of was seats) → AreSeats buffers locks seats
  at_home buffers was locks seats are home = record {
    queues = own_there seats.by was.queues.items locks.queues.items seats.queues.items are.queues home.marks (ap rest_of (ap rest_of home.tables)) home.numbered;
    own_arrivals = are.own_arrivals ∙ ap (first_or was.arrivals) home.tables;
    marked = are.marked;
    number = are.number;
    own_times = are.own_times ∙ ap (first_or was.times) (ap rest_of home.tables);
    own_turns = are.own_turns;
    in_order = are.in_order;
    takes = are.takes;
    pass = are.pass;
    way = way_there was locks seats.by seats.arrivals.gave seats.last seats.intake home.intake (ap (first_or was.arrivals) home.tables) are.way;
  }

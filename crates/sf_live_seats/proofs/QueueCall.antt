-- A caller's seats after a call of its step through its pass at a queue's lock.
use Rattle.std.proofs.Common.{◌≡◌, ℕ, ◌+◌, ◌<◌, List, [], ◌∷◌, ◌++◌, inl, length, get_or, set, Some, arith, sym, refl, subst}
use Rattle.std.specs.Prelude.{map}
use Rattle.std.specs.Global.{Vec}
use Rattle.std.specs.List.{AllZip, position}
use Rattle.atomic_table.specs.Seated.{TableId}
use Rattle.sf_calls.specs.Histories.{calls_by}
use Rattle.sf_actor.specs.sf_surface.declared.call.QCall.{QCall}
use Rattle.sf_actor.specs.sf_surface.declared.call.QReply.{QReply}
use Rattle.sf_actor.specs.Desks.{DeskView, IsAsBefore, MadeCall, WaitsForCall}
use Rattle.sf_live_seats.specs.declared.clock.Clock.{Clock}
use Rattle.sf_live_seats.specs.declared.locks.Locks.{Locks}
use Rattle.sf_live_seats.specs.declared.locks.QueueLock.{QueueLock}
use Rattle.sf_live_seats.specs.declared.seats.Seats.{Seats}
use Rattle.sf_live_seats.specs.Moves.{ChangesPasses, MovesPass}
use Rattle.sf_live_seats.specs.Seats.{AreSeats, IsInOrder, IsPassOf, QueuePass, calls_known, calls_made, home_of, is_lock, lock_mark, post_moment, posts_of, sent_in, turns_had, view_of}
use Rattle.sf_live_seats.proofs.CallOrder.{Later, later_called, order_called, stamp_rises}
use Rattle.sf_live_seats.proofs.IntakeHands.{way_later}
use Rattle.sf_live_seats.proofs.PassCall.{IsPassed, MadeOne, WaitsOne}
use Rattle.sf_live_seats.proofs.QueuePass.{IsAfter, low_place, made_after, moves, of_own, own_after, same_after, waits_after, was_at}

module _ {B : Type 0} where
  -- a caller's seats, and its pass at the lock of a queue
  pub record IsAtLock (buffers : TableId) (locks : Locks B) (seats : Seats B) (queue place : ℕ) (lock : QueueLock B) (one : QueuePass B) : Type 0 where
    pub own : AreSeats buffers locks seats
    pub first : position (is_lock queue) locks.queues.items ≡ Some place
    pub lock_there : lock ≡ get_or locks.queues.items place lock
    pub there : one ≡ get_or seats.queues.items place one

  -- the pass inside of the seat at the place of the lock
  pub at_lock : (buffers : TableId) (locks : Locks B) (seats : Seats B) (queue place : ℕ) (lock : QueueLock B) (seat pass : QueuePass B) → AreSeats buffers locks seats → position (is_lock queue) locks.queues.items ≡ Some place
      → lock ≡ get_or locks.queues.items place lock → seat ≡ get_or seats.queues.items place seat → pass ≡ seat → IsAtLock buffers locks seats queue place lock pass
  at_lock buffers locks seats queue place lock seat pass own first lock_there there is = subst (λ (p : QueuePass B). IsAtLock buffers locks seats queue place lock p) (sym is) (record {
    own = own;
    first = first;
    lock_there = lock_there;
    there = there;
  })

  moves_none : (passes : List (QueuePass B)) → AllZip MovesPass passes passes
  moves_none [] = tt
  moves_none (pass ∷ passes) = (record { same = refl; begins = ([], refl) }, moves_none passes)

  -- a call that is refused at once changes nothing
  pub changes_none : (seats : Seats B) → ChangesPasses seats seats
  changes_none seats = record { same = refl; passes = moves_none seats.queues.items; last = omega arith; later = λ m there. inl there }

  module _ (buffers : TableId) (locks : Locks B) (seats : Seats B) (queue place : ℕ) (lock : QueueLock B) (one : QueuePass B) (at : IsAtLock buffers locks seats queue place lock one) where
    pub was_passed : IsPassOf seats.by lock one
    was_passed = was_at seats.by queue place locks.queues.items seats.queues.items lock one at.own.queues at.first at.lock_there at.there

    -- the same, for the caller of the pass
    pub own_pass : IsPassOf one.by lock one
    own_pass = subst (λ (by : ℕ). IsPassOf by lock one) (sym was_passed.number) was_passed

    module _ (next : QueuePass B) (last : Clock) (passed : IsPassed lock one next seats.last last) where
      after : IsAfter seats.by locks.queues.items seats.queues.items queue place lock one next
      after = record {
        own = at.own.queues;
        first = at.first;
        lock_there = at.lock_there;
        there = at.there;
        still = of_own seats.by lock one next was_passed passed.still;
        turns = passed.turns;
      }

      low : place < length seats.queues.items
      low = low_place seats.by queue place locks.queues.items seats.queues.items at.own.queues at.first

      -- what the caller sent besides
      abbrev sends : List (ℕ × ℕ)
      sends = sent_in (calls_by seats.by seats.arrivals.seen) ++ map post_moment (posts_of seats.intake)

      -- the caller's seats with these passes at queues
      abbrev with_passes : List (QueuePass B) → DeskView B
      with_passes passes = record (view_of seats) { calls = calls_known passes; locked = seats.arrivals.turns + turns_had passes }

      module _ (queues : Vec (QueuePass B)) (is : queues.items ≡ set seats.queues.items place next) where
        pub called_own : AreSeats buffers locks (record seats { queues = queues; last = last })
        called_own = record {
          queues = subst (λ (passes : List (QueuePass B)). AllZip (IsPassOf seats.by) locks.queues.items passes) (sym is)
              (own_after seats.by locks.queues.items seats.queues.items queue place lock one next after);
          own_arrivals = at.own.own_arrivals;
          marked = at.own.marked;
          number = at.own.number;
          own_times = at.own.own_times;
          own_turns = at.own.own_turns;
          in_order = subst (λ (passes : List (QueuePass B)). IsInOrder last (calls_made seats.by passes ++ sends)) (sym is)
              (order_called seats.last last seats.by seats.queues.items place one next sends at.own.in_order at.there was_passed.number low passed.ticks);
          takes = at.own.takes;
          pass = at.own.pass;
          way = way_later locks seats.by seats.arrivals.gave seats.last last seats.intake (stamp_rises seats.last last _ _ passed.ticks) at.own.way;
        }

        pub called_changes : ChangesPasses seats (record seats { queues = queues; last = last })
        called_changes = record {
          same = refl;
          passes = subst (λ (passes : List (QueuePass B)). AllZip MovesPass seats.queues.items passes) (sym is)
              (moves seats.by locks.queues.items seats.queues.items queue place lock one next after passed.moves);
          last = stamp_rises seats.last last _ _ passed.ticks;
          later = subst (λ (passes : List (QueuePass B)). Later seats.last.stamp (calls_made seats.by seats.queues.items ++ sends) (calls_made seats.by passes ++ sends)) (sym is)
              (later_called seats.last last seats.by seats.queues.items place one next sends at.there was_passed.number low passed.ticks);
        }

        pub called_made : (asked : ℕ × QCall B) (reply : QReply B) → MadeOne (lock_mark lock) one next asked reply
            → MadeCall (home_of locks seats) (view_of seats) (view_of (record seats { queues = queues; last = last })) seats.by queue asked reply
        called_made asked reply made = subst (λ (passes : List (QueuePass B)). MadeCall (home_of locks seats) (view_of seats) (with_passes passes) seats.by queue asked reply) (sym is)
            (made_after seats.by locks.queues.items seats.queues.items queue place lock one next after (home_of locks seats) refl refl (view_of seats).arrivals seats.times.knows seats.turns seats.arrivals.turns asked reply made)

        pub called_waits : (asked : ℕ × QCall B) → WaitsOne (lock_mark lock) one next asked
            → WaitsForCall (home_of locks seats) (view_of seats) (view_of (record seats { queues = queues; last = last })) seats.by queue asked
        called_waits asked waited = subst (λ (passes : List (QueuePass B)). WaitsForCall (home_of locks seats) (view_of seats) (with_passes passes) seats.by queue asked) (sym is)
            (waits_after seats.by locks.queues.items seats.queues.items queue place lock one next after (home_of locks seats) refl refl (view_of seats).arrivals seats.times.knows seats.turns seats.arrivals.turns asked waited)

        pub called_as_before : next ≡ one → IsAsBefore (view_of seats) (view_of (record seats { queues = queues; last = last }))
        called_as_before same = subst (λ (passes : List (QueuePass B)). IsAsBefore (view_of seats) (with_passes passes)) (sym is)
            (same_after seats.by locks.queues.items seats.queues.items queue place lock one next after (home_of locks seats) refl refl (view_of seats).arrivals seats.times.knows seats.turns seats.arrivals.turns same)

-- The vsyncs of a compositor over its seats at what is shared, one after another.
use Rattle.std.specs.Prelude.{◌≡◌, ℕ, ◌+◌, ◌*◌, ◌≤◌, List, Contains, None}
use Rattle.atomic_table.specs.Seated.{TableId}
use Rattle.sf_base.specs.declared.fences.Seen.{Seen}
use Rattle.sf_live_threads.specs.sf_surface.Tokens.{Issued, ReadLeaseOf}
use Rattle.sf_live_threads.specs.sf_token.Pending.{Arrival}
use Rattle.sf_live_threads.specs.sf_turns.Views.{SeatView}
use Rattle.sf_live_threads.specs.sf_txn.declared.lease.Lease.{Ghosts}
use Rattle.sf_live_threads.specs.sf_commit.Handlers.{Decides, HandlerOf}
use Rattle.sf_live_threads.specs.sf_commit.Releases.{CommittedOf}
use Rattle.sf_live_threads.specs.sf_actor.Tries.{Sees}
use Rattle.sf_play_write.specs.law_rights.Standing.{GiveAll}
use Rattle.sf_live_threads.specs.sf_live_seats.declared.locks.Locks.{Locks}
use Rattle.sf_live_threads.specs.sf_live_seats.declared.seats.Seats.{Seats}
use Rattle.sf_live_threads.specs.sf_live_seats.Moves.{ChangesArrivals, MadeLater, Stays, Takes}
use Rattle.sf_live_threads.specs.sf_live_seats.Seats.{AreSeats, home_of, moments_of, view_of}

-- a compositor between two vsyncs: what decides, its seats, and the number of its last vsync
pub record Sitting (B : Type 0) : Type 0 where
  pub handler : HandlerOf ReadLeaseOf
  pub seats : Seats B
  pub number : ℕ

-- the same from its parts
abbrev pub sitting_at : {B : Type 0} → HandlerOf ReadLeaseOf → Seats B → ℕ → Sitting B
sitting_at handler seats number = record { handler = handler; seats = seats; number = number }

module _ {B : Type 0} (lease : Ghosts ReadLeaseOf SeatView ReadLeaseOf Issued) (table : TableId) (locks : Locks B) (period : ℕ) where
  -- A vsync: a look at the timelines; what was sent is taken; the compositor decides, through its seat at the turns, for so many periods as
  -- there were vsyncs; and what goes is given back in calls, each with the number of the vsync, after all that was done before. No call that it
  -- made before was of a later vsync.
  pub record IsVsync (before after : Sitting B) : Type 0 where
    pub own : AreSeats table locks after.seats
    pub caller : after.seats.by ≡ before.seats.by
    pub unlent : before.handler.lent ≡ None
    pub looked : Seats B
    pub look : looked ≡ record before.seats { times = looked.times }
    pub took : Seats B
    pub arrived : List (Arrival ReadLeaseOf)
    pub takes : Takes looked took arrived
    pub changes : ChangesArrivals looked took
    pub early : (m : ℕ × ℕ) → Contains (moments_of took) m → m.0 ≤ before.number
    pub seen : Seen
    pub sees : Sees (home_of locks before.seats) (view_of before.seats) (view_of looked) seen
    pub expected : ℕ
    pub due : expected ≡ after.number * period
    pub told : CommittedOf ReadLeaseOf
    pub turns : SeatView
    pub decides : Decides lease before.handler took.turns arrived seen expected told after.handler turns
    pub gives : GiveAll (home_of locks took) after.number told.releases (view_of (record took { turns = turns })) (view_of after.seats)
    pub arrivals : after.seats.arrivals ≡ took.arrivals
    pub later : MadeLater took after.seats
    pub last : took.last.stamp ≤ after.seats.last.stamp
    pub counted : after.number ≡ before.number + 1
    pub stays : Stays before.seats after.seats

  -- one vsync after the other
  pub data Vsyncs (start : Sitting B) : Sitting B → Type 0 where
    Begin : Vsyncs start start
    More : {before after : Sitting B} → Vsyncs start before → IsVsync before after → Vsyncs start after

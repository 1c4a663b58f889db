-- What the calls of a compositor do to its seats among threads.
use Rattle.std.specs.Prelude.{◌≡◌, ℕ, List}
use Rattle.atomic_table.specs.Seated.{TableId}
use Rattle.sf_base.specs.declared.fences.Seen.{Seen}
use Rattle.sf_live_threads.specs.sf_surface.Tokens.{ReadLeaseOf}
use Rattle.sf_live_threads.specs.sf_token.Pending.{Arrival}
use Rattle.sf_live_threads.specs.sf_commit.Releases.{ReleaseOf}
use Rattle.sf_live_threads.specs.sf_actor.Tries.{Sees}
use Rattle.sf_play_write.specs.law_rights.Standing.{GivesOne}
use Rattle.sf_live_threads.specs.sf_live_seats.declared.locks.Locks.{Locks}
use Rattle.sf_live_threads.specs.sf_live_seats.declared.seats.Seats.{Seats}
use Rattle.sf_live_threads.specs.sf_live_seats.Moves.{ChangesArrivals, ChangesPasses, Stays, Takes}
use Rattle.sf_live_threads.specs.sf_live_seats.Observers.{SeatGoesOn}
use Rattle.sf_live_threads.specs.sf_live_seats.Seats.{AreSeats, home_of, view_of}

module _ {B : Type 0} where
  -- the compositor decides
  pub record Observes (old new : Seats B) : Type 0 where
    pub same : new ≡ record old { turns = new.turns }
    pub goes : SeatGoesOn old.turns new.turns

  module _ (table : TableId) (locks : Locks B) where
    -- they are the compositor's, whose number is 0
    pub record AreFirst (seats : Seats B) : Type 0 where
      pub own : AreSeats table locks seats
      pub first : seats.by ≡ 0

    -- a look at the timelines
    pub record Looks (old : Seats B) (seen : Seen) (new : Seats B) : Type 0 where
      pub sees : Sees (home_of locks old) (view_of old) (view_of new) seen
      pub same : new ≡ record old { times = new.times }
      pub stays : Stays old new

    -- what arrived is taken
    pub record TakesIn (old : Seats B) (arrived : List (Arrival ReadLeaseOf)) (new : Seats B) : Type 0 where
      pub own : AreSeats table locks new
      pub changes : ChangesArrivals old new
      pub takes : Takes old new arrived

    -- a frame goes back
    pub record GivesBack (number : ℕ) (release : ReleaseOf ReadLeaseOf) (old new : Seats B) : Type 0 where
      pub changes : ChangesPasses old new
      pub step : new.last.step ≡ number
      pub gives : GivesOne (home_of locks old) number release (view_of old) (view_of new)
      pub turns : new.turns ≡ old.turns

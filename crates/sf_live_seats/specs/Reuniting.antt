-- Callers' seats as they are taken in, each with its pass at the arrivals again.
use Rattle.std.specs.Prelude.{◌≡◌, ℕ, ◌<◌, List, [], Contains, None, Some}
use Rattle.sf_calls.specs.Histories.{calls_by}
use Rattle.sf_calls_stamped.specs.Stamps.{stamp_of}
use Rattle.sf_actor.specs.sf_surface.Tokens.{ReadLeaseOf}
use Rattle.sf_intake.specs.sf_token.declared.arrivals.ArriveCall.TheVariants as arrive
use Rattle.sf_intake.specs.sf_token.Pending.{Arrival}
use Rattle.sf_intake.specs.sf_txn.Transactions.{Contents}
use Rattle.sf_actor.specs.Desks.{known_of}
use Rattle.sf_actor.specs.Known.{share_of}
use Rattle.sf_live_seats.specs.declared.first.FirstSeats.{FirstSeats}
use Rattle.sf_live_seats.specs.declared.inbox.Inbox.{Inbox}
use Rattle.sf_live_seats.specs.declared.locks.Locks.{Locks}
use Rattle.sf_live_seats.specs.declared.seats.Seats.{Seats}
use Rattle.sf_live_seats.specs.Arriving.{ArrivalEntry}
use Rattle.sf_live_seats.specs.Inboxes.{HasAll, IsInbox, IsLater, left_of}
use Rattle.sf_live_seats.specs.Seats.{home_of, moments_of, view_of}

module _ {B : Type 0} where
  -- an inbox at this intake of what is shared, which took all that it heard of and put it among the arrivals: it may give passes back
  pub record MayReunite (locks : Locks B) (intake : ℕ × ℕ) (inbox : Inbox B) : Type 0 where
    pub own : IsInbox locks.arrivals inbox
    pub same : inbox.taker.intake ≡ intake
    pub shared : locks.intake ≡ Some intake
    pub none : left_of inbox ≡ []
    pub all : HasAll inbox.taker

  -- a call on the arrivals that sends, with a stamp above those of all that its caller did in steps before
  pub record SendsAfter (seats : Seats B) (e : ArrivalEntry) : Type 0 where
    pub step : ℕ
    pub txn : Contents ReadLeaseOf
    pub sends : e.call.1 ≡ arrive.Send step txn
    pub above : (m : ℕ × ℕ) → Contains (moments_of seats) m → m.0 < step → m.1 < stamp_of e

  -- what the caller of these seats sent, as far as they know, with the numbers that it got
  abbrev pub sent_of : Locks B → Seats B → List (Arrival ReadLeaseOf)
  sent_of locks seats = (share_of seats.by (known_of (home_of locks seats) (view_of seats))).arrivals

  -- Seats as they are taken in, maybe with another pass at the arrivals: by its calls there all that their caller sent was put among the
  -- arrivals, in order. The first caller's calls may take too. Where there is no intake the pass is the one that they had.
  pub record Reunites (locks : Locks B) (seats reunited : Seats B) : Type 0 where
    pub same : reunited ≡ record seats { arrivals = reunited.arrivals; pass = reunited.pass; intake = reunited.intake }
    pub sent : sent_of locks reunited ≡ sent_of locks seats
    pub sends : (seats.by ≡ 0 → ⊥) → (e : ArrivalEntry) → Contains (calls_by seats.by reunited.arrivals.seen) e → SendsAfter seats e
    pub kept : locks.intake ≡ None → reunited.arrivals ≡ seats.arrivals

  -- the first seats, after all that was sent was put among the arrivals
  pub record Finishes (old new : FirstSeats B) : Type 0 where
    pub same : new.seats ≡ record old.seats { intake = new.seats.intake; last = new.seats.last }
    pub last : IsLater old.seats.last new.seats.last
    pub took : new.took ≡ old.took

-- The calls on the arrivals, with their stamps.
use Rattle.std.specs.Prelude.{ℕ, List}
use Rattle.sf_calls.specs.Views.{PassView}
use Rattle.sf_calls.specs.declared.object.Entry.{Entry}
use Rattle.sf_calls_stamped.specs.Objects as stamped
use Rattle.sf_actor.specs.sf_surface.Tokens.{Issued, ReadLeaseOf}
use Rattle.sf_intake.specs.sf_token.declared.arrivals.ArriveCall.{ArriveCall}
use Rattle.sf_intake.specs.sf_token.declared.arrivals.ArriveReply.{ArriveReply}
use Rattle.sf_turns.specs.Views.{SeatView}
use Rattle.sf_live_seats.specs.declared.arrivals.StampedArrivals.{StampedArrivals}

abbrev pub Arriving : Type 0
Arriving = ArriveCall ReadLeaseOf SeatView ReadLeaseOf Issued

abbrev pub Arrived : Type 0
Arrived = ArriveReply ReadLeaseOf SeatView ReadLeaseOf Issued

abbrev pub ArrivalEntry : Type 0
ArrivalEntry = Entry (ℕ × Arriving) (ℕ × Arrived)

-- the calls without their stamps
abbrev pub ArrivalCalls : Type 0
ArrivalCalls = List (Entry Arriving Arrived)

-- what a pass at the lock of the arrivals shows
abbrev pub ArrivalsPass : Type 0
ArrivalsPass = PassView (ℕ × Arriving) (ℕ × Arrived) (Unit {0})

abbrev pub history_of : {B : Type 0} → StampedArrivals B → List ArrivalEntry
history_of arrivals = stamped.history_of (λ calls. calls) arrivals.of

-- What a compositor's seats knew, with stamps, is how the histories of the whole run began.
use Rattle.std.specs.Prelude.{ℕ}
use Rattle.atomic_table.specs.Seated.{TableId}
use Rattle.law_threads.specs.sf_calls.Histories.{Begins}
use Rattle.law_threads.specs.sf_surface.Tokens.{Issued, ReadLeaseOf}
use Rattle.law_threads.specs.sf_turns.Views.{SeatView}
use Rattle.law_threads.specs.sf_txn.declared.lease.Lease.{Ghosts}
use Rattle.law_threads.specs.sf_live_seats.declared.first.FirstSeats.{FirstSeats}
use Rattle.law_threads.specs.sf_live_seats.declared.locks.Locks.{Locks}
use Rattle.law_threads.specs.sf_live_seats.declared.seats.Seats.{Seats}
use Rattle.law_threads.specs.Members.{seen_at}
use Rattle.law_threads.specs.sf_live_compositor.Vsyncs.{Begin, More, Sitting, Vsyncs}

module _ {B : Type 0} where
  pub record AreFronts (seats : Seats B) (first : FirstSeats B) : Type 0 where
    pub queues : (queue : ℕ) → Begins (seen_at queue seats.queues.items) (seen_at queue first.seats.queues.items)
    pub arrivals : Begins seats.arrivals.seen first.seats.arrivals.seen

  module _ (lease : Ghosts ReadLeaseOf SeatView ReadLeaseOf Issued) (table : TableId) (locks : Locks B) (period : ℕ) (first : FirstSeats B) where
    -- so it is behind each vsync of a log
    abbrev pub AllFronts : {start last : Sitting B} → Vsyncs lease table locks period start last → Type 0
    AllFronts Begin = Unit {0}
    AllFronts (More {before} {after} log vsync) = AllFronts log × AreFronts after.seats first

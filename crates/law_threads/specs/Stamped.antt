-- What ties the stamps of a compositor's calls to the whole run: its seats knew a front of each history, with stamps.
use Rattle.std.specs.Prelude.{ℕ}
use Rattle.atomic_table.specs.Seated.{TableId}
use Rattle.law_draws.specs.sf_calls.Histories.{Begins}
use Rattle.law_draws.specs.sf_surface.Tokens.{Issued, ReadLeaseOf}
use Rattle.sf_turns.specs.Views.{SeatView}
use Rattle.law_draws.specs.sf_txn.declared.lease.Lease.{Ghosts}
use Rattle.sf_live_compositor.specs.sf_live_seats.declared.first.FirstSeats.{FirstSeats}
use Rattle.sf_live_compositor.specs.sf_live_seats.declared.locks.Locks.{Locks}
use Rattle.law_threads.specs.Members.{seen_at}
use Rattle.sf_live_compositor.specs.Vsyncs.{IsVsync, Sitting, Vsyncs}
use Rattle.sf_live_compositor.specs.Vsyncs.{Begin, More}

module _ {B : Type 0} (lease : Ghosts ReadLeaseOf SeatView ReadLeaseOf Issued) (table : TableId) (locks : Locks B) (period : ℕ) (first : FirstSeats B) where
  -- What its seats knew behind a vsync, with stamps, is how the histories of the whole run began.
  pub record IsStamped (before after : Sitting B) (vsync : IsVsync lease table locks period before after) : Type 0 where
    pub queues : (queue : ℕ) → Begins (seen_at queue after.seats.queues.items) (seen_at queue first.seats.queues.items)
    pub arrivals : Begins after.seats.arrivals.seen first.seats.arrivals.seen

  abbrev pub AreStamped : {start end : Sitting B} → Vsyncs lease table locks period start end → Type 0
  AreStamped Begin = Unit {0}
  AreStamped (More {before} {after} log vsync) = AreStamped log × IsStamped before after vsync

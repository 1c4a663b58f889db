-- The vsync that a visit makes beside composing: from what decides and its seats before it, to these after it.
use Rattle.std.specs.Prelude.{◌+◌, Result}
use Rattle.atomic_table.specs.Seated.{TableId}
use Rattle.sf_base.specs.declared.memory.NoMemory.{NoMemory}
use Rattle.sf_live_threads.specs.sf_surface.Tokens.{Issued, ReadLeaseOf}
use Rattle.sf_live_threads.specs.sf_turns.Views.{SeatView}
use Rattle.sf_live_threads.specs.sf_txn.declared.lease.Lease.{Ghosts}
use Rattle.sf_live_threads.specs.sf_commit.Handlers.{HandlerOf}
use Rattle.sf_live_threads.specs.sf_live_seats.declared.seats.Seats.{Seats}
use Rattle.sf_live_compositor.specs.declared.behind.Visiting.{Visiting}
use Rattle.sf_live_compositor.specs.declared.vsync.MadeVsync.{MadeVsync}
use Rattle.sf_live_compositor.specs.Sitting.{MadeLent, MadeOne}
use Rattle.sf_live_compositor.specs.Vsyncs.{sitting_at}

module _ {R B : Type 0} (lease : Ghosts ReadLeaseOf SeatView ReadLeaseOf Issued) (table : TableId) (visit : Visiting R B) where
  -- what came of it, where the handler had lent its pixels
  abbrev pub MadeLentIn : HandlerOf ReadLeaseOf × Seats B → HandlerOf ReadLeaseOf × Seats B → Result MadeVsync NoMemory → Type 0
  MadeLentIn old new result =
      MadeLent lease table visit.locks.now visit.period (sitting_at old.0 old.1 visit.before) (sitting_at new.0 new.1 (visit.before + 1)) result

  -- what came of it, where nothing was lent before and nothing is after it
  abbrev pub MadeOneIn : HandlerOf ReadLeaseOf × Seats B → HandlerOf ReadLeaseOf × Seats B → Result MadeVsync NoMemory → Type 0
  MadeOneIn old new result =
      MadeOne lease table visit.locks.now visit.period (sitting_at old.0 old.1 visit.before) (sitting_at new.0 new.1 (visit.before + 1)) result

-- The buffers that a compositor's vsyncs show have their pictures.
use Rattle.std.specs.Prelude.{ℕ}
use Rattle.atomic_table.specs.Seated.{TableId}
use Rattle.law_threads.specs.sf_picture.declared.picture.Picture.{Picture}
use Rattle.law_threads.specs.sf_play_report.Stages.{AreExpected}
use Rattle.law_threads.specs.sf_surface.Tokens.{Issued, ReadLeaseOf}
use Rattle.law_threads.specs.sf_turns.Views.{SeatView}
use Rattle.law_threads.specs.sf_txn.declared.lease.Lease.{Ghosts}
use Rattle.law_threads.specs.sf_live_seats.declared.locks.Locks.{Locks}
use Rattle.law_threads.specs.sf_play.Playing.{expected_by}
use Rattle.law_threads.specs.sf_live_compositor.Vsyncs.{Begin, More, Sitting, Vsyncs}

module _ {B : Type 0} (lease : Ghosts ReadLeaseOf SeatView ReadLeaseOf Issued) (table : TableId) (locks : Locks B) (period : ℕ) where
  -- each buffer on a layer after each vsync has the picture of its number
  abbrev pub AllFind : (ℕ → Picture) → {start last : Sitting B} → Vsyncs lease table locks period start last → Type 0
  AllFind pictures Begin = Unit {0}
  AllFind pictures (More {before} {after} log vsync) = AllFind pictures log × AreExpected expected_by pictures after.handler

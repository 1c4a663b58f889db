-- What a compositor keeps from visit to visit since it started, and what is left of it once it can make no more vsyncs.
use Rattle.std.specs.Prelude.{◌≡◌, ℕ, ◌≤◌, List, Option, Some, None, Result, OnErr, OnOk}
use Rattle.atomic_table.specs.Seated.{TableId}
use Rattle.sf_live_threads.specs.sf_io.Causes.{Rose}
use Rattle.sf_play_write.specs.sf_record.declared.encode.RunFault.{RunFault}
use Rattle.sf_play_write.specs.sf_record.declared.encode.RunFault.TheVariants.{WriteFault}
use Rattle.sf_live_threads.specs.sf_surface.Tokens.{Issued, ReadLeaseOf}
use Rattle.sf_live_threads.specs.sf_turns.Views.{SeatView}
use Rattle.sf_live_threads.specs.sf_turns.declared.naming.TableName.{Ghosts as Naming}
use Rattle.sf_live_threads.specs.sf_txn.declared.lease.Lease.{Ghosts}
use Rattle.sf_live_threads.specs.sf_live_seats.declared.first.FirstSeats.{FirstSeats}
use Rattle.sf_live_threads.specs.sf_live_seats.declared.locks.Locks.{Locks}
use Rattle.sf_live_threads.specs.sf_live_seats.declared.seats.Seats.{Seats}
use Rattle.sf_play_write.specs.sf_play_report.declared.report.VsyncReport.{VsyncReport}
use Rattle.sf_play_write.specs.Writing.{WritingEnded}
use Rattle.sf_live_compositor.specs.Sitting.{CutVsyncs, CutsDue, KeepsLog, TellsDue, WritesDue}
use Rattle.sf_live_compositor.specs.Vsyncs.{Sitting}
use Rattle.sf_live_compositor.specs.declared.compositor.Compositor.{Compositor}

module _ {K B : Type 0} {naming : Naming B} where
  -- a compositor with its seats
  abbrev pub sitting_in : Seats B → Compositor K B naming → Sitting B
  sitting_in seats c = record { handler = c.decider.handler; seats = seats; number = c.vsyncs }

  -- with the first seats
  abbrev pub sitting_of : FirstSeats B → Compositor K B naming → Sitting B
  sitting_of first c = sitting_in first.seats c

  -- what no vsync changes: its settings, and where it writes to
  pub record IsSame (start c : Compositor K B naming) : Type 0 where
    pub workers : c.workers ≡ start.workers
    pub shows : c.shows ≡ start.shows
    pub period : c.period ≡ start.period
    pub sink : c.sink.ghost_name ≡ start.sink.ghost_name

  module _ (taken : K → Option (List ℕ)) where
    -- what was due is written as a compositor came to be the other: where buffers have their pictures, with their images
    abbrev pub WritesIn : Option VsyncReport → Compositor K B naming → Compositor K B naming → Type 0
    WritesIn due old new =
        WritesDue old.shows.plan old.shows.timelines.items (taken old.sink.now) (taken new.sink.now) old.screens new.screens old.decider.handler due

    -- whichever pixels its images have
    abbrev pub TellsIn : Option VsyncReport → Compositor K B naming → Compositor K B naming → Type 0
    TellsIn due old new = TellsDue old.shows.plan old.shows.timelines.items (taken old.sink.now) (taken new.sink.now) old.decider.handler due

    -- a prefix of it is
    abbrev pub CutsIn : Option VsyncReport → Compositor K B naming → Compositor K B naming → Type 0
    CutsIn due old new = CutsDue old.shows.plan old.shows.timelines.items (taken old.sink.now) (taken new.sink.now) old.decider.handler due

  module _ (taken : K → Option (List ℕ)) (faults : K → ℕ) where
    -- how the showing of what was due ended, whichever pixels its images have: it is written, or a prefix of it
    abbrev pub ShowingEnded : {A : Type 0} → Option VsyncReport → Compositor K B naming → Compositor K B naming → Result A RunFault → Type 0
    ShowingEnded due old new result = WritingEnded result (faults old.sink.now) (faults new.sink.now) (λ _. TellsIn taken due old new) (CutsIn taken due old new)

    -- From visit to visit: the log of its vsyncs, with what was written of it; and the count of the sink's faults has not fallen.
    pub record Keeps (lease : Ghosts ReadLeaseOf SeatView ReadLeaseOf Issued) (table : TableId) (start c : Compositor K B naming) (locks : Locks B)
        (first : FirstSeats B) : Type 0 where
      pub same : IsSame start c
      pub few : c.vsyncs ≤ 2147483648
      pub log : KeepsLog lease table locks c.period c.due c.shows.plan start.decider.handler.tree.most c.shows.timelines.items (taken start.sink.now)
          (taken c.sink.now) c.screens (sitting_of first c)
      pub faults_rise : faults start.sink.now ≤ faults c.sink.now

    -- Once it can make no more: a prefix was written of what its vsyncs show; and where the sink is why, its count of faults rose.
    pub record HasEnded (lease : Ghosts ReadLeaseOf SeatView ReadLeaseOf Issued) (table : TableId) (start c : Compositor K B naming) : Type 0 where
      pub same : IsSame start c
      pub cut : CutVsyncs B lease table start.period start.shows.plan start.decider.handler.tree.most start.shows.timelines.items (taken start.sink.now) (taken c.sink.now)
      pub faults_rise : faults start.sink.now ≤ faults c.sink.now
      pub failed : c.fault ≡ Some WriteFault → Rose (faults start.sink.now) (faults c.sink.now)

    module _ {A E : Type 0} (lease : Ghosts ReadLeaseOf SeatView ReadLeaseOf Issued) (table : TableId) (old new : Compositor K B naming) (result : Result A E) where
      -- what a compositor keeps it keeps as a vsync is made
      abbrev pub StaysMade : Locks B → FirstSeats B → FirstSeats B → Type 0
      StaysMade locks before after =
          (start : Compositor K B naming) → Keeps lease table start old locks before → OnOk result (Keeps lease table start new locks after)

      -- unless it can make no more
      abbrev pub EndsMade : Locks B → FirstSeats B → Type 0
      EndsMade locks before = (start : Compositor K B naming) → Keeps lease table start old locks before → OnErr result (HasEnded lease table start new)

      -- with whichever seats it kept it, it keeps it as its last vsync is shown, and nothing is due
      abbrev pub StaysSettled : Type 0
      StaysSettled =
          (start : Compositor K B naming) (locks : Locks B) (first : FirstSeats B) → Keeps lease table start old locks first
          → OnOk result (Keeps lease table start new locks first × (new.due ≡ None))

      -- unless writing failed
      abbrev pub EndsSettled : Type 0
      EndsSettled =
          (start : Compositor K B naming) (locks : Locks B) (first : FirstSeats B) → Keeps lease table start old locks first
          → OnErr result (HasEnded lease table start new)

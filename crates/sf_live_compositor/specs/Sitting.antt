-- What a compositor keeps while actors run in threads: the log of its vsyncs, and what was written of them.
use Rattle.std.specs.Prelude.{All, ◌≡◌, ℕ, ◌<◌, ◌≤◌, false, List, [], ◌∷◌, ◌++◌, map, Option, Some, None, Result, IfOk, OnOk}
use Rattle.std.specs.List.{flat_map}
use Rattle.atomic_table.specs.Seated.{TableId}
use Rattle.sf_base.specs.declared.memory.NoMemory.{NoMemory}
use Rattle.sf_live_threads.specs.sf_picture.declared.picture.Picture.{Picture}
use Rattle.sf_live_threads.specs.sf_calls_stamped.Stamps.{unstamped}
use Rattle.sf_live_threads.specs.sf_surface.Tokens.{Issued, ReadLeaseOf}
use Rattle.sf_live_threads.specs.sf_turns.Views.{SeatView}
use Rattle.sf_live_threads.specs.sf_txn.declared.lease.Lease.{Ghosts}
use Rattle.sf_live_threads.specs.sf_txn.Buffers.{Shows}
use Rattle.sf_live_threads.specs.sf_txn.Leases.{IsEyeAfter}
use Rattle.sf_live_threads.specs.sf_commit.Handlers.{HandlerOf, new_handler}
use Rattle.sf_live_threads.specs.sf_commit.Lending.{ends_of}
use Rattle.sf_live_threads.specs.sf_commit.OnLayers.{OnLayer, at_hand, lent_from}
use Rattle.sf_live_threads.specs.sf_commit.Standing.{Stands}
use Rattle.sf_live_threads.specs.sf_actor.Plain.{taken_in}
use Rattle.sf_play_write.specs.sf_output_plan.Due.{IsPlan}
use Rattle.sf_play_write.specs.sf_output_plan.declared.plan.Plan.{Plan}
use Rattle.sf_play_write.specs.sf_record.declared.record.Record.{Record}
use Rattle.sf_play_write.specs.sf_play_report.Stages.{AreExpected, IsStage}
use Rattle.sf_play_write.specs.sf_play_report.declared.report.VsyncReport.{VsyncReport}
use Rattle.sf_play_write.specs.sf_output_screen.ScreenLists.{AreShown}
use Rattle.sf_play_write.specs.sf_output_screen.declared.screens.OutputScreen.{OutputScreen}
use Rattle.sf_live_threads.specs.sf_live_seats.declared.locks.Locks.{Locks}
use Rattle.sf_live_threads.specs.sf_live_seats.Observers.{SeatGoesOn}
use Rattle.sf_live_threads.specs.sf_live_seats.First.{KnowsNothing}
use Rattle.sf_live_threads.specs.sf_live_seats.Seats.{AreSeats}
use Rattle.sf_play_write.specs.sf_play.Playing.{expected_by}
use Rattle.sf_play_write.specs.declared.shows.Shows.{Shows as ShownIn}
use Rattle.sf_play_write.specs.Vsyncs.{CutsVsync, KeepsShown, WritesVsync, vsync_shown}
use Rattle.sf_play_write.specs.Writing.{Writes}
use Rattle.sf_live_compositor.specs.declared.vsync.MadeVsync.{MadeVsync}
use Rattle.sf_live_compositor.specs.Vsyncs.{Begin, IsVsync, More, Sitting, Vsyncs}

-- a vsync's report, with the handler that it left
pub record Showing : Type 0 where
  pub report : VsyncReport
  pub handler : HandlerOf ReadLeaseOf

-- each buffer on a layer has the picture that its number stands for
abbrev pub AreFound : (ℕ → Picture) → List Showing → Type 0
AreFound pictures showings = All (λ (showing : Showing). AreExpected expected_by pictures showing.handler) showings

-- the records of vsyncs, one after the other
abbrev pub records_shown : (ℕ → Picture) → Plan → List ℕ → List Showing → List Record
records_shown pictures plan timelines showings =
    flat_map (λ (showing : Showing). vsync_shown pictures plan timelines showing.report showing.handler.tree.layers) showings

-- each layer shows the one buffer that stands for it, whose crop lies in the picture that it expects
pub record ShowsBuffers (handler : HandlerOf ReadLeaseOf) : Type 0 where
  pub stands : Stands handler.tree.layers handler.on
  pub crops : All (λ (one : OnLayer ReadLeaseOf). Shows one.shown one.lease.turn.expects) handler.on

module _ {B : Type 0} (lease : Ghosts ReadLeaseOf SeatView ReadLeaseOf Issued) (table : TableId) (locks : Locks B) (period : ℕ) where
  -- what a vsync is shown by
  abbrev pub showing_of : {before after : Sitting B} → IsVsync lease table locks period before after → Showing
  showing_of {before} {after} vsync = record {
    report = record {
      number = after.number;
      expected = vsync.expected;
      seen = vsync.seen;
      commits = vsync.told.commits;
    };
    handler = after.handler;
  }

  -- a vsync was made, and this is its report
  pub record MakesVsync (before after : Sitting B) (report : VsyncReport) : Type 0 where
    pub vsync : IsVsync lease table locks period before after
    pub is : (showing_of vsync).report ≡ report

  -- what came of making a vsync: if one was made, it is such a one
  abbrev pub MadeOne : {E : Type 0} → Sitting B → Sitting B → Result MadeVsync E → Type 0
  MadeOne before after result = IfOk result (λ made. MakesVsync before after made.report)

  -- what the vsyncs of a log are shown by
  abbrev pub showings_of : {start last : Sitting B} → Vsyncs lease table locks period start last → List Showing
  showings_of Begin = []
  showings_of (More log vsync) = showings_of log ++ showing_of vsync ∷ []

  -- The records of the vsyncs of a log were written, one after another, whichever pixels their images have.
  abbrev pub WritesLog : Plan → List ℕ → {start last : Sitting B} → Vsyncs lease table locks period start last → Option (List ℕ) → Option (List ℕ) → Type 0
  WritesLog plan timelines Begin before now = now ≡ before
  WritesLog plan timelines (More {after} log vsync) before now =
      (then : Option (List ℕ)) × WritesLog plan timelines log before then
      × WritesVsync plan timelines after.handler.tree.layers (showing_of vsync).report then now

  -- a prefix of them was written, of which only the last one's may be missing
  abbrev pub CutsLog : Plan → List ℕ → {start last : Sitting B} → Vsyncs lease table locks period start last → Option (List ℕ) → Option (List ℕ) → Type 0
  CutsLog plan timelines Begin before now = now ≡ before
  CutsLog plan timelines (More {after} log vsync) before now =
      (then : Option (List ℕ)) × WritesLog plan timelines log before then
      × CutsVsync plan timelines after.handler.tree.layers (showing_of vsync).report then now

  -- a compositor that has made no vsync, for so many layers, with seats that know of no call, and signalled nothing and left no turn
  pub record IsFresh (plan : Plan) (most : ℕ) (start : Sitting B) : Type 0 where
    pub handler : start.handler ≡ new_handler plan.width plan.height most
    pub nothing : KnowsNothing start.seats
    pub no_signals : start.seats.times.knows.signals ≡ []
    pub no_leaves : start.seats.turns.leaves ≡ []
    pub number : start.number ≡ 0

  -- a vsync was made, and what it shows by a plan was written, where the buffers on layers have their pictures
  pub record ShowsVsync (plan : Plan) (timelines : List ℕ) (before now : Option (List ℕ)) (screens shown : List OutputScreen) (old new : Sitting B) : Type 0 where
    pub vsync : IsVsync lease table locks period old new
    pub written : (pictures : ℕ → Picture) → AreExpected expected_by pictures new.handler → AreShown pictures screens
        → Writes before now (vsync_shown pictures plan timelines (showing_of vsync).report new.handler.tree.layers) × AreShown pictures shown
    pub told : WritesVsync plan timelines new.handler.tree.layers (showing_of vsync).report before now

  -- A compositor and its seats came from a beginning by the vsyncs of a log; and what these show by a plan is written behind what
  -- was there before, where the buffers on layers have their pictures.
  pub record Sits (plan : Plan) (most : ℕ) (timelines : List ℕ) (before now : Option (List ℕ)) (screens : List OutputScreen) (sitting : Sitting B) : Type 0 where
    pub start : Sitting B
    pub fresh : IsFresh plan most start
    pub log : Vsyncs lease table locks period start sitting
    pub written : (pictures : ℕ → Picture) → AreFound pictures (showings_of log)
        → Writes before now (records_shown pictures plan timelines (showings_of log)) × AreShown pictures screens
    pub told : WritesLog plan timelines log before now

-- A compositor made vsyncs one after another from a beginning, over some locks, and a prefix was written of what they show by a plan.
pub record CutVsyncs (B : Type 0) (lease : Ghosts ReadLeaseOf SeatView ReadLeaseOf Issued) (table : TableId) (period : ℕ) (plan : Plan) (most : ℕ)
    (timelines : List ℕ) (before now : Option (List ℕ)) : Type 0 where
  pub locks : Locks B
  pub start : Sitting B
  pub last : Sitting B
  pub fresh : IsFresh lease table locks period plan most start
  pub log : Vsyncs lease table locks period start last
  pub told : CutsLog lease table locks period plan timelines log before now

-- nothing is lent: the pixels of all buffers on layers are at hand, and no read is kept for some that are to come back
pub record HasAll (handler : HandlerOf ReadLeaseOf) : Type 0 where
  pub unlent : handler.lent ≡ None
  pub none_kept : handler.kept ≡ []
  pub here : map at_hand handler.on ≡ handler.on

-- a handler that had all lent its pixels
pub record HasLent (was now : HandlerOf ReadLeaseOf) : Type 0 where
  pub all : HasAll was
  pub pixels : List Picture
  pub lent : now ≡ record was { on = lent_from 0 was.on; lent = Some pixels }

-- a compositor once its pixels are back, with its seat at the turns as it is then
abbrev pub given_back : {B : Type 0} → Sitting B → SeatView → Sitting B
given_back sitting turns = record {
  handler = record sitting.handler { on = map at_hand sitting.handler.on; lent = None; kept = [] };
  seats = record sitting.seats { turns = turns };
  number = sitting.number;
}

-- The next vsync may be made by its caller: the seats are its own, what it took is known to be taken, and no call of it was of a later vsync.
pub record MayMake {B : Type 0} (table : TableId) (locks : Locks B) (period : ℕ) (before : Sitting B) : Type 0 where
  pub own : AreSeats table locks before.seats
  pub first : before.seats.by ≡ 0
  pub known : before.handler.last ≤ taken_in (unstamped before.seats.arrivals.seen)
  pub short : period ≤ 1000000000
  pub few : before.number ≤ 2147483648
  pub early : before.seats.last.step ≤ before.number

module _ {B : Type 0} (lease : Ghosts ReadLeaseOf SeatView ReadLeaseOf Issued) (table : TableId) (locks : Locks B) (period : ℕ) where
  -- A vsync was made while the pixels of what was shown before were lent: once they are back, and the reads are left that were kept for them,
  -- it is a vsync of a compositor that lent nothing, and this is its report.
  abbrev pub MakesLent : Sitting B → Sitting B → VsyncReport → Type 0
  MakesLent before after report =
      (turns : SeatView) → SeatGoesOn after.seats.turns turns → IsEyeAfter lease after.seats.turns turns (ends_of lease after.handler.kept)
      → MakesVsync lease table locks period before (given_back after turns) report

  -- what came of making a vsync while a handler had lent its pixels: if one was made, it is such a one
  pub record MadeLent (before after : Sitting B) (result : Result MadeVsync NoMemory) : Type 0 where
    pub makes : (was : HandlerOf ReadLeaseOf) → HasLent was before.handler → IfOk result (λ made. MakesLent (record before { handler = was }) after made.report)

  -- what came of the next vsync, which is made while a handler has lent its pixels
  pub record MakesNext (before after : Sitting B) (result : Result MadeVsync NoMemory) : Type 0 where
    pub makes : MadeLent before after result
    pub known : OnOk result (after.handler.last ≤ taken_in (unstamped after.seats.arrivals.seen))
    pub early : OnOk result (after.seats.last.step ≤ after.number)
    pub lent : after.handler.lent ≡ before.handler.lent
    pub turns : after.seats.turns.table ≡ before.seats.turns.table

  -- A compositor and its seats came from a beginning by vsyncs, of which all but the last are written; the last is not, and what it shows is there to
  -- be composed.
  pub record SitsBehind (plan : Plan) (most : ℕ) (timelines : List ℕ) (before now : Option (List ℕ)) (screens : List OutputScreen) (sitting : Sitting B)
      (report : VsyncReport) : Type 0 where
    pub last : Sitting B
    pub sits : Sits lease table locks period plan most timelines before now screens last
    pub made : MakesVsync lease table locks period last sitting report
    pub stage : IsStage expected_by plan sitting.handler

  -- it came from a beginning by vsyncs, and these are written: all of them, or all but the last, where its report is due
  abbrev pub SitsWith : Option VsyncReport → Plan → ℕ → List ℕ → Option (List ℕ) → Option (List ℕ) → List OutputScreen → Sitting B → Type 0
  SitsWith None plan most timelines before now screens sitting = Sits lease table locks period plan most timelines before now screens sitting
  SitsWith (Some report) plan most timelines before now screens sitting = SitsBehind plan most timelines before now screens sitting report

-- the records of a vsync were written, which left this handler, where the buffers on its layers have their pictures
abbrev pub WritesLast : Plan → List ℕ → Option (List ℕ) → Option (List ℕ) → List OutputScreen → List OutputScreen → HandlerOf ReadLeaseOf → VsyncReport
    → Type 0
WritesLast plan timelines before now screens shown handler report =
    (pictures : ℕ → Picture) → AreExpected expected_by pictures handler → AreShown pictures screens
    → Writes before now (vsync_shown pictures plan timelines report handler.tree.layers) × AreShown pictures shown

-- those of the vsync whose report is due, if one is
abbrev pub WritesDue : Plan → List ℕ → Option (List ℕ) → Option (List ℕ) → List OutputScreen → List OutputScreen → HandlerOf ReadLeaseOf → Option VsyncReport
    → Type 0
WritesDue plan timelines before now screens shown handler None = (now ≡ before) × KeepsShown screens shown
WritesDue plan timelines before now screens shown handler (Some report) = WritesLast plan timelines before now screens shown handler report

-- the records of the vsync whose report is due, if one is, were written, whichever pixels its images have
abbrev pub TellsDue : Plan → List ℕ → Option (List ℕ) → Option (List ℕ) → HandlerOf ReadLeaseOf → Option VsyncReport → Type 0
TellsDue plan timelines before now handler None = now ≡ before
TellsDue plan timelines before now handler (Some report) = WritesVsync plan timelines handler.tree.layers report before now

-- a prefix of them was written
abbrev pub CutsDue : Plan → List ℕ → Option (List ℕ) → Option (List ℕ) → HandlerOf ReadLeaseOf → Option VsyncReport → Type 0
CutsDue plan timelines before now handler None = now ≡ before
CutsDue plan timelines before now handler (Some report) = CutsVsync plan timelines handler.tree.layers report before now

-- What a compositor has that may make a vsync, which shows what a plan asks for: it is alive and has lent nothing, its display has
-- the plan's size, its layers can't be too many, and what it took is known to be taken; and no call of it was of a later vsync than
-- its last.
pub record MaySit {B : Type 0} (plan : Plan) (sitting : Sitting B) : Type 0 where
  pub alive : sitting.handler.is_spent ≡ false
  pub all : HasAll sitting.handler
  pub wide : sitting.handler.width ≡ plan.width
  pub high : sitting.handler.height ≡ plan.height
  pub few : sitting.handler.tree.most ≤ 1024
  pub known : sitting.handler.last ≤ taken_in (unstamped sitting.seats.arrivals.seen)
  pub early : sitting.seats.last.step ≤ sitting.number

-- a compositor's own settings
pub record IsSet (period : ℕ) (plan : Plan) (timelines : List ℕ) : Type 0 where
  pub short : period ≤ 1000000000
  pub planned : IsPlan plan
  pub ranges : All (λ timeline. (1 ≤ timeline) × (timeline ≤ 64)) timelines

-- The next vsync of a compositor that shows this may be made by its seats, which are its own.
pub record MayShowNext {B : Type 0} (table : TableId) (locks : Locks B) (period : ℕ) (shows : ShownIn) (sitting : Sitting B) : Type 0 where
  pub set : IsSet period shows.plan shows.timelines.items
  pub own : AreSeats table locks sitting.seats
  pub first : sitting.seats.by ≡ 0
  pub early : sitting.number < 2147483648
  pub may : MaySit shows.plan sitting

module _ {B : Type 0} (lease : Ghosts ReadLeaseOf SeatView ReadLeaseOf Issued) (table : TableId) (locks : Locks B) (period : ℕ) where
  -- what a compositor keeps of its vsyncs
  pub record KeepsLog (due : Option VsyncReport) (plan : Plan) (most : ℕ) (timelines : List ℕ) (before now : Option (List ℕ))
      (screens : List OutputScreen) (sitting : Sitting B) : Type 0 where
    pub set : IsSet period plan timelines
    pub sits : SitsWith lease table locks period due plan most timelines before now screens sitting
    pub may : MaySit plan sitting

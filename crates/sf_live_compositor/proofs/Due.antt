-- A log of vsyncs goes on, of which all but the last are written.
use Rattle.std.proofs.Common.{◌≡◌, ℕ, List, Option, Some, None, Result, Ok, Err, OnErr, OnOk, sym, subst}
use Rattle.std.specs.Prelude.{IfSome}
use Rattle.atomic_table.specs.Seated.{TableId}
use Rattle.sf_live_threads.specs.sf_commit.Handlers.{HandlerOf}
use Rattle.sf_play_write.specs.sf_output_plan.declared.plan.Plan.{Plan}
use Rattle.sf_play_write.specs.sf_play.Playing.{expected_by}
use Rattle.sf_play_write.specs.sf_play_report.Stages.{IsStage}
use Rattle.sf_play_write.specs.sf_play_report.declared.report.VsyncReport.{VsyncReport}
use Rattle.sf_play_write.specs.sf_output_screen.declared.screens.OutputScreen.{OutputScreen}
use Rattle.sf_live_threads.specs.sf_live_seats.declared.locks.Locks.{Locks}
use Rattle.sf_live_threads.specs.sf_surface.Tokens.{Issued, ReadLeaseOf}
use Rattle.sf_live_threads.specs.sf_turns.Views.{SeatView}
use Rattle.sf_live_threads.specs.sf_txn.declared.lease.Lease.{Ghosts}
use Rattle.sf_play_write.specs.declared.shows.Shows.{Shows}
use Rattle.sf_play_write.specs.Vsyncs.{CutsVsync, KeepsShown}
use Rattle.sf_play_write.specs.Writing.{Writes}
use Rattle.sf_play_write.proofs.VsyncLemmas.{vsync_whole}
use Rattle.sf_live_compositor.specs.Sitting.{CutVsyncs, CutsDue, CutsLog, KeepsLog, MakesVsync, Sits, SitsBehind, SitsWith, TellsDue, WritesDue, WritesLog}
use Rattle.sf_live_compositor.specs.Sitting.{records_shown, showing_of, showings_of}
use Rattle.sf_live_compositor.specs.Vsyncs.{Begin, More, Sitting, Vsyncs}
use Rattle.sf_live_compositor.proofs.Shown.{shows_it}
use Rattle.sf_live_compositor.proofs.Sits.{sits_more}

module _ {B : Type 0} (lease : Ghosts ReadLeaseOf SeatView ReadLeaseOf Issued) (table : TableId) (locks : Locks B) (period : ℕ) (plan : Plan) (most : ℕ) (timelines : List ℕ)
    (before now : Option (List ℕ)) (screens : List OutputScreen) (sitting : Sitting B) where
  -- what is due can be composed
  pub stage_due : (due : Option VsyncReport) → SitsWith lease table locks period due plan most timelines before now screens sitting
      → IfSome due (λ (last : VsyncReport). IsStage expected_by plan sitting.handler)
  stage_due None sits = tt
  stage_due (Some report) sits = sits.stage

  -- nothing is due
  pub sits_all : (due : Option VsyncReport) → due ≡ None → Sits lease table locks period plan most timelines before now screens sitting
      → SitsWith lease table locks period due plan most timelines before now screens sitting
  sits_all due none sits = subst (λ (d : Option VsyncReport). SitsWith lease table locks period d plan most timelines before now screens sitting) (sym none) sits

  module _ (later : Option (List ℕ)) (shown : List OutputScreen) where
    -- of a compositor that wrote nothing more, and shows the same
    still_sits : Sits lease table locks period plan most timelines before now screens sitting → later ≡ now → KeepsShown screens shown
        → Sits lease table locks period plan most timelines before later shown sitting
    still_sits sits same keeps = record {
      start = sits.start;
      fresh = sits.fresh;
      log = sits.log;
      written = λ pictures found.
          let was = sits.written pictures found in
          (subst (λ (n : Option (List ℕ)). Writes before n (records_shown pictures plan timelines (showings_of lease table locks period sits.log))) (sym same) was.0, keeps pictures was.1);
      told = subst (WritesLog lease table locks period plan timelines sits.log before) (sym same) sits.told;
    }

    -- all that was due is written
    pub sits_then : (due : Option VsyncReport) → SitsWith lease table locks period due plan most timelines before now screens sitting
        → WritesDue plan timelines now later screens shown sitting.handler due → TellsDue plan timelines now later sitting.handler due
        → Sits lease table locks period plan most timelines before later shown sitting
    sits_then None sits written told = still_sits sits written.0 written.1
    sits_then (Some report) sits written told =
        sits_more lease table locks period plan most timelines before now later screens shown sits.last sitting sits.sits
        (shows_it lease table locks period plan timelines now later screens shown sits.last sitting report sits.made written told)

    -- and the next vsync is due
    pub sits_behind : (due : Option VsyncReport) (new : Sitting B) (report : VsyncReport) → SitsWith lease table locks period due plan most timelines before now screens sitting
        → WritesDue plan timelines now later screens shown sitting.handler due → TellsDue plan timelines now later sitting.handler due
        → MakesVsync lease table locks period sitting new report → IsStage expected_by plan new.handler
        → SitsBehind lease table locks period plan most timelines before later shown new report
    sits_behind due new report sits written told made stage = record { last = sitting; sits = sits_then due sits written told; made = made; stage = stage }

  -- the vsyncs of a log that is written whole
  whole_log : (start last : Sitting B) (log : Vsyncs lease table locks period start last) (now : Option (List ℕ)) → WritesLog lease table locks period plan timelines log before now
      → CutsLog lease table locks period plan timelines log before now
  whole_log start last Begin now told = told
  whole_log start last (More {after} log vsync) now told =
      (told.0, told.1, vsync_whole plan timelines after.handler.tree.layers (showing_of lease table locks period vsync).report told.0 now told.2)

  -- of a compositor all that was due before was written, or a prefix
  cut_whole : (last : Sitting B) (now : Option (List ℕ)) (screens : List OutputScreen) → Sits lease table locks period plan most timelines before now screens last
      → CutVsyncs B lease table period plan most timelines before now
  cut_whole last now screens sits = record { locks = locks; start = sits.start; last = last; fresh = sits.fresh; log = sits.log; told = whole_log sits.start last sits.log now sits.told }

  -- where it stops before what is due is written
  pub cut_kept : (due : Option VsyncReport) → SitsWith lease table locks period due plan most timelines before now screens sitting
      → CutVsyncs B lease table period plan most timelines before now
  cut_kept None sits = cut_whole sitting now screens sits
  cut_kept (Some report) sits = cut_whole sits.last now screens sits.sits

  -- where a prefix of what was due is written
  pub cut_due : (due : Option VsyncReport) (later : Option (List ℕ)) → SitsWith lease table locks period due plan most timelines before now screens sitting
      → CutsDue plan timelines now later sitting.handler due → CutVsyncs B lease table period plan most timelines before later
  cut_due None later sits cut = subst (CutVsyncs B lease table period plan most timelines before) (sym cut) (cut_whole sitting now screens sits)
  cut_due (Some report) later sits cut = record {
    locks = locks;
    start = sits.sits.start;
    last = sitting;
    fresh = sits.sits.fresh;
    log = More sits.sits.log sits.made.vsync;
    told = (now, sits.sits.told, subst (λ (r : VsyncReport). CutsVsync plan timelines sitting.handler.tree.layers r now later) (sym sits.made.is) cut);
  }

-- what was written, of the same timelines, and of the same report
pub written_by : (plan : Plan) (before now : Option (List ℕ)) (screens shown : List OutputScreen) (handler : HandlerOf ReadLeaseOf) (some others : List ℕ) (one other : Option VsyncReport) → some ≡ others → one ≡ other
    → WritesDue plan some before now screens shown handler one → WritesDue plan others before now screens shown handler other
written_by plan before now screens shown handler some others one other same due written =
    subst (λ (timelines : List ℕ). WritesDue plan timelines before now screens shown handler other) same
    (subst (λ (report : Option VsyncReport). WritesDue plan some before now screens shown handler report) due written)

-- whichever pixels it has
pub told_by : (plan : Plan) (before now : Option (List ℕ)) (handler : HandlerOf ReadLeaseOf) (some others : List ℕ) (one other : Option VsyncReport) → some ≡ others → one ≡ other
    → TellsDue plan some before now handler one → TellsDue plan others before now handler other
told_by plan before now handler some others one other same due told =
    subst (λ (timelines : List ℕ). TellsDue plan timelines before now handler other) same
    (subst (λ (report : Option VsyncReport). TellsDue plan some before now handler report) due told)

pub cut_by : (plan : Plan) (before now : Option (List ℕ)) (handler : HandlerOf ReadLeaseOf) (some others : List ℕ) (one other : Option VsyncReport) → some ≡ others → one ≡ other
    → CutsDue plan some before now handler one → CutsDue plan others before now handler other
cut_by plan before now handler some others one other same due cut =
    subst (λ (timelines : List ℕ). CutsDue plan timelines before now handler other) same
    (subst (λ (report : Option VsyncReport). CutsDue plan some before now handler report) due cut)

-- of a compositor with the same settings
pub cut_so : {B : Type 0} {lease : Ghosts ReadLeaseOf SeatView ReadLeaseOf Issued} {table : TableId} {before now : Option (List ℕ)} (period start : ℕ) (plan first : Plan) (most : ℕ) (timelines begun : List ℕ)
    → period ≡ start → plan ≡ first → timelines ≡ begun → CutVsyncs B lease table period plan most timelines before now → CutVsyncs B lease table start first most begun before now
cut_so {B} {lease} {table} {before} {now} period start plan first most timelines begun same_period same_plan same_timelines cut =
    subst (λ (p : ℕ). CutVsyncs B lease table p first most begun before now) same_period
    (subst (λ (p : Plan). CutVsyncs B lease table period p most begun before now) same_plan
    (subst (λ (ts : List ℕ). CutVsyncs B lease table period plan most ts before now) same_timelines cut))

pub keeps_log : {B : Type 0} {lease : Ghosts ReadLeaseOf SeatView ReadLeaseOf Issued} {table : TableId} {locks : Locks B} {due : Option VsyncReport} {most : ℕ} {before now : Option (List ℕ)} {screens : List OutputScreen} {sitting : Sitting B}
    (period other : ℕ) (shows others : Shows) → period ≡ other → shows ≡ others → KeepsLog lease table locks period due shows.plan most shows.timelines.items before now screens sitting
    → KeepsLog lease table locks other due others.plan most others.timelines.items before now screens sitting
keeps_log {B} {lease} {table} {locks} {due} {most} {before} {now} {screens} {sitting} period other shows others same_period same_shows log =
    subst (λ (p : ℕ). KeepsLog lease table locks p due others.plan most others.timelines.items before now screens sitting) same_period
    (subst (λ (s : Shows). KeepsLog lease table locks period due s.plan most s.timelines.items before now screens sitting) same_shows log)

-- what is so whatever came of it
pub on_any : {T E X : Type 0} (result : Result T E) → X → OnOk result X
on_any (Ok made) fact = fact
on_any (Err fault) fact = tt

pub on_fault : {T E X : Type 0} (result : Result T E) → X → OnErr result X
on_fault (Ok made) fact = tt
on_fault (Err fault) fact = fact

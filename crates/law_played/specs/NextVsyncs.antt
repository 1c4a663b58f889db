-- A run so far and its next vsync, as the laws about vsyncs take them: values, and what is known of them.
use Rattle.std.specs.Prelude.{◌≡◌, ℕ, ◌+◌, ◌*◌, true, false, List, [], ◌∷◌, ◌++◌, length, map, Option}
use Rattle.std.specs.List.{All, AllZip, range_with_len}
use Rattle.sf_base.specs.declared.fences.Seen.{Seen}
use Rattle.sf_commit.specs.Handlers.{Decides, HandlerOf, last_of, new_handler}
use Rattle.sf_commit.specs.Lending.{KeptRead}
use Rattle.sf_commit.specs.OnLayers.{OnLayer, at_hand, lent_from}
use Rattle.sf_commit.specs.Releases.{CommittedOf}
use Rattle.sf_commit.specs.sf_ready.declared.hold.Hold.{Hold}
use Rattle.sf_commit.specs.sf_token.Loads.{AllLeases}
use Rattle.sf_commit.specs.sf_token.Pending.{Arrival, IsRisingFrom}
use Rattle.sf_commit.specs.sf_txn.declared.lease.Lease.{Ghosts}
use Rattle.sf_script_scene.specs.Limits.{most_layers}
use Rattle.sf_script_scene.specs.Scene.{SceneValue}
use Rattle.sf_script_scene.specs.sf_picture.declared.picture.Picture.{Picture}
use Rattle.sf_actor.specs.Makers.{Run}
use Rattle.sf_actor.specs.Names.{FrameOf}
use Rattle.sf_actor.specs.Written.{FrameNumber}
use Rattle.sf_compose.specs.sf_tree.Trees.{TreeOf}
use Rattle.sf_record.specs.declared.event.VsyncRecords.{VsyncRecords}
use Rattle.law_played.specs.Commits.{is_written}
use Rattle.law_played.specs.Frames.{shown_after}
use Rattle.law_played.specs.Framing.{framed_arrival, framed_on}
use Rattle.law_played.specs.Holds.{EndOf, uncommitted}
use Rattle.law_played.specs.Progress.{GivesBack, GoesOnBy, HasPlayed, SaysVsync, ShowsWhatIsWritten, WroteWhatShows, is_time}
use Rattle.law_played.specs.RunStates.{RunState}
use Rattle.law_played.specs.Runs.{final_values, written_in}
use Rattle.law_played.specs.Stages.{VsyncAt, bare_round, round_at_end, told_of}
use Rattle.law_played.specs.Vsyncs.{commits_in}

-- A run so far, beside the handler that makes its vsyncs.
pub record RunSoFar (L : Type 0) : Type 0 where
  -- the frame that each lease lends
  pub frame : L → FrameOf
  -- what is played
  pub scene : SceneValue
  -- the frames that are written
  pub written : List FrameNumber
  -- what the vsyncs took
  pub arrivals : List (Arrival FrameOf)
  -- the records of the vsyncs
  pub vsyncs : List VsyncRecords

module _ {L : Type 0} where
  -- a handler has come so far with it
  abbrev pub HasCome : RunSoFar L → HandlerOf L → Type 0
  HasCome run handler = HasPlayed run.frame run.scene run.written run.arrivals run.vsyncs handler

  -- its vsyncs, each with its round
  abbrev pub told_so_far : RunSoFar L → List VsyncAt
  told_so_far run = told_of run.scene run.arrivals run.vsyncs

  -- the same with more that the vsyncs took, and with other frames written
  abbrev pub with_arrivals : RunSoFar L → List (Arrival FrameOf) → RunSoFar L
  with_arrivals run more = record run { arrivals = run.arrivals ++ more }

  abbrev pub with_written : RunSoFar L → List FrameNumber → RunSoFar L
  with_written run others = record run { written = others }

  -- the same before the first vsync, and the handler that it begins with
  abbrev pub before_vsyncs : RunSoFar L → RunSoFar L
  before_vsyncs run = record run { arrivals = []; vsyncs = [] }

  abbrev pub first_handler : RunSoFar L → ℕ → ℕ → HandlerOf L
  first_handler run width height = new_handler width height (most_layers run.scene.version)

  -- a handler that lends the pixels of what is on layers, and one that got them back
  abbrev pub that_lends : HandlerOf L → Option (List Picture) → HandlerOf L
  that_lends handler lent = record handler { on = lent_from 0 handler.on; lent = lent }

  abbrev pub with_pixels : HandlerOf L → Option (List Picture) → List (KeptRead L) → HandlerOf L
  with_pixels handler lent kept = record handler { on = map at_hand handler.on; lent = lent; kept = kept }

  -- arrivals are numbered from 1 on
  abbrev pub AreNumberedFrom1 : List (Arrival L) → Type 0
  AreNumberedFrom1 arrivals = map (λ (a : Arrival L). a.number) arrivals ≡ range_with_len 1 (length arrivals)

-- A handler that has come so far with a run.
pub record ComeSoFar (L : Type 0) : Type 0 where
  -- the run, the handler, and that it has come so far
  pub run : RunSoFar L
  pub handler : HandlerOf L
  pub come : HasCome run handler

module _ {L E R C : Type 0} (lease : Ghosts L E R C) where
  -- leases that are alike where they are handed on lend one frame
  abbrev pub LendsOneFrame : (L → FrameOf) → Type 0
  LendsOneFrame frame = (a b : L) → lease.plain a ≡ lease.plain b → frame a ≡ frame b

  -- A vsync of a handler.
  pub record DecidedVsync : Type 0 where
    -- the handler before it and after it
    pub old : HandlerOf L
    pub new : HandlerOf L
    -- what its looks knew of writes before it and after it
    pub eye : E
    pub later : E
    -- what it took
    pub arrived : List (Arrival L)
    -- what it saw of the timelines
    pub seen : Seen
    -- when it is due
    pub expected : ℕ
    -- what it reports
    pub told : CommittedOf L
    -- by all this it is what the handler decides
    pub decides : Decides lease old eye arrived seen expected told new later

  -- the frames that go with it
  abbrev pub gone_with : (L → FrameOf) → DecidedVsync → List (OnLayer FrameOf)
  gone_with frame vsync = map (framed_on frame) vsync.decides.end.stage.gone

  -- its releases give these back, in their order
  abbrev pub GivesBackWhatGoes : (L → FrameOf) → DecidedVsync → Type 0
  GivesBackWhatGoes frame vsync = AllZip (GivesBack frame) (gone_with frame vsync) vsync.told.releases

  -- its looks show as written only what is written in a run; or exactly that
  abbrev pub LooksWrote : RunSoFar L → DecidedVsync → Type 0
  LooksWrote run vsync = WroteWhatShows run.frame lease.shown run.written vsync.decides.looked

  abbrev pub LooksShow : RunSoFar L → DecidedVsync → Type 0
  LooksShow run vsync = ShowsWhatIsWritten run.frame lease.shown run.written vsync.decides.looked

  -- each write among its looks that the eye knows after it to have ended is written in a run
  abbrev pub EyeKnows : RunSoFar L → DecidedVsync → Type 0
  EyeKnows run vsync = AllLeases (λ l. lease.knows vsync.later l → is_written run.written (run.frame l) ≡ true) vsync.decides.looked

  -- the eye before it is exact, and its ends say of each look what is written in a run
  pub record EyeTells (run : RunSoFar L) (vsync : DecidedVsync) : Type 0 where
    pub exact : lease.is_exact (lease.mark vsync.eye) ≡ true
    pub tells : AllLeases (λ l. lease.tells (lease.ends vsync.eye) (lease.end l) ≡ is_written run.written (run.frame l)) vsync.decides.looked

  -- The next vsync of a run so far.
  pub record NextVsync : Type 0 where
    -- the run before it, and what the handler decides
    pub run : RunSoFar L
    pub vsync : DecidedVsync
    -- leases that are alike where they are handed on lend one frame
    pub plain : LendsOneFrame run.frame
    -- the handler has come so far
    pub come : HasCome run vsync.old
    -- what it took rises behind what was taken before
    pub rises : IsRisingFrom vsync.old.last vsync.arrived (last_of vsync.old.last vsync.arrived)

  -- the run behind it, where it has no record
  abbrev pub run_behind : NextVsync → RunSoFar L
  run_behind next = with_arrivals next.run (map (framed_arrival next.run.frame) next.vsync.arrived)

  -- the frames that go with it, and the arrivals without a commit behind it
  abbrev pub gone_by : NextVsync → List (OnLayer FrameOf)
  gone_by next = gone_with next.run.frame next.vsync

  abbrev pub left_by : NextVsync → List (Arrival FrameOf)
  left_by next =
      let run = run_behind next in
      uncommitted run.arrivals (commits_in run.vsyncs)

  -- The next vsync with a record that says what it reports.
  pub record ReportedVsync : Type 0 where
    -- the vsync, its record, and that this says what it reports
    pub next : NextVsync
    pub report : VsyncRecords
    pub says : SaysVsync report next.vsync.told next.vsync.seen next.vsync.expected

  -- the run behind it, with that record
  abbrev pub run_with : ReportedVsync → RunSoFar L
  run_with one =
      let run = run_behind one.next in
      record run { vsyncs = run.vsyncs ++ one.report ∷ [] }

  -- the record of the vsyncs goes on by it, with the tree that it leaves and the frames that go with it
  abbrev pub AddsItsRound : ReportedVsync → Type 0
  AddsItsRound one = GoesOnBy (told_so_far one.next.run) (told_so_far (run_with one)) one.report one.next.vsync.new.tree (gone_by one.next)

  -- The last vsync of a run.
  pub record LastVsync : Type 0 where
    -- the vsync
    pub next : NextVsync
    -- it commits nothing
    pub silent : next.vsync.told.commits ≡ []
    -- no time holds a transaction
    pub no_time : All (λ (h : ℕ × Hold). is_time h.1 ≡ false) next.vsync.told.held
    -- its looks show exactly what is written
    pub shows : LooksShow next.run next.vsync

  -- what is known behind it, which is the end
  abbrev pub end_seen : NextVsync → EndOf
  end_seen next =
      let run = run_behind next in
      record { written = run.written; frames = (round_at_end (bare_round run.scene) (told_so_far run)).frames; values = next.vsync.seen }

  -- A vsync of a play on one thread.
  pub record VsyncOfPlay : Type 0 where
    -- the frame that each lease lends, and what is played
    pub frame : L → FrameOf
    pub scene : SceneValue
    -- the run of the actors so far
    pub run : Run
    -- the number of vsyncs so far, what they took, and their records
    pub number : ℕ
    pub arrivals : List (Arrival FrameOf)
    pub vsyncs : List VsyncRecords
    -- the handler before it and after it
    pub old : HandlerOf L
    pub new : HandlerOf L
    -- what its looks knew of writes before it and after it
    pub eye : E
    pub later : E
    -- what it took, and what it reports
    pub arrived : List (Arrival L)
    pub told : CommittedOf L
    -- leases that are alike where they are handed on lend one frame
    pub plain : LendsOneFrame frame
    -- the handler has come so far
    pub played : HasPlayed frame scene (written_in scene run) arrivals vsyncs old
    -- it saw the values that were signalled so far, at its time
    pub decides : Decides lease old eye arrived (final_values scene run) ((number + 1) * scene.period) told new later
    -- what it took rises behind what was taken before
    pub rises : IsRisingFrom old.last arrived (last_of old.last arrived)
    -- its looks show exactly what is written so far
    pub shows : ShowsWhatIsWritten frame lease.shown (written_in scene run) decides.looked

  -- the state of the run at it, where it has taken what arrived
  abbrev pub state_at : VsyncOfPlay → RunState
  state_at vsync = record {
    run = vsync.run;
    arrivals = vsync.arrivals ++ map (framed_arrival vsync.frame) vsync.arrived;
    reports = vsync.vsyncs;
    vsyncs = vsync.number;
  }

  abbrev pub gone_at : VsyncOfPlay → List (OnLayer FrameOf)
  gone_at vsync = map (framed_on vsync.frame) vsync.decides.end.stage.gone

-- A vsync more in the record of the vsyncs, each with its round.
pub record AddedVsync : Type 0 where
  -- that record before it and behind it
  pub told : List VsyncAt
  pub later : List VsyncAt
  -- its own record, the tree that it leaves, and the frames that go with it
  pub report : VsyncRecords
  pub tree : TreeOf
  pub gone : List (OnLayer FrameOf)
  pub adds : GoesOnBy told later report tree gone

-- it shows the outputs due of the tree that it leaves
abbrev pub ShowsDue : SceneValue → AddedVsync → Type 0
ShowsDue scene added = added.report.shown ≡ shown_after scene added.report.commits added.tree

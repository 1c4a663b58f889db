-- How far a run has come whose vsyncs a handler makes: what it reported is what the records say, and what it keeps is what waits.
use Rattle.std.specs.Prelude.{◌≡◌, ℕ, Bool, true, false, List, [], ◌∷◌, ◌++◌, map, is_some}
use Rattle.std.specs.List.{All, find}
use Rattle.sf_base.specs.declared.fences.Seen.{Seen}
use Rattle.sf_commit.specs.sf_ready.declared.hold.Hold.{Hold}
use Rattle.sf_commit.specs.sf_ready.declared.hold.Hold.TheVariants as hold
use Rattle.sf_commit.specs.sf_token.Loads.{AllLeases}
use Rattle.sf_commit.specs.sf_token.Pending.{Arrival, IsRisingFrom, has_number}
use Rattle.sf_compose.specs.sf_tree.Trees.{TreeOf}
use Rattle.sf_commit.specs.Handlers.{HandlerOf}
use Rattle.sf_commit.specs.OnLayers.{OnLayer}
use Rattle.sf_commit.specs.Releases.{ReleaseOf, CommittedOf}
use Rattle.sf_script_scene.specs.Scene.{SceneValue}
use Rattle.sf_actor.specs.Names.{FrameOf}
use Rattle.sf_actor.specs.Written.{FrameNumber}
use Rattle.sf_record.specs.declared.event.VsyncRecords.{VsyncRecords}
use Rattle.sf_record.specs.declared.record.CommitRecord.{CommitRecord}
use Rattle.sf_record.specs.declared.record.HeldEntry.{HeldEntry}
use Rattle.law_played.specs.Commits.{CommitsReady, SaysResults, arrived_of, commit_shown, committed_of, is_written, seen_by}
use Rattle.law_played.specs.Framing.{IsKeptBy, framed_arrival}
use Rattle.law_played.specs.Histories.{Released}
use Rattle.law_played.specs.Holds.{hold_shown, uncommitted}
use Rattle.law_played.specs.Stages.{VsyncAt, bare_round, round_at_end, told_of}
use Rattle.law_played.specs.Vsyncs.{commits_in}

-- a commit is one of an arrival
abbrev pub IsOfArrival : List (Arrival FrameOf) → CommitRecord → Type 0
IsOfArrival arrivals commit = is_some (find (has_number commit.arrival) arrivals) ≡ true

-- arrivals have rising numbers up to the last; and each token's commits are its first arrivals: those without a commit are the rest
pub record AreInOrder (arrivals : List (Arrival FrameOf)) (last : ℕ) (commits : List CommitRecord) : Type 0 where
  pub rising : IsRisingFrom 0 arrivals last
  pub of_arrivals : All (IsOfArrival arrivals) commits
  pub of_each_token : (token : ℕ) → committed_of token commits ++ arrived_of token (uncommitted arrivals commits) ≡ arrived_of token arrivals

-- the frames that one list names are among those of the other
abbrev pub AreWrittenToo : List FrameNumber → List FrameNumber → Type 0
AreWrittenToo written others = (frame : FrameOf) → is_written written frame ≡ true → is_written others frame ≡ true

-- a vsync waits for a time
abbrev pub is_time : Hold → Bool
is_time (hold.Time _) = true
is_time other = false

-- what the record shows of a transaction that waits
abbrev pub held_shown : ℕ × Hold → HeldEntry
held_shown held = hold_shown held.0 held.1

-- the record of a vsync says what the handler reported
pub record SaysVsync {L : Type 0} (vsync : VsyncRecords) (told : CommittedOf L) (seen : Seen) (expected : ℕ) : Type 0 where
  pub commits : vsync.commits ≡ map commit_shown told.commits
  pub due : vsync.expected ≡ expected
  pub saw : seen_by vsync ≡ seen

module _ {L : Type 0} (frame : L → FrameOf) where
  -- a run has come so far, where these frames are written in it
  pub record HasPlayed (scene : SceneValue) (written : List FrameNumber) (arrivals : List (Arrival FrameOf)) (vsyncs : List VsyncRecords) (handler : HandlerOf L) : Type 0 where
    pub order : AreInOrder arrivals handler.last (commits_in vsyncs)
    pub waits : map (framed_arrival frame) handler.pending ≡ uncommitted arrivals (commits_in vsyncs)
    pub round : IsKeptBy frame (round_at_end (bare_round scene) (told_of scene arrivals vsyncs)) handler
    pub results : All SaysResults (told_of scene arrivals vsyncs)
    pub ready : All (CommitsReady written) (told_of scene arrivals vsyncs)

  -- where a look showed that a write has ended, the frame is written
  abbrev pub WroteWhatShows : (L → Bool) → List FrameNumber → List (Arrival L) → Type 0
  WroteWhatShows shown written looked = AllLeases (λ l. shown l ≡ true → is_written written (frame l) ≡ true) looked

  -- looks showed exactly what is written
  abbrev pub ShowsWhatIsWritten : (L → Bool) → List FrameNumber → List (Arrival L) → Type 0
  ShowsWhatIsWritten shown written looked = AllLeases (λ l. shown l ≡ is_written written (frame l)) looked

-- the record of the vsyncs goes on by one: its own record, the tree that it leaves, and the frames that go with it
pub record GoesOnBy (told later : List VsyncAt) (vsync : VsyncRecords) (tree : TreeOf) (gone : List (OnLayer FrameOf)) : Type 0 where
  pub at : VsyncAt
  pub joined : later ≡ told ++ at ∷ []
  pub report : at.vsync ≡ vsync
  pub leaves : at.round.stage.tree ≡ tree
  pub goes : at.round.stage.gone ≡ gone

-- what a vsync releases of the frames that go
abbrev pub released_by : VsyncRecords → List (OnLayer FrameOf) → List Released
released_by vsync gone = map (λ on. record { vsync = vsync.number; on = on }) gone

-- a release gives back a frame that goes, with its fence
pub record GivesBack {L : Type 0} (frame : L → FrameOf) (on : OnLayer FrameOf) (release : ReleaseOf L) : Type 0 where
  pub queue : release.queue ≡ on.shown.queue
  pub number : release.frame ≡ on.shown.frame
  pub lease : frame release.lease ≡ on.lease
  pub fence : release.fence ≡ on.fence

-- What the log of a compositor's vsyncs says: what it took, and what is shown of it.
use Rattle.std.specs.Prelude.{◌≡◌, ℕ, ◌≤◌, true, if◌then◌else◌, List, [], ◌∷◌, ◌++◌, map, take, All, Contains}
use Rattle.atomic_table.specs.Seated.{TableId}
use Rattle.sf_base.specs.Fences.{value_of}
use Rattle.sf_base.specs.Points.{greatest}
use Rattle.sf_base.specs.declared.fences.Seen.{Seen}
use Rattle.law_threads.specs.sf_calls.declared.object.Entry.{Entry}
use Rattle.law_threads.specs.sf_calls.Histories.{Begins}
use Rattle.law_threads.specs.sf_calls_stamped.Stamps.{unstamped}
use Rattle.law_threads.specs.sf_surface.Tokens.{Issued, ReadLeaseOf}
use Rattle.law_threads.specs.sf_times.declared.protocol.Knows.{Knows}
use Rattle.law_threads.specs.sf_times.Seats.{OnlyOwnSignals}
use Rattle.law_threads.specs.sf_token.Arrivals.{is_take, sent}
use Rattle.law_threads.specs.sf_token.Pending.{Arrival}
use Rattle.law_threads.specs.sf_turns.Views.{SeatView}
use Rattle.law_threads.specs.sf_txn.declared.lease.Lease.{Ghosts}
use Rattle.law_threads.specs.sf_commit.Handlers.{HandlerOf}
use Rattle.law_threads.specs.sf_commit.OnLayers.{OnLayer}
use Rattle.law_threads.specs.sf_script_scene.Scene.{SceneValue, has_timeline}
use Rattle.law_threads.specs.sf_actor.Desks.{DeskView}
use Rattle.law_threads.specs.sf_actor.Known.{AreAmong, CountsRise, frame_of, plain_arrival}
use Rattle.law_threads.specs.sf_actor.Names.{FrameOf}
use Rattle.law_threads.specs.sf_actor.Plain.{taken_in}
use Rattle.law_threads.specs.sf_actor.Written.{FrameNumber}
use Rattle.law_threads.specs.sf_record.declared.event.VsyncRecords.{VsyncRecords}
use Rattle.law_threads.specs.law_played.Commits.{is_written}
use Rattle.law_threads.specs.law_played.Frames.{ShowImages}
use Rattle.law_threads.specs.law_played.Progress.{HasPlayed}
use Rattle.law_threads.specs.law_played.Seeing.{HasSeen}
use Rattle.law_threads.specs.law_played.Stages.{VsyncAt, told_of}
use Rattle.law_threads.specs.sf_live_seats.declared.locks.Locks.{Locks}
use Rattle.law_threads.specs.sf_live_seats.declared.seats.Seats.{Seats}
use Rattle.law_threads.specs.sf_live_seats.Arriving.{ArrivalCalls, Arrived, Arriving}
use Rattle.law_threads.specs.sf_live_seats.Seats.{view_of}
use Rattle.law_threads.specs.sf_play_report.Reports.{has_commits}
use Rattle.law_threads.specs.sf_live_compositor.Vsyncs.{Begin, IsVsync, More, Sitting, Vsyncs}
use Rattle.law_threads.specs.sf_play.Players.{AreLent, IsBufferLent, WasLent}
use Rattle.law_threads.specs.sf_play.Showing.{vsync_shown}

module _ {B : Type 0} (lease : Ghosts ReadLeaseOf SeatView ReadLeaseOf Issued) (table : TableId) (locks : Locks B) (period : ℕ) where
  -- all that was taken
  abbrev pub taken_of : {start last : Sitting B} → Vsyncs lease table locks period start last → List (Arrival ReadLeaseOf)
  taken_of Begin = []
  taken_of (More log vsync) = taken_of log ++ vsync.arrived

  -- what is shown of a vsync, where something was committed
  abbrev pub shown_of : SceneValue → {before after : Sitting B} → IsVsync lease table locks period before after → List VsyncRecords
  shown_of scene {before} {after} vsync =
      if has_commits vsync.told.commits then vsync_shown scene after.number vsync.expected vsync.seen vsync.told.commits after.handler.tree ∷ [] else []

  abbrev pub reports_of : SceneValue → {start last : Sitting B} → Vsyncs lease table locks period start last → List VsyncRecords
  reports_of scene Begin = []
  reports_of scene (More log vsync) = reports_of scene log ++ shown_of scene vsync

-- What seats know is known at the join, where so much was called and sent: each history there begins with what they know, each point
-- that they were shown was shown, and of no buffer they saw more turns to have left.
pub record IsKnown {B : Type 0} (joined : DeskView B) (arriving : ArrivalCalls) (seats : Seats B) : Type 0 where
  pub calls : (queue : ℕ) → Begins ((view_of seats).calls queue) (joined.calls queue)
  pub arrivals : Begins (unstamped seats.arrivals.seen) arriving
  pub shown : AreAmong seats.times.knows.shown joined.times.shown
  pub counts : CountsRise seats.turns.seen joined.turns.seen

-- nobody but the first caller, whose number is 0, takes what arrived
abbrev pub OnlyFirstTakes : ArrivalCalls → Type 0
OnlyFirstTakes arriving = (one : Entry Arriving Arrived) → Contains arriving one → is_take one.call ≡ true → one.by ≡ 0

-- All that was sent before a take was taken: what the handler took last is the last that was taken there, and what was taken of the arrivals is
-- what the log says.
pub record HasTaken (handler : HandlerOf ReadLeaseOf) (calls : ArrivalCalls) (taken : List (Arrival ReadLeaseOf)) : Type 0 where
  pub last : handler.last ≡ taken_in calls
  pub front : take (taken_in calls) (sent calls) ≡ taken

-- A seat at the timelines was shown nothing but 0 and what was signalled through it or those that it took in; these signals are ones of
-- steps, and each is of a declared timeline.
pub record KnowsSteps (scene : SceneValue) (joined : Knows) (made : List (ℕ × ℕ)) : Type 0 where
  pub only : OnlyOwnSignals joined
  pub by_steps : AreAmong joined.signals made
  pub declared : (p : ℕ × ℕ) → Contains joined.signals p → has_timeline scene.timelines p.0 ≡ true

-- the vsyncs so far are those of a scene, and the seat at the timelines knows what they saw
pub record HasSeenSo (scene : SceneValue) (made : List (ℕ × ℕ)) (reports : List VsyncRecords) (number : ℕ) (knows : Knows) : Type 0 where
  pub seen : Seen
  pub has : HasSeen scene made reports number seen
  pub within : (t : ℕ) → 1 ≤ t → t ≤ 64 → value_of seen.values t ≤ greatest t knows.known

-- all buffers that a handler has show frames that calls of the run gave
pub record HoldsLent {B : Type 0} (joined : DeskView B) (handler : HandlerOf ReadLeaseOf) : Type 0 where
  pub pending : AreLent joined handler.pending
  pub on : All (λ (one : OnLayer ReadLeaseOf). IsBufferLent joined one.shown one.lease) handler.on

-- A compositor before its first vsync: it has and took nothing, and its seats know no call.
pub record IsBegun {B : Type 0} (start : Sitting B) : Type 0 where
  pub pending : start.handler.pending ≡ []
  pub on : start.handler.on ≡ []
  pub last : start.handler.last ≡ 0
  pub arrivals : start.seats.arrivals.seen ≡ []
  pub calls : (queue : ℕ) → (view_of start.seats).calls queue ≡ []

-- Where an eye has seen no more turns leave than were seen at the join, each write that it knows to have ended is among these.
pub record KnowsWritten {B : Type 0} (lease : Ghosts ReadLeaseOf SeatView ReadLeaseOf Issued) (joined : DeskView B) (written : List FrameNumber) : Type 0 where
  pub known : (eye : SeatView) (l : ReadLeaseOf) → CountsRise eye.seen joined.turns.seen → WasLent joined l → lease.knows eye l → is_written written (frame_of l) ≡ true

module _ {B : Type 0} (lease : Ghosts ReadLeaseOf SeatView ReadLeaseOf Issued) (table : TableId) (locks : Locks B) (period : ℕ) (scene : SceneValue) where
  -- what was taken, as frames
  abbrev pub came_in : {start last : Sitting B} → Vsyncs lease table locks period start last → List (Arrival FrameOf)
  came_in log = map plain_arrival (taken_of lease table locks period log)

  -- the record of the vsyncs of a log
  abbrev pub told_in : {start last : Sitting B} → Vsyncs lease table locks period start last → List VsyncAt
  told_in log = told_of scene (came_in log) (reports_of lease table locks period scene log)

  -- The vsyncs of a log played so far, where these frames were written, and showed the frames that were due.
  pub record HasPlayedSo (written : List FrameNumber) {start last : Sitting B} (log : Vsyncs lease table locks period start last) : Type 0 where
    pub played : HasPlayed frame_of scene written (came_in log) (reports_of lease table locks period scene log) last.handler
    pub frames : ShowImages scene (told_in log)

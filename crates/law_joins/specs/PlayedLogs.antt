-- The log of a compositor among threads, as the laws about it take it: values, and what is known of them.
use Rattle.std.specs.Prelude.{◌≡◌, ℕ, List, []}
use Rattle.atomic_table.specs.Seated.{TableId}
use Rattle.law_threads.specs.sf_calls.Histories.{Begins}
use Rattle.law_threads.specs.sf_calls_stamped.Stamps.{unstamped}
use Rattle.law_threads.specs.sf_commit.Handlers.{HandlerOf}
use Rattle.law_threads.specs.sf_script_scene.Scene.{SceneValue}
use Rattle.law_threads.specs.sf_script_scene.declared.step.ActorScript.{ActorScript}
use Rattle.law_threads.specs.sf_surface.Histories.{Made}
use Rattle.law_threads.specs.sf_surface.Tokens.{Issued, ReadLeaseOf}
use Rattle.law_threads.specs.sf_surface.declared.mark.QueueMark.{QueueMark}
use Rattle.law_threads.specs.sf_script_scene.declared.declarations.QueueDecl.{QueueDecl}
use Rattle.law_threads.specs.law_played.Actors.{mark_declared}
use Rattle.law_threads.specs.sf_times.declared.protocol.Knows.{Knows}
use Rattle.law_threads.specs.sf_token.Pending.{Arrival}
use Rattle.law_threads.specs.sf_turns.Views.{SeatView}
use Rattle.law_threads.specs.sf_txn.declared.lease.Lease.{Ghosts}
use Rattle.law_threads.specs.sf_actor.Desks.{DeskView, mark_among}
use Rattle.law_threads.specs.sf_actor.Known.{AreAmong, frame_of}
use Rattle.law_threads.specs.sf_actor.Written.{FrameNumber}
use Rattle.law_threads.specs.sf_actor_set.Opening.{new_actors}
use Rattle.law_threads.specs.sf_actor_steps.declared.actor.Actor.{Actor}
use Rattle.law_threads.specs.sf_live_compositor.Vsyncs.{IsVsync, Sitting, Vsyncs}
use Rattle.law_threads.specs.sf_live_seats.Arriving.{ArrivalCalls}
use Rattle.law_threads.specs.sf_live_seats.Seats.{view_of}
use Rattle.law_threads.specs.sf_live_seats.declared.locks.Locks.{Locks}
use Rattle.law_threads.specs.sf_live_seats.declared.seats.Seats.{Seats}
use Rattle.law_threads.specs.sf_live_threads.declared.seated_actor.SeatedActor.{SeatedActor}
use Rattle.law_threads.specs.sf_play.Players.{AreLent}
use Rattle.law_threads.specs.law_played.Histories.{Released, released_in}
use Rattle.law_threads.specs.law_played.Progress.{HasPlayed}
use Rattle.law_joins.specs.Logs.{HasPlayedSo, HasSeenSo, HasTaken, IsBegun, IsKnown, KnowsSteps, KnowsWritten, OnlyFirstTakes, reports_of, taken_of, told_in}
use Rattle.law_joins.specs.SeatedActors.{CameOfNew}

-- What was taken of the calls on arrivals.
pub record TakenSo : Type 0 where
  -- the handler, the calls that it knew, and what it took of them
  pub handler : HandlerOf ReadLeaseOf
  pub calls : ArrivalCalls
  pub taken : List (Arrival ReadLeaseOf)
  pub has : HasTaken handler calls taken

-- Seated actors that were sent out in threads and came back.
pub record SentActors (B : Type 0) (table : TableId) : Type 0 where
  -- what is played, the locks, and the seats of who sends
  pub scene : SceneValue
  pub locks : Locks B
  pub known : Seats B
  -- the scripts of the scene in their order, and the buffers that their actors may make
  pub declared : List ActorScript
  pub stock : List ℕ
  pub actors : List (Actor B)
  -- as they were sent, and as they came back; they had done nothing before
  pub sent : List (SeatedActor B)
  pub back : List (SeatedActor B)
  pub came : CameOfNew scene table locks known (new_actors declared stock) actors sent back

-- A vsync of a compositor among threads, and what is known at the join: all that its seats knew behind it.
pub record JoinedVsync (B : Type 0) (lease : Ghosts ReadLeaseOf SeatView ReadLeaseOf Issued) : Type 0 where
  -- the table of buffers, the locks, and the time from one vsync to the next
  pub table : TableId
  pub locks : Locks B
  pub period : ℕ
  -- the compositor before it and behind it
  pub before : Sitting B
  pub after : Sitting B
  pub is : IsVsync lease table locks period before after
  -- what is known at the join, with the calls on arrivals
  pub joined : DeskView B
  pub arriving : ArrivalCalls
  pub known : IsKnown joined arriving after.seats

-- Its vsyncs, from one sitting to another.
pub record VsyncLog (B : Type 0) (lease : Ghosts ReadLeaseOf SeatView ReadLeaseOf Issued) : Type 0 where
  -- the table of buffers, the locks, and the time from one vsync to the next
  pub table : TableId
  pub locks : Locks B
  pub period : ℕ
  -- the compositor before the first of them and behind the last
  pub start : Sitting B
  pub last : Sitting B
  pub log : Vsyncs lease table locks period start last

module _ {B : Type 0} {lease : Ghosts ReadLeaseOf SeatView ReadLeaseOf Issued} where
  -- all that they took
  abbrev pub all_taken : VsyncLog B lease → List (Arrival ReadLeaseOf)
  all_taken vsyncs = taken_of lease vsyncs.table vsyncs.locks vsyncs.period vsyncs.log

  -- what the seats know of the calls on arrivals behind the last, and of those on queues
  abbrev pub arrivals_seen : VsyncLog B lease → ArrivalCalls
  arrivals_seen vsyncs = unstamped vsyncs.last.seats.arrivals.seen

  abbrev pub calls_seen : VsyncLog B lease → ℕ → List (Made B)
  calls_seen vsyncs = (view_of vsyncs.last.seats).calls

-- Vsyncs of the first caller, who alone takes arrivals.
pub record FirstLog (B : Type 0) (lease : Ghosts ReadLeaseOf SeatView ReadLeaseOf Issued) : Type 0 where
  pub vsyncs : VsyncLog B lease
  pub by_first : vsyncs.last.seats.by ≡ 0
  -- before the first of them nothing was taken or called
  pub begun : IsBegun vsyncs.start
  -- the calls on the arrivals of the run
  pub arriving : ArrivalCalls
  pub only : OnlyFirstTakes arriving
  -- they begin with those that the seats know
  pub begins : Begins (arrivals_seen vsyncs) arriving

-- Vsyncs that took frames of a run.
pub record LentLog (B : Type 0) (lease : Ghosts ReadLeaseOf SeatView ReadLeaseOf Issued) : Type 0 where
  pub vsyncs : VsyncLog B lease
  -- before the first of them nothing was taken or called
  pub begun : IsBegun vsyncs.start
  -- what is known at the join: each frame that they took was given by a call of the run
  pub joined : DeskView B
  pub lent : AreLent joined (all_taken vsyncs)

-- Vsyncs whose seats were shown only what steps signalled.
pub record SignalledLog (B : Type 0) (lease : Ghosts ReadLeaseOf SeatView ReadLeaseOf Issued) : Type 0 where
  pub vsyncs : VsyncLog B lease
  pub scene : SceneValue
  pub same_period : vsyncs.period ≡ scene.period
  -- what a seat at the timelines knows at the join, and the signals of steps
  pub joined : Knows
  pub made : List (ℕ × ℕ)
  pub steps : KnowsSteps scene joined made
  -- what the compositor's seat was shown is among what was shown at the join
  pub shown : AreAmong vsyncs.last.seats.times.knows.shown joined.shown

module _ {B : Type 0} {lease : Ghosts ReadLeaseOf SeatView ReadLeaseOf Issued} where
  -- so far they are vsyncs of the scene
  abbrev pub SawSignals : SignalledLog B lease → Type 0
  SawSignals of =
      let vsyncs = of.vsyncs in
      HasSeenSo of.scene of.made (reports_of lease vsyncs.table vsyncs.locks vsyncs.period of.scene vsyncs.log) vsyncs.last.number vsyncs.last.seats.times.knows

-- Vsyncs of a run of a scene, whose seats know only what is known at the join.
pub record JoinedLog (B : Type 0) (lease : Ghosts ReadLeaseOf SeatView ReadLeaseOf Issued) : Type 0 where
  pub vsyncs : VsyncLog B lease
  pub scene : SceneValue
  pub same_period : vsyncs.period ≡ scene.period
  -- what is known at the join, with the calls on arrivals, which the first caller alone takes
  pub joined : DeskView B
  pub arriving : ArrivalCalls
  pub only : OnlyFirstTakes arriving
  -- the signals of steps, and what was shown of them
  pub made : List (ℕ × ℕ)
  pub steps : KnowsSteps scene joined.times made
  -- the frames that are written, among which each is whose write was seen to end
  pub written : List FrameNumber
  pub wrote : KnowsWritten lease joined written
  -- before the first vsync nothing was taken or called, and nothing is played
  pub begun : IsBegun vsyncs.start
  pub played : HasPlayed frame_of scene written [] [] vsyncs.start.handler
  -- the vsyncs are the first caller's, and all that its seats know is known at the join
  pub by_first : vsyncs.last.seats.by ≡ 0
  pub known : IsKnown joined arriving vsyncs.last.seats
  -- each frame that they took was given by a call of the run
  pub lent : AreLent joined (all_taken vsyncs)

module _ {B : Type 0} {lease : Ghosts ReadLeaseOf SeatView ReadLeaseOf Issued} where
  -- they played what was sent
  abbrev pub PlayedSo : JoinedLog B lease → Type 0
  PlayedSo of =
      let vsyncs = of.vsyncs in
      HasPlayedSo lease vsyncs.table vsyncs.locks vsyncs.period of.scene of.written vsyncs.log

  -- the frames that they released
  abbrev pub all_released : JoinedLog B lease → List Released
  all_released of =
      let vsyncs = of.vsyncs in
      released_in (told_in lease vsyncs.table vsyncs.locks vsyncs.period of.scene vsyncs.log)

-- A declared queue, whose mark is one of these.
pub record MarkedQueue : Type 0 where
  pub marks : List QueueMark
  pub declared : QueueDecl
  pub marked : mark_among marks declared.number ≡ mark_declared declared

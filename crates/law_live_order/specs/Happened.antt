-- What happened in a run in threads up to its join.
use Rattle.std.specs.Prelude.{ℕ, List, map}
use Rattle.atomic_table.specs.Seated.{TableId}
use Rattle.law_order.specs.Order.{Happened, InOneOrder}
use Rattle.law_threads.specs.sf_actor.Plain.{PlainOf}
use Rattle.law_threads.specs.sf_live_compositor.Vsyncs.{Sitting}
use Rattle.law_threads.specs.sf_live_seats.Seats.{tells_of}
use Rattle.law_threads.specs.sf_live_seats.declared.locks.Locks.{Locks}
use Rattle.law_threads.specs.sf_live_threads.Walks.{Moment}
use Rattle.law_threads.specs.sf_play.Players.{arrived_at, run_so, taken_at, told_at}
use Rattle.law_threads.specs.sf_play.Standing.{StandsInRun}
use Rattle.law_threads.specs.sf_script_scene.Scene.{SceneValue}
use Rattle.law_threads.specs.sf_surface.Tokens.{Issued, ReadLeaseOf}
use Rattle.law_threads.specs.sf_turns.Views.{SeatView}
use Rattle.law_threads.specs.sf_txn.declared.lease.Lease.{Ghosts}
use Rattle.law_threads.specs.law_played.Arrivals.{entry_of}
use Rattle.law_threads.specs.law_played.Histories.{history_shown, rising_queues}
use Rattle.law_threads.specs.law_played.Vsyncs.{vsyncs_in}
use Rattle.law_rounds.specs.law_waits.Leaving.{LeavesNone}
use Rattle.law_joins.specs.Joined.{IsJoined, JoinedRun, player_joined, player_of, so_joined, so_of}

module _ {B : Type 0} (lease : Ghosts ReadLeaseOf SeatView ReadLeaseOf Issued) (scene : SceneValue) (table : TableId) (period most : ℕ)
    (locks : Locks B) (last : Sitting B) (ends : List (Moment B)) (desk : PlainOf B) where
  -- the calls, the arrivals and the vsyncs that a player that goes on from the join shows
  abbrev pub happened_so : IsJoined lease scene table period most locks last ends desk → Happened
  happened_so is =
      let so = so_joined lease scene table period most locks last ends desk is in
      let play = (player_joined scene ends desk last).play in
      record { histories = map (history_shown (run_so so play)) (rising_queues scene); arrived = map entry_of (arrived_at play); vsyncs = vsyncs_in so.events }

module _ {B : Type 0} {lease : Ghosts ReadLeaseOf SeatView ReadLeaseOf Issued} {table : TableId} where
  -- what happened in a run in threads up to its join
  abbrev pub happened_at : JoinedRun B lease table → Happened
  happened_at join = happened_so lease join.scene table join.period join.most join.locks join.last join.ends join.desk join.is

  -- a player goes on with it
  abbrev pub IsGoneOnWith : JoinedRun B lease table → Type 0
  IsGoneOnWith join = StandsInRun table join.scene (so_of join) (player_of join)

  -- none of its vsyncs passes over an arrival
  abbrev pub PassesNone : JoinedRun B lease table → Type 0
  PassesNone join =
      let play = (player_of join).play in
      LeavesNone (taken_at play) (told_at join.scene (so_of join) play)

-- what happened in any run in threads over these buffers, up to its join, is in one order
abbrev pub JoinsInOneOrder : (B : Type 0) → Ghosts ReadLeaseOf SeatView ReadLeaseOf Issued → TableId → Type 0
JoinsInOneOrder B lease table = (join : JoinedRun B lease table) → InOneOrder (tells_of join.locks) (happened_at join)

-- and where a player goes on with such a run, none of its vsyncs passes over an arrival
abbrev pub JoinsPassNone : (B : Type 0) → Ghosts ReadLeaseOf SeatView ReadLeaseOf Issued → TableId → Type 0
JoinsPassNone B lease table = (join : JoinedRun B lease table) → IsGoneOnWith join → PassesNone join

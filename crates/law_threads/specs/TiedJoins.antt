-- A run in threads at its join, as the laws about it take it: values, and what is known of them.
use Rattle.std.specs.Prelude.{◌≡◌, ℕ, ◌≤◌, List, map}
use Rattle.atomic_table.specs.Seated.{TableId}
use Rattle.sf_script_scene.specs.Scene.{SceneValue}
use Rattle.sf_turns.specs.Counts.{IsExact}
use Rattle.sf_turns.specs.Views.{SeatView}
use Rattle.law_draws.specs.sf_surface.Tokens.{Issued, ReadLeaseOf}
use Rattle.law_draws.specs.sf_txn.declared.lease.Lease.{Ghosts}
use Rattle.law_draws.specs.sf_actor.Plain.{PlainOf, home_of, view_of}
use Rattle.law_draws.specs.sf_actor.Scripts.{picture_at}
use Rattle.law_draws.specs.sf_actor.Tries.{ActorOf}
use Rattle.law_draws.specs.law_played.Actors.{AreActors}
use Rattle.law_draws.specs.law_rights.Actors.{AreOver}
use Rattle.law_draws.specs.law_rights.InTurn.{DrawsStand}
use Rattle.law_draws.specs.law_rights.MakerRuns.{MakersPlay}
use Rattle.law_draws.specs.law_rights.Standing.{LedgerStands}
use Rattle.sf_live_compositor.specs.Vsyncs.{Sitting, Vsyncs}
use Rattle.sf_live_compositor.specs.sf_live_seats.declared.first.FirstSeats.{FirstSeats}
use Rattle.sf_live_compositor.specs.sf_live_seats.declared.locks.Locks.{Locks}
use Rattle.sf_live_compositor.specs.sf_live_threads.Walks.{Moment}
use Rattle.law_threads.specs.Joining.{Joins, of_at}
use Rattle.law_threads.specs.Members.{AreTied, AreTimed, stamps}
use Rattle.law_threads.specs.Stamped.{AreStamped}

-- A run in threads at its join.
pub record ThreadsJoin (B : Type 0) (lease : Ghosts ReadLeaseOf SeatView ReadLeaseOf Issued) : Type 0 where
  pub scene : SceneValue
  pub table : TableId
  -- the period of its vsyncs, and the layers that its compositor has room for
  pub period : ℕ
  pub most : ℕ
  pub locks : Locks B
  -- the compositor behind its last vsync, the actors as they came back, and the desk that is left
  pub last : Sitting B
  pub ends : List (Moment B)
  pub desk : PlainOf B
  pub joins : Joins lease scene table period most locks last ends desk

module _ {B : Type 0} {lease : Ghosts ReadLeaseOf SeatView ReadLeaseOf Issued} where
  -- the actors as they came back
  abbrev pub actors_of : ThreadsJoin B lease → List (ActorOf B)
  actors_of join = map of_at join.ends

  -- over the desk that is left, the ledger stands, makers are followed, and draws are in turn
  abbrev pub JoinsLedger : ThreadsJoin B lease → Type 0
  JoinsLedger join = LedgerStands join.table.slots (home_of join.desk) (view_of join.desk) (actors_of join) join.last.handler

  abbrev pub JoinsMakers : ThreadsJoin B lease → Type 0
  JoinsMakers join = MakersPlay join.scene (home_of join.desk) (view_of join.desk) (actors_of join) join.last.handler

  abbrev pub JoinsDraws : ThreadsJoin B lease → Type 0
  JoinsDraws join = DrawsStand join.scene (home_of join.desk) (view_of join.desk) (actors_of join) join.last.handler

  -- what the actors that came back keep, over the desk that is left
  pub record KeepAtJoin (join : ThreadsJoin B lease) : Type 0 where
    -- they are those of the scene
    pub actors : AreActors join.scene (actors_of join) (home_of join.desk) (view_of join.desk)
    -- each keeps what it keeps, and each call is an actor's or a release
    pub over : AreOver (picture_at join.scene.pictures) (home_of join.desk) (view_of join.desk) (actors_of join)
    -- all turns are known that left
    pub exact : IsExact join.table.slots (view_of join.desk).turns.leaves (view_of join.desk).turns.seen

-- One with what its ledger rests on.
pub record TiedJoin (B : Type 0) (lease : Ghosts ReadLeaseOf SeatView ReadLeaseOf Issued) : Type 0 where
  pub join : ThreadsJoin B lease
  pub tied : AreTied lease join.table join.period join.locks join.joins.begins join.last join.joins.log join.joins.first join.desk

-- The log of a compositor, whose seats knew, with stamps, how the histories of the whole run began.
pub record StampedLog (B : Type 0) (lease : Ghosts ReadLeaseOf SeatView ReadLeaseOf Issued) : Type 0 where
  pub table : TableId
  pub locks : Locks B
  pub period : ℕ
  -- the first seats after the join
  pub first : FirstSeats B
  -- the compositor before its first vsync and behind its last
  pub start : Sitting B
  pub end : Sitting B
  pub log : Vsyncs lease table locks period start end
  -- its seats are those of the first caller
  pub by_first : end.seats.by ≡ 0
  pub stamped : AreStamped lease table locks period first log

-- The calls of its vsyncs have stamps between bounds, which rise with their numbers.
pub record HasBounds {B : Type 0} {lease : Ghosts ReadLeaseOf SeatView ReadLeaseOf Issued} (of : StampedLog B lease) : Type 0 where
  pub bound : ℕ → ℕ
  pub rises : (n m : ℕ) → n ≤ m → bound n ≤ bound m
  pub timed : AreTimed lease of.table of.locks of.period (stamps of.first) bound of.log

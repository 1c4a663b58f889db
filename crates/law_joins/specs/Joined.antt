-- A run in threads at its join, as one that a player goes on with.
use Rattle.std.specs.Prelude.{◌≡◌, ℕ, ◌≤◌, false, List, ◌++◌, map}
use Rattle.std.specs.List.{flat_map}
use Rattle.atomic_table.specs.Seated.{TableId}
use Rattle.law_threads.specs.sf_calls.Histories.{IsLegal}
use Rattle.law_threads.specs.sf_surface.Histories.{Answers}
use Rattle.law_threads.specs.sf_surface.Tokens.{Issued, ReadLeaseOf}
use Rattle.law_threads.specs.sf_turns.Views.{SeatView}
use Rattle.law_threads.specs.sf_txn.declared.lease.Lease.{Ghosts}
use Rattle.law_threads.specs.sf_script_scene.Scene.{SceneValue}
use Rattle.law_threads.specs.sf_actor.declared.tried.Reply.{Reply}
use Rattle.law_threads.specs.sf_actor.Desks.{KnowsAll, mark_among}
use Rattle.law_threads.specs.sf_actor.Plain.{PlainOf, home_of as plain_home, view_of as plain_view}
use Rattle.law_threads.specs.sf_actor.Scripts.{picture_at}
use Rattle.law_threads.specs.sf_actor.Tries.{ActorOf}
use Rattle.law_threads.specs.sf_actor_set.ActorSets.{ActorSetOf}
use Rattle.law_threads.specs.sf_record.declared.event.Event.{Event}
use Rattle.law_threads.specs.sf_record.declared.event.Event.TheVariants as event
use Rattle.law_threads.specs.sf_record.declared.event.VsyncRecords.{VsyncRecords}
use Rattle.law_threads.specs.law_played.Replies.{reply_shown}
use Rattle.law_threads.specs.law_rights.Actors.{AreOver}
use Rattle.law_threads.specs.law_rights.InTurn.{DrawsStand}
use Rattle.law_threads.specs.law_rights.MakerRuns.{MakersPlay}
use Rattle.law_threads.specs.law_rights.Standing.{LedgerStands}
use Rattle.law_threads.specs.sf_script_scene.Limits.{most_layers}
use Rattle.law_threads.specs.sf_live_seats.declared.locks.Locks.{Locks}
use Rattle.law_threads.specs.sf_live_threads.Walks.{Moment}
use Rattle.law_threads.specs.sf_play.Players.{PlayerOf, SoFar, before_round}
use Rattle.law_joins.specs.Frames.{AllFind}
use Rattle.law_joins.specs.Logs.{reports_of}
use Rattle.law_threads.specs.Joining.{Joins, actor_at, of_at}
use Rattle.law_threads.specs.sf_live_compositor.Vsyncs.{Sitting}

module _ {B : Type 0} where
  -- what an actor replied
  abbrev pub replies_told : ActorOf B → List Event
  replies_told of = map (λ (told : Reply). event.Reply (reply_shown told)) of.replies

  -- the vsyncs that were shown, and behind them all replies, by actor and step
  abbrev pub events_of : List VsyncRecords → List (ActorOf B) → List Event
  events_of reports ofs = map event.Vsync reports ++ flat_map replies_told ofs

  -- the actors that came back, over the desk that is left
  abbrev pub actor_set_joined : SceneValue → List (Moment B) → PlainOf B → ActorSetOf B
  actor_set_joined scene ends desk = record { pictures = scene.pictures; actors = map actor_at ends; desk = desk; is_spent = false }

  -- a player that goes on from there, with the compositor as it was after its last vsync
  abbrev pub player_joined : SceneValue → List (Moment B) → PlainOf B → Sitting B → PlayerOf B
  player_joined scene ends desk last = before_round scene.period scene.order (actor_set_joined scene ends desk) last.handler last.number

module _ {B : Type 0} (lease : Ghosts ReadLeaseOf SeatView ReadLeaseOf Issued) (scene : SceneValue) (table : TableId) (period most : ℕ)
    (locks : Locks B) (last : Sitting B) (ends : List (Moment B)) (desk : PlainOf B) where
  -- A run in threads is joined, over a desk that knows all that happened, and whose histories are legal. Its vsyncs came with the scene's
  -- period, and its compositor began for as many layers as the scene's version has.
  pub record IsJoined : Type 0 where
    pub joins : Joins lease scene table period most locks last ends desk
    pub knows : KnowsAll (plain_view desk)
    pub legal : (queue : ℕ) → IsLegal (Answers (mark_among (plain_home desk).marks queue)) ((plain_view desk).calls queue)
    pub same_period : period ≡ scene.period
    pub same_most : most ≡ most_layers scene.version

  -- what happened in it: the actors as they came back, what its vsyncs showed, and all replies
  abbrev pub so_joined : IsJoined → SoFar B
  so_joined is = record { actors = map of_at ends; events = events_of (reports_of lease table locks period scene is.joins.log) (map of_at ends) }

-- A joined run in threads, as the laws about it take it.
pub record JoinedRun (B : Type 0) (lease : Ghosts ReadLeaseOf SeatView ReadLeaseOf Issued) (table : TableId) : Type 0 where
  pub scene : SceneValue
  -- the period of its vsyncs, and the layers that its compositor has room for
  pub period : ℕ
  pub most : ℕ
  pub locks : Locks B
  -- the compositor behind its last vsync, the actors as they came back, and the desk that is left
  pub last : Sitting B
  pub ends : List (Moment B)
  pub desk : PlainOf B
  pub is : IsJoined lease scene table period most locks last ends desk

module _ {B : Type 0} {lease : Ghosts ReadLeaseOf SeatView ReadLeaseOf Issued} {table : TableId} where
  -- the actors as they came back, and what happened in the run
  abbrev pub actors_of : JoinedRun B lease table → List (ActorOf B)
  actors_of join = map of_at join.ends

  abbrev pub so_of : JoinedRun B lease table → SoFar B
  so_of join = so_joined lease join.scene table join.period join.most join.locks join.last join.ends join.desk join.is

  -- the player that goes on with it
  abbrev pub player_of : JoinedRun B lease table → PlayerOf B
  player_of join = player_joined join.scene join.ends join.desk join.last

  -- the records of its vsyncs
  abbrev pub reports_at : JoinedRun B lease table → List VsyncRecords
  reports_at join = reports_of lease table join.locks join.period join.scene join.is.joins.log

  -- over the desk that is left its ledger stands
  abbrev pub JoinsLedger : JoinedRun B lease table → Type 0
  JoinsLedger join = LedgerStands table.slots (plain_home join.desk) (plain_view join.desk) (actors_of join) join.last.handler

  -- and its actors keep what they keep
  abbrev pub JoinsOver : JoinedRun B lease table → Type 0
  JoinsOver join = AreOver (picture_at join.scene.pictures) (plain_home join.desk) (plain_view join.desk) (actors_of join)

  -- each buffer on a layer after each vsync has the scene's picture of its number
  abbrev pub HavePictures : JoinedRun B lease table → Type 0
  HavePictures join = AllFind lease table join.locks join.period (picture_at join.scene.pictures) join.is.joins.log

  -- all its rights stand there, and its vsyncs can be numbered on
  pub record JoinsRights (join : JoinedRun B lease table) : Type 0 where
    pub few : join.last.number ≤ 2147483648
    pub ledger : JoinsLedger join
    pub makers : MakersPlay join.scene (plain_home join.desk) (plain_view join.desk) (actors_of join) join.last.handler
    pub draws : DrawsStand join.scene (plain_home join.desk) (plain_view join.desk) (actors_of join) join.last.handler

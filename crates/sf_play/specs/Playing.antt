-- What a player is, and what its actions do.
use Rattle.std.specs.Prelude.{◌≡◌, ◌+◌, ◌*◌, ◌<◌, ◌≤◌, false, All, length}
use Rattle.atomic_table.specs.Seated.{TableId}
use Rattle.sf_picture.specs.declared.picture.Picture.{Picture}
use Rattle.sf_play_report.specs.sf_commit.Handlers.{IsHandler}
use Rattle.sf_play_report.specs.sf_commit.OnLayers.{OnLayer}
use Rattle.sf_play_report.specs.sf_commit.Releases.{CommittedOf}
use Rattle.sf_play_report.specs.sf_surface.Tokens.{ReadLeaseOf}
use Rattle.sf_play_report.specs.sf_turns.Views.{SeatView}
use Rattle.sf_play_report.specs.sf_txn.declared.lease.Lease.{Ghosts}
use Rattle.sf_script_scene.specs.Scene.{SceneValue}
use Rattle.law_rights.specs.sf_actor_steps.Playable.{MayPlay}
use Rattle.law_rights.specs.sf_actor_set.ActorSets.{scripts_of}
use Rattle.law_rights.specs.InTurn.{DrawsStand}
use Rattle.law_rights.specs.MakerRuns.{MakersPlay}
use Rattle.law_rights.specs.Standing.{LedgerStands}
use Rattle.sf_play.specs.Alongs.{DeskKnows}
use Rattle.sf_play.specs.Players.{PlayOf, PlayerOf, SoFar, Stands, home_in, view_in}
use Rattle.sf_play.specs.Vsyncing.{MakesVsync}
use Rattle.sf_play_report.specs.declared.report.VsyncReport.{VsyncReport}

-- the picture that the pixels of a buffer on a layer show
abbrev pub expected_by : OnLayer ReadLeaseOf → Picture
expected_by on = on.lease.turn.expects

module _ {B : Type 0} where
  -- the ledger of the rights stands, the makers of buffers are followed through the run, what draws entered is in turn, and each
  -- actor may play
  pub record KeepsRights (table : TableId) (scene : SceneValue) (so : SoFar B) (play : PlayOf B) : Type 0 where
    pub ledger : LedgerStands table.slots (home_in play) (view_in play) so.actors play.handler
    pub makers : MakersPlay scene (home_in play) (view_in play) so.actors play.handler
    pub draws : DrawsStand scene (home_in play) (view_in play) so.actors play.handler
    pub plays : All (MayPlay (home_in play) scene.pictures) (scripts_of play.actor_set.actors)

  -- a play that stands, of some scene, and the number of its next vsync fits its field
  pub record MayMakeVsync (table : TableId) (play : PlayOf B) : Type 0 where
    pub scene : SceneValue
    pub so : SoFar B
    pub stands : Stands table scene so play
    pub early : play.vsyncs < 4294967295

module _ {B : Type 0} {R C : Type 0} (lease : Ghosts ReadLeaseOf SeatView R C) where
  -- what the desk and the compositor of a play keep of themselves: all is known, the seat is at the table, and the tree has no
  -- more layers than it can have
  pub record KeepsItself (table : TableId) (play : PlayOf B) : Type 0 where
    pub desk : DeskKnows play
    pub own : play.actor_set.desk.turns.table ≡ table
    pub handler : play.handler.is_spent ≡ false → IsHandler lease play.handler
    pub few : length play.handler.tree.layers ≤ play.handler.tree.most

  -- a vsync was made, and this is its report
  pub record MakesReport (table : TableId) (old new : PlayerOf B) (report : VsyncReport) : Type 0 where
    pub told : CommittedOf ReadLeaseOf
    pub makes : MakesVsync lease table old.play report.seen told new.play
    pub number : report.number ≡ old.play.vsyncs + 1
    pub expected : report.expected ≡ (old.play.vsyncs + 1) * old.play.period
    pub commits : report.commits ≡ told.commits
    pub held : new.held ≡ told.held

-- What contracts see of a player, and what it keeps: what it has shown so far is the beginning of a played run.
use Rattle.std.specs.Prelude.{◌≡◌, ℕ, ◌≤◌, Bool, true, false, List, [], All, length, take, None, Contains}
use Rattle.atomic_table.specs.Seated.{TableId}
use Rattle.sf_play_report.specs.sf_layer.declared.shown.Shown.{Shown}
use Rattle.sf_play_report.specs.sf_ready.declared.hold.Hold.{Hold}
use Rattle.sf_play_report.specs.sf_commit.Handlers.{HandlerOf}
use Rattle.sf_play_report.specs.sf_commit.OnLayers.{OnLayer}
use Rattle.sf_play_report.specs.sf_surface.declared.mark.QueueMark.{QueueMark}
use Rattle.sf_play_report.specs.sf_surface.Histories.{Made}
use Rattle.sf_play_report.specs.sf_surface.Reading.{plain_lease}
use Rattle.sf_play_report.specs.sf_surface.Tokens.{ReadLeaseOf}
use Rattle.sf_play_report.specs.sf_token.Pending.{Arrival}
use Rattle.sf_play_report.specs.sf_txn.Buffers.{Buffer}
use Rattle.sf_script_scene.specs.Limits.{IsWithinLimits}
use Rattle.sf_script_scene.specs.Scene.{SceneValue, has_queue}
use Rattle.sf_script_scene.specs.declared.declarations.Pick.{Pick}
use Rattle.sf_script_scene.specs.declared.declarations.QueueDecl.{QueueDecl}
use Rattle.sf_play_report.specs.sf_actor.Desks.{DeskHome, DeskView, mark_among}
use Rattle.sf_play_report.specs.sf_actor.Known.{frame_of}
use Rattle.sf_play_report.specs.sf_actor.Makers.{Run}
use Rattle.sf_play_report.specs.sf_actor.Names.{FrameOf}
use Rattle.sf_play_report.specs.sf_actor.Plain.{home_of, view_of}
use Rattle.sf_play_report.specs.sf_actor.Scripts.{picture_at}
use Rattle.sf_play_report.specs.sf_actor.Tries.{ActorOf}
use Rattle.sf_play_report.specs.sf_actor.Written.{FrameNumber}
use Rattle.law_rights.specs.sf_actor_set.ActorSets.{ActorSetOf, KeepAs}
use Rattle.sf_play_report.specs.sf_record.declared.event.Event.{Event}
use Rattle.sf_play_report.specs.sf_record.declared.event.VsyncRecords.{VsyncRecords}
use Rattle.sf_play_report.specs.law_played.Acquired.{TakesFrame}
use Rattle.sf_play_report.specs.law_played.Actors.{arrivals_of, mark_declared, run_of}
use Rattle.sf_play_report.specs.law_played.Frames.{ShowImages}
use Rattle.sf_play_report.specs.law_played.Histories.{released_in}
use Rattle.sf_play_report.specs.law_played.Progress.{HasPlayed}
use Rattle.sf_play_report.specs.law_played.Runs.{signals_in, written_in}
use Rattle.sf_play_report.specs.law_played.Stages.{VsyncAt, told_of}
use Rattle.sf_play_report.specs.law_played.Telling.{TellRun}
use Rattle.sf_play_report.specs.law_played.Vsyncs.{AreVsyncs, vsyncs_in}
use Rattle.sf_play.specs.declared.place.Place.{Place}
use Rattle.sf_play.specs.declared.place.Place.TheVariants as at

-- a play: the period and the order of the scene, the actors over their desk, the compositor, and how many vsyncs there were
pub record PlayOf (B : Type 0) : Type 0 where
  pub period : ℕ
  pub order : List Pick
  pub actor_set : ActorSetOf B
  pub handler : HandlerOf ReadLeaseOf
  pub vsyncs : ℕ

-- a player: its play, where it is in the order, what was held after the last vsync, and whether it found no memory
pub record PlayerOf (B : Type 0) : Type 0 where
  pub play : PlayOf B
  pub place : Place
  pub held : List (ℕ × Hold)
  pub is_spent : Bool

-- a player that begins with a round, where so many vsyncs were made and nothing is held yet
abbrev pub before_round : {B : Type 0} → ℕ → List Pick → ActorSetOf B → HandlerOf ReadLeaseOf → ℕ → PlayerOf B
before_round {B} period order actor_set handler vsyncs = record {
  play = record { period = period; order = order; actor_set = actor_set; handler = handler; vsyncs = vsyncs };
  place = at.Round 0 false;
  held = [];
  is_spent = false;
}

-- what happened so far: the actors as contracts see them, and what was shown
pub record SoFar (B : Type 0) : Type 0 where
  pub actors : List (ActorOf B)
  pub events : List Event

-- a buffer shows the frame of its lease
abbrev pub ShowsFrameOf : ReadLeaseOf → Shown → Type 0
ShowsFrameOf lease shown = shown ≡ record { queue = lease.queue; frame = lease.frame; picture = lease.picture; crop = lease.crop }

module _ {B : Type 0} where
  abbrev pub home_in : PlayOf B → DeskHome
  home_in play = home_of play.actor_set.desk

  abbrev pub view_in : PlayOf B → DeskView B
  view_in play = view_of play.actor_set.desk

  -- the run of the actors and the desk
  abbrev pub run_so : SoFar B → PlayOf B → Run
  run_so so play = run_of so.actors (home_in play) (view_in play)

  -- what arrived, and what of it the compositor has taken
  abbrev pub arrived_at : PlayOf B → List (Arrival FrameOf)
  arrived_at play = arrivals_of (view_in play)

  abbrev pub taken_at : PlayOf B → List (Arrival FrameOf)
  taken_at play = take (home_in play).taken (arrived_at play)

  abbrev pub told_at : SceneValue → SoFar B → PlayOf B → List VsyncAt
  told_at scene so play = told_of scene (taken_at play) (vsyncs_in so.events)

  abbrev pub signals_so : SceneValue → SoFar B → PlayOf B → List (ℕ × ℕ)
  signals_so scene so play = signals_in scene (run_so so play)

  abbrev pub written_so : SceneValue → SoFar B → PlayOf B → List FrameNumber
  written_so scene so play = written_in scene (run_so so play)

  -- a player has the scene's period, order and pictures, and shows on its display; nobody found no memory
  pub record IsOfScene (scene : SceneValue) (play : PlayOf B) : Type 0 where
    pub limits : IsWithinLimits scene
    pub period : play.period ≡ scene.period
    pub order : play.order ≡ scene.order
    pub pictures : play.actor_set.pictures ≡ scene.pictures
    pub width : play.handler.width ≡ scene.width
    pub height : play.handler.height ≡ scene.height
    pub unlent : play.handler.lent ≡ None
    pub decides : play.handler.is_spent ≡ false
    pub acts : play.actor_set.is_spent ≡ false

  -- the desk has the queues as they are declared, and no other; and so many of the arrivals are there as were taken, at least
  pub record DeskStands (scene : SceneValue) (play : PlayOf B) : Type 0 where
    pub marks : All (λ (queue : QueueDecl). mark_among (home_in play).marks queue.number ≡ mark_declared queue) scene.queues
    pub declared : All (λ (mark : QueueMark). has_queue scene.queues mark.queue.0 ≡ true) (home_in play).marks
    pub taken : (home_in play).taken ≤ length (arrived_at play)

  -- the vsyncs among what was shown are those that the compositor made
  pub record VsyncsStand (scene : SceneValue) (so : SoFar B) (play : PlayOf B) : Type 0 where
    pub vsyncs : AreVsyncs scene (signals_so scene so play) (vsyncs_in so.events)
    pub numbers : All (λ (vsync : VsyncRecords). vsync.number ≤ play.vsyncs) (vsyncs_in so.events)
    pub last : play.handler.last ≡ (home_in play).taken
    pub played : HasPlayed frame_of scene (written_so scene so play) (taken_at play) (vsyncs_in so.events) play.handler
    pub frames : ShowImages scene (told_at scene so play)

  -- a call gave this lease, which was looked at since: it is the same but for what looks show
  pub record WasLent (view : DeskView B) (lease : ReadLeaseOf) : Type 0 where
    pub first : ReadLeaseOf
    pub made : Made B
    pub there : Contains (view.calls lease.queue.0) made
    pub takes : TakesFrame made first
    pub plain : plain_lease lease ≡ plain_lease first
    pub expects : lease.turn.expects ≡ first.turn.expects
    pub number : lease.turn.number ≡ first.turn.number

  pub record IsBufferLent (view : DeskView B) (shown : Shown) (lease : ReadLeaseOf) : Type 0 where
    pub lent : WasLent view lease
    pub shows : ShowsFrameOf lease shown

  abbrev pub AreLent : DeskView B → List (Arrival ReadLeaseOf) → Type 0
  AreLent view arrivals =
      All (λ (arrived : Arrival ReadLeaseOf). All (λ (buffer : Buffer ReadLeaseOf). IsBufferLent view buffer.shown buffer.lease) arrived.txn.buffers) arrivals

  -- all buffers that wait and that are on layers show frames that calls gave
  pub record LeasesStand (play : PlayOf B) : Type 0 where
    pub pending : AreLent (view_in play) play.handler.pending
    pub on : All (λ (one : OnLayer ReadLeaseOf). IsBufferLent (view_in play) one.shown one.lease) play.handler.on

  -- What a player keeps: what it has shown so far is the beginning of a played run.
  pub record Stands (table : TableId) (scene : SceneValue) (so : SoFar B) (play : PlayOf B) : Type 0 where
    pub of_scene : IsOfScene scene play
    pub keep : KeepAs table (picture_at scene.pictures) (home_in play) (view_in play) play.actor_set.actors so.actors
    pub tell : TellRun scene so.actors (home_in play) (view_in play) so.events (released_in (told_at scene so play))
    pub desk : DeskStands scene play
    pub vsyncs : VsyncsStand scene so play
    pub leases : LeasesStand play

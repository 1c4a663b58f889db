-- The actors of a scene over a desk, as the laws about them take them: values, and what is known of them.
use Rattle.std.specs.Prelude.{◌≡◌, ℕ, Bool, true, List, All, Contains, map}
use Rattle.sf_base.specs.Fences.{Fence}
use Rattle.sf_commit.specs.sf_token.Pending.{Arrival}
use Rattle.sf_script_scene.specs.Limits.{IsWithinLimits}
use Rattle.sf_script_scene.specs.Scene.{SceneValue, has_queue}
use Rattle.sf_script_scene.specs.declared.declarations.QueueDecl.{QueueDecl}
use Rattle.sf_actor.specs.Desks.{DeskHome, DeskView, MadeCall, mark_among}
use Rattle.sf_actor.specs.Known.{AreAmong, frame_of}
use Rattle.sf_actor.specs.Makers.{Run}
use Rattle.sf_actor.specs.Names.{FrameOf}
use Rattle.sf_actor.specs.Scripts.{picture_at}
use Rattle.sf_actor.specs.Tries.{ActorOf, LeavesStep}
use Rattle.sf_actor.specs.sf_surface.Histories.{Made}
use Rattle.sf_actor.specs.sf_surface.Tokens.{ReadLeaseOf}
use Rattle.sf_actor.specs.sf_surface.declared.call.QCall.TheVariants as call
use Rattle.sf_actor.specs.sf_surface.declared.call.QReply.{QReply}
use Rattle.sf_record.specs.declared.record.ArrivalEntry.{ArrivalEntry}
use Rattle.sf_record.specs.declared.record.CommitRecord.{CommitRecord}
use Rattle.sf_record.specs.declared.record.QueueHistory.{QueueHistory}
use Rattle.law_played.specs.Acquired.{TakesFrame}
use Rattle.law_played.specs.Actors.{AreActors, AreArrivals, AreCalls, KnowsSignals, arrivals_of, mark_declared, run_of}
use Rattle.law_played.specs.Arrivals.{ArriveInOrder, entry_of}
use Rattle.law_played.specs.Brought.{ShowBrought}
use Rattle.law_played.specs.Commits.{CommitInOrder}
use Rattle.law_played.specs.Frames.{ShowImages}
use Rattle.law_played.specs.Histories.{AreHistories, Released, history_shown, rising_queues}
use Rattle.law_played.specs.Holds.{AreHeld, uncommitted}
use Rattle.law_played.specs.Played.{Shows, end_of, vsyncs_told}
use Rattle.law_played.specs.Runs.{AreTraced, signals_in, written_in}
use Rattle.law_played.specs.Stopping.{TellsOlder}
use Rattle.law_played.specs.Stuck.{AreStuck, IsNotReady, next_step}
use Rattle.law_played.specs.Telling.{AreReleases, TellShows}
use Rattle.law_played.specs.Turns.{DrawAfterOwed}
use Rattle.law_played.specs.Vsyncs.{AreVsyncs, commits_in, vsyncs_in}

-- The actors of a scene over a desk.
pub record SceneActors (B : Type 0) : Type 0 where
  -- what is played, and by whom
  pub scene : SceneValue
  pub ofs : List (ActorOf B)
  -- what the desk has, and what it knows
  pub home : DeskHome
  pub view : DeskView B
  -- of each script of the scene there is one actor, which keeps what actors keep
  pub are : AreActors scene ofs home view

module _ {B : Type 0} where
  -- their run
  abbrev pub run_over : SceneActors B → Run
  run_over actors = run_of actors.ofs actors.home actors.view

  -- the desk has the queues of the scene, and their calls are legal and those of the actors
  abbrev pub HaveCalls : SceneActors B → Type 0
  HaveCalls actors = AreCalls actors.scene actors.ofs actors.home actors.view

  -- all signals are known, and each is of a step
  abbrev pub KnowSignals : SceneActors B → Type 0
  KnowSignals actors = KnowsSignals actors.scene actors.ofs actors.home actors.view

  -- all that arrived is theirs
  abbrev pub HaveArrivals : SceneActors B → Type 0
  HaveArrivals actors = AreArrivals actors.ofs actors.view

  abbrev pub arrived_over : SceneActors B → List (Arrival FrameOf)
  arrived_over actors = arrivals_of actors.view

  -- what the record of arrivals shows of it
  abbrev pub entries_over : SceneActors B → List ArrivalEntry
  entries_over actors = map entry_of (arrived_over actors)

  -- these entries show all that arrived, in its order
  abbrev pub ArriveInOrderOver : SceneActors B → List ArrivalEntry → Type 0
  ArriveInOrderOver actors entries = ArriveInOrder actors.scene (arrived_over actors) entries

  -- the compositor released these frames
  abbrev pub HaveReleases : SceneActors B → List Released → Type 0
  HaveReleases actors released = AreReleases actors.scene actors.ofs actors.home actors.view released

  -- the histories of their queues
  abbrev pub histories_over : SceneActors B → List QueueHistory
  histories_over actors = map (history_shown (run_over actors)) (rising_queues actors.scene)

  -- these and the released frames are the calls of their run
  abbrev pub AreHistoriesOver : SceneActors B → List Released → List QueueHistory → Type 0
  AreHistoriesOver actors released histories = AreHistories actors.scene (run_over actors) released histories

  -- an actor is not ready at its next step
  abbrev pub IsNotReadyOver : SceneActors B → ActorOf B → Type 0
  IsNotReadyOver actors of = IsNotReady actors.scene (run_over actors) of.script (next_step (run_over actors) of.script)

  -- no actor is ready at its next step
  abbrev pub NoneIsReady : SceneActors B → Type 0
  NoneIsReady actors = All (IsNotReadyOver actors) actors.ofs

  -- a frame shows the scene's picture of its number
  abbrev pub ShowsPictureOf : SceneActors B → ReadLeaseOf → Type 0
  ShowsPictureOf actors lease = lease.turn.expects ≡ picture_at actors.scene.pictures lease.picture

  -- A frame that one of these calls acquired.
  pub record Taken (calls : List (Made B)) : Type 0 where
    -- one of them, and the lease that it gave
    pub made : Made B
    pub lease : ReadLeaseOf
    pub there : Contains calls made
    pub takes : TakesFrame made lease

-- What is shown of the queues of a scene's actors and of the buffers that arrived.
pub record ShownBuffers (B : Type 0) : Type 0 where
  -- the actors, and what is shown of histories and commits
  pub actors : SceneActors B
  pub histories : List QueueHistory
  pub commits : List CommitRecord
  -- the scene is within its limits
  pub limits : IsWithinLimits actors.scene
  -- calls and arrivals are the actors'
  pub calls : HaveCalls actors
  pub arrivals : HaveArrivals actors
  -- each actor's trace is one of its script, where who sends a transaction learns its place or not
  pub tells : Bool
  pub traced : AreTraced tells actors.scene (run_over actors) (arrived_over actors)
  -- the histories are those of the desk's calls
  pub are : histories ≡ histories_over actors
  -- the buffers of commits are ones that arrived
  pub brought : ShowBrought (arrived_over actors) commits

-- What is shown at the end of a run of a scene's actors.
pub record ToldRun (B : Type 0) : Type 0 where
  -- the actors, and all that is shown
  pub actors : SceneActors B
  pub shows : Shows
  -- the scene is within its limits
  pub limits : IsWithinLimits actors.scene
  -- all signals are known, calls and arrivals are the actors', and so is what is shown of them
  pub signals : KnowSignals actors
  pub calls : HaveCalls actors
  pub arrivals : HaveArrivals actors
  pub tells : TellShows actors.scene actors.ofs actors.home actors.view shows
  -- draws came in turn
  pub draws : DrawAfterOwed actors.scene (run_over actors)
  -- the vsyncs are those of the scene, and saw what was signalled
  pub vsyncs : AreVsyncs actors.scene (signals_in actors.scene (run_over actors)) (vsyncs_in shows.events)
  -- commits are in order, and the frames shown are the ones due
  pub commits : CommitInOrder (arrived_over actors) (written_in actors.scene (run_over actors)) (commits_in (vsyncs_in shows.events))
      (vsyncs_told actors.scene (arrived_over actors) shows.events)
  pub frames : ShowImages actors.scene (vsyncs_told actors.scene (arrived_over actors) shows.events)
  -- what has no commit is held, and who is not done is stuck
  pub held : AreHeld (end_of actors.scene (run_over actors) (vsyncs_told actors.scene (arrived_over actors) shows.events))
      (uncommitted (arrived_over actors) (commits_in (vsyncs_in shows.events))) shows.held
  pub stuck : AreStuck actors.scene (run_over actors) shows.stuck

-- A step that was left, over an exact desk.
pub record LeftStep (B : Type 0) : Type 0 where
  -- the actors, over the desk after the try
  pub actors : SceneActors B
  -- what the desk knew before it, and the actor before it and after it
  pub before : DeskView B
  pub old : ActorOf B
  pub new : ActorOf B
  -- the scene is within its limits
  pub limits : IsWithinLimits actors.scene
  -- the desk knows all that happens
  pub exact : actors.home.is_exact ≡ true
  -- the calls are the actors', and each signal is of a step
  pub calls : HaveCalls actors
  pub signals : AreAmong actors.view.times.signals (signals_in actors.scene (run_over actors))
  -- it is one of the actors
  pub there : Contains actors.ofs old
  -- where an earlier turn has not left, an older draw is owed
  pub older : TellsOlder actors.scene (run_over actors) old before actors.view
  -- the step was left
  pub leaves : LeavesStep (picture_at actors.scene.pictures) actors.home old before new actors.view

-- A frame that the compositor releases, over an exact desk.
pub record ReleasedFrame (B : Type 0) : Type 0 where
  -- what is played, and by whom
  pub scene : SceneValue
  pub ofs : List (ActorOf B)
  -- what the desk has, and what it knows before the call and after it
  pub home : DeskHome
  pub before : DeskView B
  pub after : DeskView B
  -- it has each queue of the scene as it is declared
  pub marks : All (λ (declared : QueueDecl). mark_among home.marks declared.number ≡ mark_declared declared) scene.queues
  -- a vsync of this number gives a lease back to this queue
  pub queue : ℕ
  pub vsync : ℕ
  pub lease : ReadLeaseOf
  pub fence : Fence
  pub reply : QReply B
  -- it is the release of this frame
  pub one : Released
  -- the desk knows all that happens
  pub exact : home.is_exact ≡ true
  -- the scene has the queue, and the lease is of it
  pub declared : has_queue scene.queues queue ≡ true
  pub own : lease.queue.0 ≡ queue
  -- the frame is that of the lease, with this fence
  pub leased : one.on.lease ≡ frame_of lease
  pub fenced : one.on.fence ≡ fence
  -- the call was made
  pub made : MadeCall home before after 0 queue (vsync, call.Release lease fence) reply

module _ {B : Type 0} where
  -- the run before the release and after it
  abbrev pub run_before : ReleasedFrame B → Run
  run_before given = run_of given.ofs given.home given.before

  abbrev pub run_after : ReleasedFrame B → Run
  run_after given = run_of given.ofs given.home given.after

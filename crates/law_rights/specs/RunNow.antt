-- A run between two calls of a player, as the laws about its rights take it: values, and what is known of them.
use Rattle.std.specs.Prelude.{◌≡◌, ℕ, Bool, true, false, List, [], Contains, Some, slice_get}
use Rattle.sf_actor_set.specs.sf_commit.Handlers.{HandlerOf}
use Rattle.sf_actor_set.specs.sf_picture.declared.picture.Picture.{Picture}
use Rattle.sf_actor_set.specs.sf_script_scene.Scene.{SceneValue}
use Rattle.sf_actor_set.specs.sf_surface.Reading.{has_left}
use Rattle.sf_actor_set.specs.sf_surface.Tokens.{ReadLeaseOf}
use Rattle.sf_actor_set.specs.sf_turns.Counts.{IsExact}
use Rattle.sf_actor_set.specs.sf_turns.Views.{SeatView}
use Rattle.sf_actor_set.specs.sf_actor.Desks.{DeskHome, DeskView, has_queue}
use Rattle.sf_actor_set.specs.sf_actor.Known.{frame_of}
use Rattle.sf_actor_set.specs.sf_actor.Makers.{Run}
use Rattle.sf_actor_set.specs.sf_actor.Names.{Token}
use Rattle.sf_actor_set.specs.sf_actor.Rights.{turn_by}
use Rattle.sf_actor_set.specs.sf_actor.Tries.{ActorOf}
use Rattle.sf_actor_set.specs.sf_actor.Written.{FrameNumber}
use Rattle.law_played.specs.Actors.{AreActors, run_of}
use Rattle.law_played.specs.Commits.{is_written}
use Rattle.law_played.specs.Runs.{StepBy, written_in}
use Rattle.law_played.specs.Stopping.{TellsOlder}
use Rattle.law_played.specs.Turns.{maker_at}
use Rattle.law_rights.specs.Actors.{AreOver}
use Rattle.law_rights.specs.InTurn.{DrawsStand, IsInTurn}
use Rattle.law_rights.specs.Loads.{WasAcquired}
use Rattle.law_rights.specs.MakerRuns.{MakersPlay}
use Rattle.law_rights.specs.Makers.{places_of}
use Rattle.law_rights.specs.Older.{MakersTell}
use Rattle.law_rights.specs.Standing.{Begins, LedgerStands, state_of}
use Rattle.law_rights.specs.States.{State, all_written}

-- A run between two calls of a player.
pub record RunNow (B : Type 0) : Type 0 where
  -- what the desk has, and what it knows
  pub home : DeskHome
  pub view : DeskView B
  -- the actors, and the compositor's handler
  pub ofs : List (ActorOf B)
  pub handler : HandlerOf ReadLeaseOf

module _ {B : Type 0} where
  -- the state in which its rights lie, and the run of its actors
  abbrev pub state_now : RunNow B → State B
  state_now now = state_of now.home now.view now.ofs now.handler

  abbrev pub run_now : RunNow B → Run
  run_now now = run_of now.ofs now.home now.view

  -- nothing has happened, of so many buffers
  abbrev pub BeginsSo : ℕ → RunNow B → Type 0
  BeginsSo buffers now = Begins buffers now.home now.view now.ofs now.handler

  -- its ledger stands, of so many buffers
  abbrev pub HasLedgerOf : ℕ → RunNow B → Type 0
  HasLedgerOf buffers now = LedgerStands buffers now.home now.view now.ofs now.handler

  -- the makers of its buffers stand
  abbrev pub HasMakers : SceneValue → RunNow B → Type 0
  HasMakers scene now = MakersPlay scene now.home now.view now.ofs now.handler

  -- what its draws entered is in turn
  abbrev pub HasDraws : SceneValue → RunNow B → Type 0
  HasDraws scene now = DrawsStand scene now.home now.view now.ofs now.handler

  -- what a step enters, by its token, is in turn
  abbrev pub IsInTurnNow : SceneValue → RunNow B → StepBy → Token → Type 0
  IsInTurnNow scene now s token = IsInTurn scene (run_now now) (places_of (state_now now)) s token

  -- its actors keep what they keep
  abbrev pub ActorsKeep : (ℕ → Picture) → RunNow B → Type 0
  ActorsKeep pictures now = AreOver pictures now.home now.view now.ofs

  -- they are those of the scene
  abbrev pub HasActors : SceneValue → RunNow B → Type 0
  HasActors scene now = AreActors scene now.ofs now.home now.view

  -- all turns are known that left
  abbrev pub KnowsLeft : ℕ → RunNow B → Type 0
  KnowsLeft buffers now = IsExact buffers now.view.turns.leaves now.view.turns.seen

  -- no call is known on a queue that is not there
  abbrev pub CallsAreThere : RunNow B → Type 0
  CallsAreThere now = (queue : ℕ) → has_queue now.home queue ≡ false → now.view.calls queue ≡ []

  -- what its actors wrote
  abbrev pub written_now : RunNow B → List FrameNumber
  written_now now = all_written (state_now now)

  abbrev pub is_written_now : RunNow B → ReadLeaseOf → Bool
  is_written_now now lease = is_written (written_now now) (frame_of lease)

  -- a frame was acquired, and a look shows that its write has left
  abbrev pub WasAcquiredNow : RunNow B → ReadLeaseOf → Type 0
  WasAcquiredNow now lease = WasAcquired now.home.marks now.view.calls lease

  abbrev pub has_left_now : RunNow B → ReadLeaseOf → Bool
  has_left_now now lease = has_left now.view.turns.leaves (turn_by lease.turn)

-- it is the first seat at the turns, and no other one is out
pub record IsAlone (seat : SeatView) : Type 0 where
  pub first : seat.is_first ≡ true
  pub none_out : seat.out ≡ 0

-- A run whose ledger stands.
pub record StandingRun (B : Type 0) : Type 0 where
  -- the run
  pub now : RunNow B
  -- of so many buffers
  pub buffers : ℕ
  pub stands : HasLedgerOf buffers now
  -- the actors keep what they keep, with these pictures
  pub pictures : ℕ → Picture
  pub keep : ActorsKeep pictures now

-- One of which all turns are known that left.
pub record KnownRun (B : Type 0) : Type 0 where
  pub standing : StandingRun B
  pub knows : KnowsLeft standing.buffers standing.now

module _ {B : Type 0} where
  abbrev pub at_now : KnownRun B → RunNow B
  at_now run = run.standing.now

-- One of a scene.
pub record SceneRun (B : Type 0) : Type 0 where
  pub known : KnownRun B
  -- the actors are those of the scene
  pub scene : SceneValue
  pub actors : HasActors scene (at_now known)

module _ {B : Type 0} where
  -- what the run of its actors wrote
  abbrev pub written_by_run : SceneRun B → List FrameNumber
  written_by_run run = written_in run.scene (run_now (at_now run.known))

  -- the frame of a lease is among it
  abbrev pub is_written_by : SceneRun B → ReadLeaseOf → Bool
  is_written_by run lease = is_written (written_by_run run) (frame_of lease)

  -- it was acquired in the run, and a look shows that its write has left
  abbrev pub WasAcquiredIn : SceneRun B → ReadLeaseOf → Type 0
  WasAcquiredIn run lease = WasAcquiredNow (at_now run.known) lease

  abbrev pub has_left_in : SceneRun B → ReadLeaseOf → Bool
  has_left_in run lease = has_left_now (at_now run.known) lease

-- One whose makers stand, seen from the only seat that is out.
pub record AloneRun (B : Type 0) : Type 0 where
  pub run : SceneRun B
  pub makers : HasMakers run.scene (at_now run.known)
  pub only_seat : IsAlone (at_now run.known).view.turns

-- A desk after a look: its marks and its calls are the same.
pub record LookedDesk {B : Type 0} (now : RunNow B) : Type 0 where
  pub home : DeskHome
  pub view : DeskView B
  pub marks : home.marks ≡ now.home.marks
  pub calls : (queue : ℕ) → view.calls queue ≡ now.view.calls queue

-- A run whose ledger and makers stand.
pub record MadeRun (B : Type 0) : Type 0 where
  pub now : RunNow B
  pub scene : SceneValue
  -- of so many buffers
  pub buffers : ℕ
  pub stands : HasLedgerOf buffers now
  pub makers : HasMakers scene now

-- One after a look through the only seat that is out.
pub record LookedMakers (B : Type 0) : Type 0 where
  pub made : MadeRun B
  -- the actors keep what they keep, with these pictures
  pub pictures : ℕ → Picture
  pub keep : ActorsKeep pictures made.now
  -- all turns are known that left
  pub knows : KnowsLeft made.buffers made.now
  -- over the desk after the look they are those of the scene
  pub desk : LookedDesk made.now
  pub actors : AreActors made.scene made.now.ofs desk.home desk.view
  pub alone : IsAlone made.now.view.turns

-- A run before a look through the only seat that is out, and the desk after it, by which makers determine the turns.
pub record LookedRun (B : Type 0) : Type 0 where
  pub known : KnownRun B
  pub alone : IsAlone (at_now known).view.turns
  pub scene : SceneValue
  -- the desk after the look
  pub home : DeskHome
  pub view : DeskView B
  pub actors : AreActors scene (at_now known).ofs home view
  pub makers : MakersTell (maker_at scene (run_of (at_now known).ofs home view)) (at_now known).ofs

module _ {B : Type 0} where
  -- the run over the desk after a look
  abbrev pub run_looked : (now : RunNow B) → LookedDesk now → Run
  run_looked now desk = run_of now.ofs desk.home desk.view

  abbrev pub run_seen : LookedRun B → Run
  run_seen looked = run_of (at_now looked.known).ofs looked.home looked.view

  -- where the look showed that an earlier turn of an actor's draw has not left, an older draw is owed
  abbrev pub FindsOlder : LookedMakers B → ActorOf B → Type 0
  FindsOlder looked of =
      let run = looked.made in
      TellsOlder run.scene (run_looked run.now looked.desk) of run.now.view looked.desk.view

  abbrev pub SeesOlder : LookedRun B → ActorOf B → Type 0
  SeesOlder looked of = TellsOlder looked.scene (run_seen looked) of (at_now looked.known).view looked.view

  -- a permit that one of these actors has left
  pub record IsLeft (ofs : List (ActorOf B)) (number : ℕ) : Type 0 where
    pub place : ℕ
    pub of : ActorOf B
    pub here : slice_get ofs place ≡ Some of
    pub left : Contains of.parts.stock number

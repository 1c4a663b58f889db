-- Draws, frames and looks, as the laws about rights take them: values, and what is known of them.
use Rattle.std.specs.Prelude.{◌≡◌, ℕ, ◌<◌, List, All, Contains, length, map, None, Some}
use Rattle.std.specs.List.{flat_map}
use Rattle.std.specs.List.Sorted.{IsStrictlyIncreasing}
use Rattle.sf_base.specs.declared.ids.QueueId.{QueueId}
use Rattle.sf_actor_set.specs.sf_picture.declared.picture.Picture.{Picture}
use Rattle.sf_actor_set.specs.sf_script_scene.Limits.{IsWithinLimits}
use Rattle.sf_actor_set.specs.sf_surface.Drawing.{IsShort, MayEnter}
use Rattle.sf_actor_set.specs.sf_surface.Tokens.{ReadLeaseOf}
use Rattle.sf_actor_set.specs.sf_turns.Counts.{IsExact}
use Rattle.sf_actor_set.specs.sf_turns.Views.{SeatView}
use Rattle.sf_actor_set.specs.sf_actor.declared.done.Done.{Done}
use Rattle.sf_actor_set.specs.sf_actor.declared.holding.Holding.{Holding}
use Rattle.sf_actor_set.specs.sf_actor.Desks.{DeskHome, DeskView}
use Rattle.sf_actor_set.specs.sf_actor.Draws.{DrawInTurn, entered_at, entered_in}
use Rattle.sf_actor_set.specs.sf_actor.Holdings.{turn_held}
use Rattle.sf_actor_set.specs.sf_actor.Known.{Share}
use Rattle.sf_actor_set.specs.sf_actor.Traces.{DoneAt, places_of}
use Rattle.sf_actor_set.specs.sf_actor.Tries.{ActorOf, Keeps}
use Rattle.sf_actor_set.specs.sf_actor.Written.{written_in}
use Rattle.law_played.specs.Actors.{number_of}
use Rattle.law_played.specs.Runs.{StepBy}
use Rattle.law_rights.specs.Ledgers.{IsLedger, Ledger}
use Rattle.law_rights.specs.Loads.{IsQueuedFrame}
use Rattle.law_rights.specs.Owed.{MayDraw}
use Rattle.law_rights.specs.Queuing.{QueuesFrame}
use Rattle.law_rights.specs.RunNow.{AloneRun, IsAlone, KnownRun, RunNow, at_now}

-- A look at a frame that was queued, where all turns are known that left.
pub record LookedFrame : Type 0 where
  -- a ledger, and the frame's lease
  pub ledger : Ledger
  pub lease : ReadLeaseOf
  pub is : IsLedger ledger
  -- of so many buffers, what was seen is all that left
  pub buffers : ℕ
  pub seen : List (ℕ × ℕ)
  pub exact : IsExact buffers ledger.left seen
  -- the frame's buffer is one of them, and it was queued
  pub below : lease.turn.buffer < buffers
  pub queued : IsQueuedFrame ledger lease

-- A draw that waits for an earlier turn, of the only seat that is out.
pub record ShortDraw (B : Type 0) : Type 0 where
  pub known : KnownRun B
  pub alone : IsAlone (at_now known).view.turns
  -- a name of an actor holds what may be drawn in
  pub of : ActorOf B
  pub held : Holding B
  pub there : Contains (at_now known).ofs of
  pub named : Contains of.parts.names (Some held)
  pub may : MayDraw held
  -- its look showed fewer turns to have left than it waits for
  pub after : SeatView
  pub short : IsShort (turn_held held).0 (turn_held held).1 (at_now known).view.turns after

-- A draw that entered pixels.
pub record EnteredDraw (B : Type 0) : Type 0 where
  pub known : KnownRun B
  -- of one of the actors, by the call of the step at this place
  pub of : ActorOf B
  pub there : Contains (at_now known).ofs of
  pub place : ℕ
  pub entered : Contains (entered_in of.trace) place

-- Two draws of one actor that entered pixels, one after the other.
pub record TwoDraws (B : Type 0) : Type 0 where
  -- the actor's trace, whose draws are in turn
  pub share : Share B
  pub trace : List Done
  pub in_turn : DrawInTurn share trace
  -- two of its steps, one before the other
  pub one : DoneAt
  pub other : DoneAt
  pub there : Contains (places_of trace) one
  pub also : Contains (places_of trace) other
  pub before : one.place < other.place
  -- by the calls of the steps at these places
  pub place : ℕ
  pub later : ℕ
  pub entered : entered_at one ≡ Some place
  pub entered_later : entered_at other ≡ Some later

-- A frame that a step of one actor queued, and one of another, or the same.
pub record QueuedTwice (B : Type 0) : Type 0 where
  -- the pictures of the scene, and a desk
  pub pictures : ℕ → Picture
  pub home : DeskHome
  pub view : DeskView B
  -- two actors, or one twice
  pub of : ActorOf B
  pub other : ActorOf B
  -- both actors keep what they keep
  pub keeps : Keeps pictures home of view
  pub keeps_too : Keeps pictures home other view
  -- both steps queued the frame
  pub queue : QueueId
  pub frame : ℕ
  pub at : DoneAt
  pub too : DoneAt
  pub queues : QueuesFrame of.trace queue frame at
  pub queues_too : QueuesFrame other.trace queue frame too

-- A frame that was queued undrawn, and is written.
pub record OwedFrame (B : Type 0) : Type 0 where
  -- the pictures of the scene, and a desk
  pub pictures : ℕ → Picture
  pub home : DeskHome
  pub view : DeskView B
  -- actors of rising numbers, which keep what they keep
  pub ofs : List (ActorOf B)
  pub keep : All (λ (o : ActorOf B). Keeps pictures home o view) ofs
  pub apart : IsStrictlyIncreasing (map number_of ofs)
  -- a step of one of them queued it undrawn
  pub of : ActorOf B
  pub there : Contains ofs of
  pub queue : QueueId
  pub frame : ℕ
  pub at : DoneAt
  pub queues : QueuesFrame of.trace queue frame at
  pub undrawn : queues.drawn ≡ None
  -- one of them wrote it
  pub wrote : Contains (flat_map (λ (o : ActorOf B). written_in o.trace) ofs) (queue, frame)

-- A draw that enters pixels.
pub record EnteringDraw (B : Type 0) : Type 0 where
  pub alone : AloneRun B
  pub limits : IsWithinLimits alone.run.scene
  -- a name of an actor holds what may be drawn in
  pub of : ActorOf B
  pub held : Holding B
  pub there : Contains (at_now alone.run.known).ofs of
  pub named : Contains of.parts.names (Some held)
  pub may : MayDraw held
  -- it is a step behind those that are done
  pub at : DoneAt
  pub later : length of.trace < at.place
  -- its look let it enter
  pub after : SeatView
  pub enters : MayEnter (turn_held held).0 (turn_held held).1 (at_now alone.run.known).view.turns after

module _ {B : Type 0} where
  abbrev pub run_at : EnteringDraw B → RunNow B
  run_at draw = at_now draw.alone.run.known

  abbrev pub step_of_draw : EnteringDraw B → StepBy
  step_of_draw draw = record { actor = draw.of.script.number; at = draw.at }

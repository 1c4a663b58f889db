-- A try of an actor's next step: what it keeps, and what it reports.
use Rattle.std.specs.Prelude.{◌≡◌, ◌≢◌, ℕ, ◌+◌, ◌<◌, ◌≤◌, Bool, true, false, if◌then◌else◌}
use Rattle.std.specs.Prelude.{List, [], ◌∷◌, ◌++◌, drop, filter, length, get_or, Contains, Option, Some, None, slice_get}
use Rattle.std.specs.List.{All}
use Rattle.sf_base.specs.Fences.{Fence, IsSignalled, value_of}
use Rattle.sf_base.specs.Points.{greatest, points_from}
use Rattle.sf_base.specs.declared.fences.Seen.{Seen}
use Rattle.sf_script_scene.specs.sf_picture.declared.picture.Picture.{Picture}
use Rattle.sf_script_scene.specs.declared.step.ActorScript.{ActorScript}
use Rattle.sf_script_scene.specs.declared.step.Step.{Step}
use Rattle.sf_script_scene.specs.declared.step.Step.TheVariants as step
use Rattle.sf_surface.specs.declared.call.QCall.{QCall}
use Rattle.sf_surface.specs.declared.work.Work.{Work}
use Rattle.sf_surface.specs.declared.work.Work.TheVariants as work
use Rattle.sf_surface.specs.Calls.{told_call}
use Rattle.sf_surface.specs.Drawing.{IsShort, MayEnter, Passes}
use Rattle.sf_surface.specs.Tokens.{ReadLeaseOf}
use Rattle.sf_times.specs.Seats.{all_loaded}
use Rattle.sf_surface.specs.sf_turns.Counts.{stock_at}
use Rattle.sf_token.specs.sf_txn.Buffers.{Buffer}
use Rattle.sf_token.specs.sf_txn.Transactions.{Contents}
use Rattle.sf_actor.specs.declared.done.Answered.TheVariants as answered
use Rattle.sf_actor.specs.declared.done.Done.{Done}
use Rattle.sf_actor.specs.declared.holding.Holding.{Holding}
use Rattle.sf_actor.specs.declared.holding.Holding.TheVariants as holding
use Rattle.sf_actor.specs.declared.tried.Reply.{Reply}
use Rattle.sf_actor.specs.declared.tried.Stepped.{Stepped}
use Rattle.sf_actor.specs.declared.tried.Stepped.TheVariants as stepped
use Rattle.sf_actor.specs.Asking.{Asked, call_of}
use Rattle.sf_actor.specs.Desks.{DeskHome, DeskView, WaitsForCall, has_queue, known_of, looks}
use Rattle.sf_actor.specs.Keeping.{TraceKept}
use Rattle.sf_actor.specs.Known.{Call, GoesOn, Known, Share, share_of}
use Rattle.sf_actor.specs.Holdings.{HoldingsOf, ShowsPictures, plain_of, queue_held, turn_held}
use Rattle.sf_actor.specs.Points.{detached_fence, waited_fence}
use Rattle.sf_actor.specs.Rights.{HoldsAcquired, IsOfCall, MadeWith, Turn, WasGivenAt}
use Rattle.sf_actor.specs.Steps.{was_done}
use Rattle.sf_actor.specs.Tests.{bad_value, refusal_of}
use Rattle.sf_actor.specs.Traces.{Past, past_after}
use Rattle.sf_actor.specs.Values.{reply_at}
use Rattle.sf_actor.specs.Written.{signal_of}

-- what contracts see of an actor: its script, the numbers of the buffers that it may open in all, what it has, what it has
-- done and replied, and whether it found no memory
pub record ActorOf (B : Type 0) : Type 0 where
  pub script : ActorScript
  pub stock : List ℕ
  pub parts : HoldingsOf B
  pub trace : List Done
  pub replies : List Reply
  pub spent : Bool

-- a step that needs a permit
abbrev pub is_dequeue : Step → Bool
is_dequeue (step.Dequeue q s size) = true
is_dequeue (step.DequeueWait q s size) = true
is_dequeue s = false

abbrev pub dequeues_in : List Step → ℕ
dequeues_in steps = length (filter is_dequeue steps)

module _ {B : Type 0} where
  abbrev pub held_in : HoldingsOf B → ℕ → Option (Holding B)
  held_in parts name = get_or parts.names name None

  abbrev pub contents_in : HoldingsOf B → ℕ → Option (Contents ReadLeaseOf)
  contents_in parts number = get_or parts.transactions number None

  -- the next step, and what is known behind the steps before it
  abbrev pub next_step : ActorOf B → Option Step
  next_step actor = slice_get actor.script.steps (length actor.trace)

  abbrev pub past_of : ActorOf B → Past
  past_of actor = past_after actor.trace

  -- The permits that an actor has left: they are of its stock, each once, none of them made a buffer, and they are enough for
  -- the steps to come.
  pub record ArePermits (actor : ActorOf B) (share : Share B) : Type 0 where
    pub own : (number : ℕ) → Contains actor.parts.stock number → Contains actor.stock number
    pub once : (number : ℕ) → stock_at number actor.parts.stock ≤ 1
    pub unused : (number queue : ℕ) (made : Call B) → Contains actor.parts.stock number → Contains (share.calls queue) made → MadeWith number made → ⊥
    pub enough : dequeues_in (drop (length actor.trace) actor.script.steps) ≤ length actor.parts.stock

  -- What an actor keeps: what its trace keeps; what it has is what the trace says, each right being the one that was given
  -- with the token, and each owed drawing and acquired frame that of a call; and the points that its steps showed are reached.
  pub record ActorKept (pictures : ℕ → Picture) (actor : ActorOf B) (share : Share B) : Type 0 where
    pub kept : TraceKept pictures actor.script actor.stock actor.trace actor.replies share
    pub has : plain_of actor.parts ≡ (past_of actor).holdings
    pub given : (name : ℕ) (held : Holding B) → held_in actor.parts name ≡ Some held → WasGivenAt share.calls (get_or (past_of actor).since name 0) (Some (turn_held held))
    pub of_call : (name : ℕ) (held : Holding B) → held_in actor.parts name ≡ Some held → IsOfCall share.calls held
    pub acquired : (number : ℕ) (txn : Contents ReadLeaseOf) → contents_in actor.parts number ≡ Some txn → All (HoldsAcquired share.calls) txn.buffers
    pub shows : (name : ℕ) (held : Holding B) → held_in actor.parts name ≡ Some held → ShowsPictures pictures held
    pub reached : IsSignalled (past_of actor).shown share.values
    pub permits : ArePermits actor share

  -- what an actor keeps over one state of what is known it keeps over another one, too
  abbrev pub KeepsActor : ActorOf B → Known B → Known B → Type 0
  KeepsActor actor old new =
      (pictures : ℕ → Picture) → ActorKept pictures actor (share_of actor.script.number old)
      → ActorKept pictures actor (share_of actor.script.number new)

  -- the desk has the queue of each token and of each frame of a transaction
  pub record AreThere (home : DeskHome) (parts : HoldingsOf B) : Type 0 where
    pub names : (name : ℕ) (held : Holding B) → held_in parts name ≡ Some held → has_queue home (queue_held held).0 ≡ true
    pub frames : (number : ℕ) (txn : Contents ReadLeaseOf) → contents_in parts number ≡ Some txn
        → All (λ (buffer : Buffer ReadLeaseOf). has_queue home buffer.lease.queue.0 ≡ true) txn.buffers

  -- all that an actor keeps, of what a desk has and knows
  pub record Keeps (pictures : ℕ → Picture) (home : DeskHome) (actor : ActorOf B) (view : DeskView B) : Type 0 where
    pub kept : ActorKept pictures actor (share_of actor.script.number (known_of home view))
    pub there : AreThere home actor.parts

  -- a look at the timelines showed these values: at least all that was known, and where what is known is exact the greatest
  -- that were signalled
  pub record Sees (home : DeskHome) (old new : DeskView B) (seen : Seen) : Type 0 where
    pub all : length seen.values ≡ 64
    pub shown : new.times ≡ all_loaded old.times (points_from 1 seen.values)
    pub known : (t : ℕ) → 1 ≤ t → t ≤ 64 → greatest t old.times.known ≤ value_of seen.values t
    pub exact : home.is_exact ≡ true → (t : ℕ) → 1 ≤ t → t ≤ 64 → value_of seen.values t ≡ greatest t old.times.signals

  -- a look showed that a fence is open, or that it is signalled
  abbrev pub SeesOpen : DeskHome → DeskView B → DeskView B → Fence → Type 0
  SeesOpen home old new fence = (seen : Seen) × Sees home old new seen × (IsSignalled fence seen → ⊥)

  abbrev pub SeesSignalled : DeskHome → DeskView B → DeskView B → Fence → Type 0
  SeesSignalled home old new fence = (seen : Seen) × Sees home old new seen × IsSignalled fence seen

  -- what a draw enters: the fence was signalled, and all earlier turns have left; drawn pixels are not entered again
  abbrev pub DrawsIn : DeskHome → DeskView B → DeskView B → Fence → Work → Type 0
  DrawsIn home old new fence (work.Fresh turn) = SeesSignalled home old new fence × MayEnter turn.buffer turn.number old.turns new.turns
  DrawsIn home old new fence (work.Drawn inside pixels) = new.turns ≡ old.turns

  abbrev pub DrawsHeld : DeskHome → DeskView B → DeskView B → Option (Holding B) → Type 0
  DrawsHeld home old new (Some (holding.Lends lease)) = DrawsIn home old new lease.fence lease.work
  DrawsHeld home old new (Some (holding.Owes owing held)) = SeesSignalled home old new owing.fence × Passes owing.turn.buffer owing.turn.number old.turns new.turns
  DrawsHeld home old new other = ⊥

  -- a draw that is done entered the pixels in its turn
  abbrev pub EntersInTurn : DeskHome → ActorOf B → DeskView B → DeskView B → Done → Type 0
  EntersInTurn home actor old new done =
      (name picture : ℕ) → done.step ≡ step.Draw name picture → done.answered ≡ answered.Own 0 → DrawsHeld home old new (held_in actor.parts name)

  -- a step that is refused by its fence was refused for what a look of this try showed
  abbrev pub IsRefusedByFence : (ℕ → Picture) → DeskHome → ActorOf B → DeskView B → DeskView B → Done → Type 0
  IsRefusedByFence pictures home actor old new done =
      (fence : Fence) → detached_fence (past_of actor).holdings done.step ≡ Some fence → refusal_of pictures (past_of actor).holdings done.step ≡ None
      → done.answered ≡ answered.Own bad_value → SeesOpen home old new fence

  -- the turn of what was drawn, and of what was owed
  abbrev pub drawn_turn : Option (Holding B) → List Turn
  drawn_turn (Some (holding.Lends lease)) = turns_in lease.work
    where
      turns_in : Work → List Turn
      turns_in (work.Fresh turn) = []
      turns_in (work.Drawn inside pixels) = (inside.buffer, inside.number) ∷ []
  drawn_turn other = []

  abbrev pub owed_turn : Option (Holding B) → List Turn
  owed_turn (Some (holding.Owes owing held)) = (owing.turn.buffer, owing.turn.number) ∷ []
  owed_turn other = []

  -- the turn that a step ends: of a drawn lease that it queues, cancels or detaches, or of an owing that it draws
  abbrev pub turn_ended : HoldingsOf B → Step → List Turn
  turn_ended parts (step.Queue s p time crop points) = drawn_turn (held_in parts s)
  turn_ended parts (step.Cancel s points) = drawn_turn (held_in parts s)
  turn_ended parts (step.PDetach s b) = drawn_turn (held_in parts s)
  turn_ended parts (step.Draw s p) = owed_turn (held_in parts s)
  turn_ended parts s = []

  abbrev pub ended_by : HoldingsOf B → Done → List Turn
  ended_by parts done = if was_done done.answered then turn_ended parts done.step else []

  -- A step that is done adds its trace entry and its reply, and the signals and turns that the entry has; and where what is
  -- known is exact, only this actor called and sent.
  pub record DoesStep (pictures : ℕ → Picture) (home : DeskHome) (old : ActorOf B) (before : DeskView B) (new : ActorOf B) (after : DeskView B) (reply : Reply) : Type 0 where
    pub done : Done
    pub trace : new.trace ≡ old.trace ++ done ∷ []
    pub replies : new.replies ≡ old.replies ++ reply ∷ []
    pub replied : reply ≡ reply_at old.script.number (record { place = length old.trace + 1; past = past_of old; done = done })
    pub same : new ≡ record old { parts = new.parts; trace = new.trace; replies = new.replies }
    pub signals : after.times.signals ≡ before.times.signals ++ signal_of done.step
    pub ended : after.turns.leaves ≡ before.turns.leaves ++ ended_by old.parts done
    pub entered : EntersInTurn home old before after done
    pub refused : IsRefusedByFence pictures home old before after done
    pub alone : home.is_exact ≡ true → (other : ℕ) → other ≢ old.script.number → GoesOn other (known_of home before) (known_of home after)

  -- Why a step that no own test refuses is not done: a look showed that what it waits for is open; or no slot is free, as the
  -- queue answers; or a load showed that an earlier turn at the pixels has not left.
  pub data WhyNotYet (pictures : ℕ → Picture) (home : DeskHome) (actor : ActorOf B) (old new : DeskView B) : Step → Type 0 where
    Open : {s : Step} (fence : Fence) → waited_fence (past_of actor).holdings s ≡ Some fence → SeesOpen home old new fence
        → new.turns ≡ old.turns → WhyNotYet pictures home actor old new s
    NoSlot : {s : Step} (asked : Asked) (call : QCall B) → call_of pictures (past_of actor).holdings s ≡ Some asked → told_call asked.0 call ≡ asked.1
        → WaitsForCall home old new actor.script.number asked.0.0 (length actor.trace + 1, call) → WhyNotYet pictures home actor old new s
    EarlierTurn : {s : Step} (name picture : ℕ) (held : Holding B) (fence : Fence) → s ≡ step.Draw name picture → held_in actor.parts name ≡ Some held
        → waited_fence (past_of actor).holdings s ≡ Some fence → SeesSignalled home old new fence
        → IsShort (turn_held held).0 (turn_held held).1 old.turns new.turns → WhyNotYet pictures home actor old new s

  -- A step that is not done leaves the actor, and no signal, turn, call or arrival; where what is known is not exact, the
  -- desk looked, and where it is exact, nobody called or sent.
  pub record LeavesStep (pictures : ℕ → Picture) (home : DeskHome) (old : ActorOf B) (before : DeskView B) (new : ActorOf B) (after : DeskView B) : Type 0 where
    pub next : Step
    pub step : next_step old ≡ Some next
    pub unrefused : refusal_of pictures (past_of old).holdings next ≡ None
    pub why : WhyNotYet pictures home old before after next
    pub same : new ≡ old
    pub signals : after.times.signals ≡ before.times.signals
    pub left : after.turns.leaves ≡ before.turns.leaves
    pub looked : home.is_exact ≡ false → looks before < looks after
    pub calls : home.is_exact ≡ true → (queue : ℕ) → after.calls queue ≡ before.calls queue
    pub arrivals : after.arrivals ≡ before.arrivals
    pub alone : home.is_exact ≡ true → (other : ℕ) → GoesOn other (known_of home before) (known_of home after)

  -- what a try reports; an actor that has done all its steps is left
  abbrev pub Tries : (ℕ → Picture) → DeskHome → ActorOf B → DeskView B → ActorOf B → DeskView B → Stepped → Type 0
  Tries pictures home old before new after stepped.Done = (reply : Reply) × DoesStep pictures home old before new after reply
  Tries pictures home old before new after stepped.NotYet = LeavesStep pictures home old before new after
  Tries pictures home old before new after stepped.Ended = (new ≡ old) × (after ≡ before) × (next_step old ≡ None)

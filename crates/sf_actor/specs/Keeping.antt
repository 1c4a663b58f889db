-- What an actor's trace keeps: what its done steps say of its replies, its calls and its arrivals, of the tokens and permits
-- that its calls brought, and of the signals and turns that they made. It says nothing of steps that are not done.
use Rattle.std.specs.Prelude.{◌≡◌, ℕ, List, Contains, Some}
use Rattle.std.specs.List.{All, AllZip}
use Rattle.sf_script_scene.specs.sf_picture.declared.picture.Picture.{Picture}
use Rattle.sf_script_scene.specs.declared.step.ActorScript.{ActorScript}
use Rattle.sf_surface.specs.Hands.{permit_of}
use Rattle.sf_surface.specs.sf_turns.Views.{PermitView}
use Rattle.sf_actor.specs.declared.done.Done.{Done}
use Rattle.sf_actor.specs.declared.tried.Reply.{Reply}
use Rattle.sf_actor.specs.Draws.{DrawInTurn}
use Rattle.sf_actor.specs.Known.{AreAmong, Call, Share, own_of}
use Rattle.sf_actor.specs.Rights.{BringsGiven, EndsIn, MadeWith, QueuesPicture, SendsAcquired, WasPaid}
use Rattle.sf_actor.specs.ScriptTraces.{IsTraceOf, made_on}
use Rattle.sf_actor.specs.Traces.{made_by}
use Rattle.sf_actor.specs.Written.{FrameNumber, paid_in, signals_of}

-- what the trace of an actor with this script and this stock of permits keeps
pub record TraceKept {B : Type 0} (pictures : ℕ → Picture) (script : ActorScript) (stock : List ℕ) (trace : List Done) (replies : List Reply) (share : Share B) : Type 0 where
  -- it is one of the script, and its calls, its arrivals and its replies are those of its steps
  pub is : IsTraceOf pictures script (own_of share) trace replies
  -- a frame that it queues has the scene's picture of its number
  pub shows : (queue : ℕ) (made : Call B) → Contains (share.calls queue) made → QueuesPicture pictures made.made.call.1
  -- each token that a call or an arrival of it brings has the turn with which a call of it gave the token
  pub tokens : (queue : ℕ) → AllZip (BringsGiven share.calls) (made_on queue (made_by pictures trace)) (share.calls queue)
  pub sends : All (SendsAcquired share.calls) share.arrivals
  -- the permits that it brings are of its stock, and each makes at most one buffer
  pub permits : (queue : ℕ) (made : Call B) (permit : PermitView) → Contains (share.calls queue) made
      → permit_of made.made.call.1 ≡ Some permit → Contains stock permit.buffer
  pub once : (number queue other : ℕ) (made later : Call B) → Contains (share.calls queue) made → Contains (share.calls other) later
      → MadeWith number made → MadeWith number later → (queue ≡ other) × (made.made.call.0 ≡ later.made.call.0)
  -- its signals were made, and the turns of what it drew were left
  pub signals : AreAmong (signals_of trace) share.signals
  pub ends : (queue : ℕ) (made : Call B) → Contains (share.calls queue) made → EndsIn share.left made.made.reply.ends
  pub pays : (frame : FrameNumber) → Contains (paid_in trace) frame → WasPaid share.left share.calls frame
  -- its draws came in turn
  pub turns : DrawInTurn share trace

-- what the trace of any actor keeps over a share it keeps over another one, too
abbrev pub KeepsTraces : {B : Type 0} → Share B → Share B → Type 0
KeepsTraces old new =
    (pictures : ℕ → Picture) (script : ActorScript) (stock : List ℕ) (trace : List Done) (replies : List Reply)
    → TraceKept pictures script stock trace replies old → TraceKept pictures script stock trace replies new

-- A trace is one of an actor's script, in what is known of the actor's calls, of its arrivals and of the timelines. Nothing
-- here speaks of rights, so that it can be said of what an actor's desk knows and of what records show.
use Rattle.std.specs.Prelude.{◌≡◌, ℕ, ◌==◌, List, length, map, take, filter, Option, Some, None}
use Rattle.std.specs.List.{AllZip}
use Rattle.sf_base.specs.declared.fences.Seen.{Seen}
use Rattle.sf_script_scene.specs.sf_picture.declared.picture.Picture.{Picture}
use Rattle.sf_surface.specs.sf_slots.declared.calls.Entry.{Entry}
use Rattle.sf_surface.specs.sf_slots.declared.calls.PlainReply.{PlainReply}
use Rattle.sf_token.specs.Pending.{Arrival}
use Rattle.sf_script_scene.specs.declared.step.ActorScript.{ActorScript}
use Rattle.sf_script_scene.specs.declared.step.Step.{Step}
use Rattle.sf_actor.specs.declared.done.Done.{Done}
use Rattle.sf_actor.specs.declared.tried.Reply.{Reply}
use Rattle.sf_actor.specs.Names.{FrameOf}
use Rattle.sf_actor.specs.Traces.{AreAnswered, MadeStep, SentStep, made_by, sends_of}
use Rattle.sf_actor.specs.Values.{replies_of}

-- what is known of an actor: its calls on each queue, by the queue's number, and its arrivals, in the order in which it made
-- them; and values that the timelines have reached
pub record OwnOf : Type 0 where
  pub calls : ℕ → List Entry
  pub arrivals : List (Arrival FrameOf)
  pub values : Seen

-- a reply is the one that the step reports, where it reports one
abbrev pub TellsReply : Option PlainReply → PlainReply → Type 0
TellsReply None reply = Unit {0}
TellsReply (Some told) reply = told ≡ reply

-- an entry of a queue's history is the call that a step made
pub record IsMade (made : MadeStep) (entry : Entry) : Type 0 where
  pub step : entry.step ≡ made.step
  pub call : entry.call ≡ made.asked.1
  pub reply : TellsReply made.told entry.reply

-- the calls of the steps on one queue
abbrev pub made_on : ℕ → List MadeStep → List MadeStep
made_on queue made = filter (λ step. step.asked.0.0 == queue) made

-- an arrival as its step reports it
abbrev pub sent_as : Arrival FrameOf → SentStep
sent_as arrived = record { step = arrived.step; number = arrived.number; txn = arrived.txn }

-- the step of a done one
abbrev pub step_done : Done → Step
step_done done = done.step

-- A trace of an actor's script with its replies: its steps are the first ones of the script, each answered as the table of
-- steps says after those before it; the replies are those of its steps; and the actor's calls and arrivals are those that
-- its steps made and sent, in their order.
pub record IsTraceOf (pictures : ℕ → Picture) (script : ActorScript) (own : OwnOf) (trace : List Done) (replies : List Reply) : Type 0 where
  pub first : map step_done trace ≡ take (length trace) script.steps
  pub answered : AreAnswered pictures own.values trace
  pub replied : replies ≡ replies_of script.number trace
  pub made : (queue : ℕ) → AllZip IsMade (made_on queue (made_by pictures trace)) (own.calls queue)
  pub sent : map sent_as own.arrivals ≡ sends_of trace

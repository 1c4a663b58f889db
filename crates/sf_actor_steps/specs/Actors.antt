-- What contracts see of an actor. Its trace is not in its memory: contracts speak of each trace that fits what it has.
use Rattle.std.specs.Prelude.{◌≡◌, ℕ, ◌+◌, ◌≤◌, false, List, [], length, replicate, None, Some, Result, IfOk}
use Rattle.atomic_table.specs.Seated.{TableId}
use Rattle.sf_base.specs.declared.ids.ActorId.{ActorId}
use Rattle.sf_base.specs.declared.memory.NoMemory.{NoMemory}
use Rattle.sf_actor.specs.sf_picture.declared.picture.Picture.{Picture}
use Rattle.sf_actor.specs.sf_script_scene.declared.step.ActorScript.{ActorScript}
use Rattle.sf_actor.specs.sf_script_scene.declared.step.Step.{Step}
use Rattle.sf_actor.specs.sf_turns.Counts.{stock_at}
use Rattle.sf_actor.specs.sf_turns.Views.{StockView}
use Rattle.sf_actor.specs.declared.tried.Stepped.{Stepped}
use Rattle.sf_actor.specs.Desks.{DeskHome, DeskView, known_of}
use Rattle.sf_actor.specs.Known.{share_of}
use Rattle.sf_actor.specs.Holdings.{HoldingsOf}
use Rattle.sf_actor.specs.Tests.{refusal_of}
use Rattle.sf_actor.specs.Tries.{ActorOf, Keeps, Tries, dequeues_in, next_step}
use Rattle.sf_actor_steps.specs.Acting.{Attempts}
use Rattle.sf_actor_steps.specs.Forming.{AreOfTable, permits_of}
use Rattle.sf_actor_steps.specs.Bindings.{holdings_of}
use Rattle.sf_actor_steps.specs.declared.actor.Actor.{Actor}
use Rattle.sf_actor_steps.specs.declared.bindings.Bindings.{Bindings}
use Rattle.sf_actor_steps.specs.declared.tried.Tried.{Tried}

module _ {B : Type 0} where
  -- what an actor has in its bindings, with the numbers of the buffers that it may still open
  abbrev pub parts_of : Bindings B → HoldingsOf B
  parts_of bindings = record { names = bindings.names; transactions = bindings.transactions; stock = permits_of bindings }

  -- bindings that hold nothing but a stock
  pub record HoldNothing (bindings : Bindings B) (by : ActorId) (stock : StockView) : Type 0 where
    pub by_it : bindings.by ≡ by
    pub names : bindings.names ≡ replicate 32 None
    pub transactions : bindings.transactions ≡ replicate 65 None
    pub stock_whole : bindings.stock ≡ stock
    pub none_spare : bindings.spare ≡ None

  -- an actor that has done nothing
  abbrev pub new_actor : ActorScript → List ℕ → ActorOf B
  new_actor script stock = record {
    script = script;
    stock = stock;
    parts = record { names = replicate 32 None; transactions = replicate 65 None; stock = stock };
    trace = [];
    replies = [];
    spent = false;
  }

  -- a desk knows no call and no arrival of an actor, and a stock has enough permits for its dequeues, each once
  pub record IsNew (home : DeskHome) (view : DeskView B) (script : ActorScript) (stock : List ℕ) : Type 0 where
    pub no_calls : (queue : ℕ) → (share_of script.number (known_of home view)).calls queue ≡ []
    pub no_arrivals : (share_of script.number (known_of home view)).arrivals ≡ []
    pub once : (number : ℕ) → stock_at number stock ≤ 1
    pub enough : dequeues_in script.steps ≤ length stock

  -- an actor has done nothing, over a desk that knows no call and no arrival of it, and has enough permits for its script
  pub record IsNewActor (home : DeskHome) (view : DeskView B) (actor : ActorOf B) : Type 0 where
    pub first : actor ≡ new_actor actor.script actor.stock
    pub new : IsNew home view actor.script actor.stock

  -- an actor is what contracts see of it, with some trace of as many steps as it has replied to
  pub record IsActor (table : TableId) (actor : Actor B) (of : ActorOf B) : Type 0 where
    pub script : of.script ≡ actor.script
    pub by_it : actor.bindings.by.0 ≡ actor.script.number
    pub parts : of.parts ≡ parts_of actor.bindings
    pub names : length actor.bindings.names ≡ 32
    pub numbers : length actor.bindings.transactions ≡ 65
    pub replies : of.replies ≡ actor.replies.items
    pub trace : length of.trace ≡ length actor.replies.items
    pub spent : of.spent ≡ actor.is_spent
    pub of_table : AreOfTable table actor.bindings

  -- it keeps what it keeps, over what a desk has and knows
  pub record IsKept (table : TableId) (pictures : ℕ → Picture) (home : DeskHome) (actor : Actor B) (view : DeskView B) : Type 0 where
    pub of : ActorOf B
    pub is : IsActor table actor of
    pub keeps : Keeps pictures home of view

  -- what a try of a step did with the tokens in its actor's bindings, with calls and with turns
  pub record Acts (pictures : ℕ → Picture) (home : DeskHome) (next : Step) (step_number : ℕ)
      (was : Bindings B) (before : DeskView B) (bindings : Bindings B) (after : DeskView B) : Type 0 where
    pub came_to : Tried
    pub attempts : Attempts (refusal_of pictures (holdings_of was) next) pictures home was.by.0 step_number next was bindings before after came_to

  -- what a try of its next step comes to: it keeps what it keeps, and reports what it did; its bindings were these before
  pub record Steps (table : TableId) (pictures : ℕ → Picture) (home : DeskHome) (was : Bindings B) (old : ActorOf B) (before : DeskView B)
      (actor : Actor B) (after : DeskView B) (stepped : Stepped) : Type 0 where
    pub new : ActorOf B
    pub is : IsActor table actor new
    pub keeps : Keeps pictures home new after
    pub tries : Tries pictures home old before new after stepped
    pub acts : (next : Step) → next_step old ≡ Some next → Acts pictures home next (length old.trace + 1) was before actor.bindings after

  -- whatever an actor was seen as, and kept, it keeps it through a try of its next step that does not run out of memory
  abbrev pub TriesToStep : TableId → (ℕ → Picture) → DeskHome → Actor B → DeskView B → Actor B → DeskView B → Result Stepped NoMemory → Type 0
  TriesToStep table pictures home old before new after result =
      (actor : ActorOf B) → IsActor table old actor → Keeps pictures home actor before
      → IfOk result (Steps table pictures home old.bindings actor before new after)

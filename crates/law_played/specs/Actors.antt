-- The run of the actors over a desk: their traces, the calls on the desk's queues, and what arrived through it.
use Rattle.std.specs.Prelude.{◌≡◌, ◌⊎◌, ℕ, ◌==◌, true, if◌then◌else◌, List, [], ◌∷◌, map, All, Contains}
use Rattle.std.specs.List.Sorted.{IsPermutation, IsStrictlyIncreasing}
use Rattle.sf_commit.specs.sf_calls.Histories.{IsLegal}
use Rattle.sf_actor.specs.sf_slots.declared.calls.Entry.{Entry}
use Rattle.sf_actor.specs.sf_surface.Histories.{Answers, Made, told}
use Rattle.sf_actor.specs.sf_surface.Tokens.{ReadLeaseOf}
use Rattle.sf_actor.specs.sf_surface.declared.call.QCall.{QCall}
use Rattle.sf_actor.specs.sf_surface.declared.call.QCall.TheVariants as call
use Rattle.sf_actor.specs.sf_surface.declared.mark.QueueMark.{QueueMark}
use Rattle.sf_commit.specs.sf_token.Pending.{Arrival}
use Rattle.sf_script_scene.specs.Scene.{SceneValue, has_queue}
use Rattle.sf_script_scene.specs.declared.declarations.QueueDecl.{QueueDecl}
use Rattle.sf_script_scene.specs.declared.step.ActorScript.{ActorScript}
use Rattle.sf_actor.specs.declared.done.Done.{Done}
use Rattle.sf_actor.specs.Desks.{DeskHome, DeskView, KnowsAll, mark_among}
use Rattle.sf_actor.specs.Known.{AreAmong, plain_arrival}
use Rattle.sf_actor.specs.Makers.{Run}
use Rattle.sf_actor.specs.Names.{FrameOf}
use Rattle.sf_actor.specs.Scripts.{picture_at, queue_of}
use Rattle.sf_actor.specs.Tries.{ActorOf, Keeps}
use Rattle.law_played.specs.Runs.{signals_in}

-- a declared queue, as its mark
abbrev pub mark_declared : QueueDecl → QueueMark
mark_declared queue = record { queue = queue_of queue.number; width = queue.width; height = queue.height }

module _ {B : Type 0} where
  abbrev pub script_of : ActorOf B → ActorScript
  script_of of = of.script

  abbrev pub number_of : ActorOf B → ℕ
  number_of of = of.script.number

  -- the trace of the actor of this number
  abbrev pub trace_among : List (ActorOf B) → ℕ → List Done
  trace_among [] number = []
  trace_among (of ∷ ofs) number = if of.script.number == number then of.trace else trace_among ofs number

  -- what the calls that a desk knows make of the queue of this number
  abbrev pub told_on : DeskHome → DeskView B → ℕ → List Entry
  told_on home view queue = told (mark_among home.marks queue) (view.calls queue)

  -- the run of actors and their desk
  abbrev pub run_of : List (ActorOf B) → DeskHome → DeskView B → Run
  run_of ofs home view = record { trace = trace_among ofs; calls = told_on home view }

  abbrev pub arrivals_of : DeskView B → List (Arrival FrameOf)
  arrivals_of view = map plain_arrival view.arrivals

  -- the actors of a scene: of each script one, and no two of one number; each keeps what it keeps over the desk
  pub record AreActors (scene : SceneValue) (ofs : List (ActorOf B)) (home : DeskHome) (view : DeskView B) : Type 0 where
    pub scripts : IsPermutation scene.actors (map script_of ofs)
    pub apart : IsStrictlyIncreasing (map number_of ofs)
    pub keep : All (λ of. Keeps (picture_at scene.pictures) home of view) ofs

  -- all signals are known, and each was made by a step of an actor
  pub record KnowsSignals (scene : SceneValue) (ofs : List (ActorOf B)) (home : DeskHome) (view : DeskView B) : Type 0 where
    pub all : KnowsAll view
    pub made : AreAmong view.times.signals (signals_in scene (run_of ofs home view))

  -- a release is the only call that nobody of the scene makes, who is 0
  abbrev pub IsRelease : QCall B → Type 0
  IsRelease (call.Release lease fence) = Unit {0}
  IsRelease other = ⊥

  abbrev pub IsCallBy : List (ActorOf B) → Made B → Type 0
  IsCallBy ofs made = ((made.by ≡ 0) × IsRelease made.call.1) ⊎ Contains (map number_of ofs) made.by

  -- the calls on the queues of a scene: the desk has each queue as it is declared, and no other; each reply is what the calls
  -- before it say; and each call is an actor's, or a release by the compositor
  pub record AreCalls (scene : SceneValue) (ofs : List (ActorOf B)) (home : DeskHome) (view : DeskView B) : Type 0 where
    pub marks : All (λ (queue : QueueDecl). mark_among home.marks queue.number ≡ mark_declared queue) scene.queues
    pub declared : (queue : ℕ) (made : Made B) → Contains (view.calls queue) made → has_queue scene.queues queue ≡ true
    pub legal : (queue : ℕ) → IsLegal (Answers (mark_among home.marks queue)) (view.calls queue)
    pub callers : (queue : ℕ) → All (IsCallBy ofs) (view.calls queue)

  -- each arrival is an actor's
  abbrev pub AreArrivals : List (ActorOf B) → DeskView B → Type 0
  AreArrivals ofs view = All (λ (arrived : Arrival ReadLeaseOf). Contains (map number_of ofs) arrived.actor.0) view.arrivals

-- The run of a state, through which its makers are followed.
use Rattle.std.specs.Prelude.{◌≡◌, ℕ, true, List, All}
use Rattle.sf_actor_set.specs.sf_commit.Handlers.{HandlerOf}
use Rattle.sf_actor_set.specs.sf_script_scene.Scene.{SceneValue, has_queue}
use Rattle.sf_actor_set.specs.sf_surface.declared.mark.QueueMark.{QueueMark}
use Rattle.sf_actor_set.specs.sf_surface.Histories.{told}
use Rattle.sf_actor_set.specs.sf_surface.Tokens.{ReadLeaseOf}
use Rattle.sf_actor_set.specs.sf_actor.declared.done.Done.{Done}
use Rattle.sf_actor_set.specs.sf_actor.Desks.{DeskHome, DeskView, mark_among}
use Rattle.sf_actor_set.specs.sf_actor.Makers.{Run}
use Rattle.sf_actor_set.specs.sf_actor.Tries.{ActorOf}
use Rattle.law_played.specs.Actors.{run_of}
use Rattle.law_played.specs.Turns.{calls_in}
use Rattle.law_rights.specs.Makers.{MakersStand}
use Rattle.law_rights.specs.Standing.{state_of}
use Rattle.law_rights.specs.States.{State}

-- each queue is one that the scene declares
abbrev pub AreDeclared : SceneValue → List QueueMark → Type 0
AreDeclared scene marks = All (λ (mark : QueueMark). has_queue scene.queues mark.queue.0 ≡ true) marks

module _ {B : Type 0} where
  -- the run of these traces and the calls of a state
  abbrev pub run_in : (ℕ → List Done) → State B → Run
  run_in trace state = record { trace = trace; calls = λ queue. told (mark_among state.marks queue) (state.view.calls queue) }

  -- Between two calls of a player, the makers of buffers are followed through the run of the actors and their desk; all its calls are
  -- enough to follow each buffer back.
  abbrev pub MakersPlay : SceneValue → DeskHome → DeskView B → List (ActorOf B) → HandlerOf ReadLeaseOf → Type 0
  MakersPlay scene home view ofs handler = MakersStand (run_of ofs home view) (calls_in scene (run_of ofs home view)) (state_of home view ofs handler)

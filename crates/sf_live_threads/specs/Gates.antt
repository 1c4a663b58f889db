-- For how many steps of an actor a gate was passed.
use Rattle.std.specs.Prelude.{◌≡◌, ◌+◌, ◌≤◌, List, length, min}
use Rattle.std.specs.List.{AllZip}
use Rattle.sf_actor_steps.specs.declared.actor.Actor.{Actor}
use Rattle.sf_live_threads.specs.declared.gates.Gates.{Gates}

module _ {B : Type 0} where
  -- for each step that is done, and no more than one further step that is there
  pub record HasPassed (actor : Actor B) (gates : Gates) : Type 0 where
    pub done : length actor.replies.items ≤ gates.passed
    pub once : gates.passed ≤ length actor.replies.items + 1
    pub there : gates.passed ≤ length actor.script.steps

  -- for each step that is done and for the next one, where there is one
  abbrev pub IsReady : Actor B → Gates → Type 0
  IsReady actor gates = gates.passed ≡ min (length actor.script.steps) (length actor.replies.items + 1)

  -- each of these actors has passed its own
  abbrev pub HavePassed : List (Actor B) → List Gates → Type 0
  HavePassed actors gates = AllZip HasPassed actors gates

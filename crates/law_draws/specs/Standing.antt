-- What stands of the rights of a run between two events of its callers: the ledger, the makers, and where draws are placed.
use Rattle.std.specs.Prelude.{◌≡◌, ℕ, ◌≤◌, ◌||◌, Bool, true, List, length, map, Contains}
use Rattle.std.specs.List.Sorted.{IsStrictlyIncreasing}
use Rattle.law_rights.specs.sf_script_scene.Scene.{SceneValue}
use Rattle.sf_slots.specs.declared.calls.Entry.{Entry}
use Rattle.sf_slots.specs.declared.calls.PlainReply.{PlainReply}
use Rattle.law_rights.specs.sf_surface.declared.mark.QueueMark.{QueueMark}
use Rattle.law_rights.specs.sf_surface.Histories.{Made, told}
use Rattle.law_rights.specs.sf_actor.Desks.{mark_among}
use Rattle.law_rights.specs.sf_actor.Known.{Call}
use Rattle.law_rights.specs.sf_actor.Makers.{Run, is_attached}
use Rattle.law_rights.specs.sf_actor.Tries.{ActorOf}
use Rattle.law_rights.specs.law_played.Actors.{number_of, trace_among}
use Rattle.law_rights.specs.law_played.Turns.{calls_in, is_queued}
use Rattle.law_rights.specs.Ledgers.{IsLedger}
use Rattle.law_rights.specs.MakerRuns.{run_in}
use Rattle.law_rights.specs.Makers.{MakersStand, places_of}
use Rattle.law_rights.specs.States.{State, ledger_of}
use Rattle.law_draws.specs.Placed.{ArePlaced}

-- a reply that queued a frame, or attached a buffer
abbrev pub is_told : PlainReply → Bool
is_told reply = is_attached reply || is_queued reply

module _ {B : Type 0} where
  -- the run of the actors of a state
  abbrev pub run_over : State B → Run
  run_over state = run_in (trace_among state.actors) state

  -- a call of an actor is of a step that it has done
  pub record IsOfStep (of : ActorOf B) (entry : Entry) : Type 0 where
    pub low : 1 ≤ entry.step
    pub high : entry.step ≤ length of.trace

  -- so is each one that queued a frame or attached a buffer; frames may go back behind a step
  abbrev pub AreOfSteps : List (ActorOf B) → List QueueMark → (ℕ → List (Made B)) → Type 0
  AreOfSteps actors marks calls =
      (of : ActorOf B) → Contains actors of → (queue : ℕ) (entry : Entry) → Contains (told (mark_among marks queue) (calls queue)) entry
      → entry.caller.0 ≡ of.script.number → is_told entry.reply ≡ true → IsOfStep of entry

  -- The calls are those of each actor in the whole run.
  pub record RightsStand (scene : SceneValue) (calls : ℕ → ℕ → List (Call B)) (state : State B) : Type 0 where
    pub apart : IsStrictlyIncreasing (map number_of state.actors)
    pub of_steps : AreOfSteps state.actors state.marks state.view.calls
    pub ledger : IsLedger (ledger_of state)
    pub makers : MakersStand (run_over state) (calls_in scene (run_over state)) state
    pub placed : ArePlaced scene calls (run_over state) (places_of state)

-- Draws come in turn: one that enters pixels found that all earlier turns at them had left.
use Rattle.std.specs.Prelude.{◌≡◌, ℕ, ◌≤◌, ◌==◌, ◌&&◌, if◌then◌else◌, List, get_or, Option, Some, None, is_some, option_to_list}
use Rattle.std.specs.List.{All, AllPairs, flat_map}
use Rattle.std.specs.Option.{option_map}
use Rattle.sf_base.specs.Points.{greatest}
use Rattle.sf_actor.specs.declared.done.Answered.{Answered}
use Rattle.sf_actor.specs.declared.done.Answered.TheVariants as answered
use Rattle.sf_actor.specs.declared.done.Done.{Done}
use Rattle.sf_script_scene.specs.declared.step.Step.{Step}
use Rattle.sf_script_scene.specs.declared.step.Step.TheVariants as step
use Rattle.sf_actor.specs.Known.{Call, Share}
use Rattle.sf_actor.specs.Names.{Holdings, name_in}
use Rattle.sf_actor.specs.Points.{undrawn_fence}
use Rattle.sf_actor.specs.Rights.{Turn, WasGivenAt}
use Rattle.sf_actor.specs.Traces.{DoneAt, places_of}

-- the name of a draw that is done and enters pixels: nothing was drawn in what it holds
abbrev pub entered_name : Holdings → Step → Answered → Option ℕ
entered_name holdings (step.Draw s p) (answered.Own status) = if (status == 0) && is_some (undrawn_fence (name_in holdings s)) then Some s else None
entered_name holdings s answer = None

-- the place of the step whose call gave what is entered
abbrev pub entered_at : DoneAt → Option ℕ
entered_at at = option_map (λ name. get_or at.past.since name 0) (entered_name at.past.holdings at.done.step at.done.answered)

abbrev pub entered_in : List Done → List ℕ
entered_in trace = flat_map (λ (at : DoneAt). option_to_list (entered_at at)) (places_of trace)

-- all turns before this one were seen to have left
abbrev pub WasCounted : List (ℕ × ℕ) → Turn → Type 0
WasCounted counts turn = turn.1 ≤ greatest turn.0 counts

module _ {B : Type 0} where
  abbrev pub EntersCounted : Share B → ℕ → Type 0
  EntersCounted share place = (turn : Turn) × WasGivenAt share.calls place (Some turn) × WasCounted share.counts turn

  -- of what is entered in one buffer, no turn comes before an earlier one
  abbrev pub IsInOrder : (ℕ → List (Call B)) → ℕ → ℕ → Type 0
  IsInOrder calls place later =
      (turn : Turn) × (other : Turn) × WasGivenAt calls place (Some turn) × WasGivenAt calls later (Some other) × (turn.0 ≡ other.0 → turn.1 ≤ other.1)

  -- the draws of a trace that enter pixels do so in turn
  pub record DrawInTurn (share : Share B) (trace : List Done) : Type 0 where
    pub counted : All (EntersCounted share) (entered_in trace)
    pub order : AllPairs (IsInOrder share.calls) (entered_in trace)

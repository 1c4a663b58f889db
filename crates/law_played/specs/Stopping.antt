-- Who is stuck, of actors over a desk: what shows that the turn of a draw has not come.
use Rattle.std.specs.Prelude.{◌≡◌, ℕ, ◌+◌, nat_lt, true, if◌then◌else◌, List, [], ◌∷◌, length, Some}
use Rattle.std.specs.List.{flat_map}
use Rattle.sf_base.specs.Fences.{Fence}
use Rattle.sf_script_scene.specs.Scene.{SceneValue}
use Rattle.sf_actor.specs.sf_surface.Drawing.{IsShort}
use Rattle.sf_actor.specs.declared.holding.Holding.{Holding}
use Rattle.sf_actor.specs.Desks.{DeskView}
use Rattle.sf_actor.specs.Makers.{Run}
use Rattle.sf_actor.specs.Holdings.{token_of, turn_held}
use Rattle.sf_actor.specs.Points.{undrawn_fence}
use Rattle.sf_actor.specs.Tries.{ActorOf, held_in}
use Rattle.sf_record.specs.declared.record.StuckEntry.{StuckEntry}
use Rattle.law_played.specs.Stuck.{has_older}

module _ {B : Type 0} where
  -- an actor that has not done all its steps, with its next step
  abbrev pub entry_if : ActorOf B → List StuckEntry
  entry_if of =
      if nat_lt (length of.trace) (length of.script.steps) then record { actor = of.script.number; step = length of.trace + 1 } ∷ [] else []

  abbrev pub stuck_among : List (ActorOf B) → List StuckEntry
  stuck_among ofs = flat_map entry_if ofs

  -- where a look showed that an earlier turn at the pixels of what is to be drawn has not left, an older draw is owed; this
  -- needs the rights of all actors at once
  pub record TellsOlder (scene : SceneValue) (run : Run) (of : ActorOf B) (before after : DeskView B) : Type 0 where
    pub owed : (name : ℕ) (held : Holding B) (fence : Fence) → held_in of.parts name ≡ Some held → undrawn_fence (Some (token_of held)) ≡ Some fence
        → IsShort (turn_held held).0 (turn_held held).1 before.turns after.turns → has_older scene run (token_of held) ≡ true

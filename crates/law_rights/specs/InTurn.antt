-- Draws that entered pixels: each frame that was queued before is written before, and what is queued later comes after.
use Rattle.std.specs.Prelude.{◌≡◌, ℕ, ◌+◌, ◌<◌, ◌≤◌, ◌==◌, ◌&&◌, ◌⊎◌, nat_le, true, false, List, ◌∷◌, length, Contains}
use Rattle.sf_actor_set.specs.sf_script_scene.Scene.{SceneValue}
use Rattle.sf_slots.specs.Events.{frames_queued}
use Rattle.sf_slots.specs.History.{events}
use Rattle.sf_actor_set.specs.sf_commit.Handlers.{HandlerOf}
use Rattle.sf_actor_set.specs.sf_surface.Tokens.{ReadLeaseOf}
use Rattle.sf_actor_set.specs.sf_actor.Desks.{DeskHome, DeskView}
use Rattle.sf_actor_set.specs.sf_actor.Makers.{BufferOf, Run, buffer_in, is_before, same_maker}
use Rattle.sf_actor_set.specs.sf_actor.Names.{Token}
use Rattle.sf_actor_set.specs.sf_actor.Tries.{ActorOf}
use Rattle.sf_actor_set.specs.sf_actor.Written.{FrameNumber, written_at}
use Rattle.law_played.specs.Actors.{run_of}
use Rattle.law_played.specs.Runs.{StepBy, steps_in}
use Rattle.law_played.specs.Turns.{calls_in, entered_by, maker_at, turn_frame}
use Rattle.law_rights.specs.Makers.{AreMade, Places, RightAt, WriteAt, buffer_of, places_of}
use Rattle.law_rights.specs.Standing.{state_of}
use Rattle.law_rights.specs.Stays.{AreStays}

-- how many frames a queue has got
abbrev pub frames_on : Run → ℕ → ℕ
frames_on run queue = frames_queued (events (run.calls queue))

-- of the same actor it is no later step
abbrev pub IsNoLater : StepBy → StepBy → Type 0
IsNoLater s other = ((other.actor == s.actor) && nat_le s.at.place other.at.place) ≡ false

-- a step wrote a frame, which is no later step of the same actor
pub record WasWritten (scene : SceneValue) (run : Run) (s : StepBy) (frame : FrameNumber) : Type 0 where
  pub by : StepBy
  pub there : Contains (steps_in scene run) by
  pub wrote : Contains (written_at by.at) frame
  pub no_later : IsNoLater s by

-- A write comes before what a step enters: it is in a buffer of the same maker, at a lesser age, or at the same with a lesser frame.
abbrev pub IsEarlier : SceneValue → Run → StepBy → Token → WriteAt → Type 0
IsEarlier scene run s token write =
    let mine = maker_at scene run (buffer_of write) in
    let theirs = maker_at scene run (buffer_in token) in
    (same_maker mine theirs && is_before mine.age write.write.frame.1 theirs.age (turn_frame run s token)) ≡ true

-- What a step entered is a stay that is followed back to its maker. The rights to the pixels of that maker are there or at a later stay; the
-- frame that puts it in order is no later than the next one of its queue; and each earlier write was done before.
pub record IsInTurn (scene : SceneValue) (run : Run) (places : Places) (s : StepBy) (token : Token) : Type 0 where
  pub earlier : List BufferOf
  pub made : AreMade run (buffer_in token ∷ earlier)
  pub follows : AreStays run (buffer_in token) earlier
  pub few : length earlier ≤ calls_in scene run
  pub newest : (right : RightAt) → Contains places.live right → same_maker (maker_at scene run right.at) (maker_at scene run (buffer_in token)) ≡ true
      → ((maker_at scene run (buffer_in token)).age < (maker_at scene run right.at).age) ⊎ (buffer_in token ≡ right.at)
  pub frame : turn_frame run s token ≤ frames_on run (buffer_in token).queue + 1
  pub first : (write : WriteAt) → Contains places.queued write → IsEarlier scene run s token write → WasWritten scene run s write.write.frame

-- so is all that the steps of a run entered
abbrev pub AreInTurn : SceneValue → Run → Places → Type 0
AreInTurn scene run places = (s : StepBy) → Contains (steps_in scene run) s → (token : Token) → Contains (entered_by s.at) token → IsInTurn scene run places s token

abbrev pub DrawsStand : {B : Type 0} → SceneValue → DeskHome → DeskView B → List (ActorOf B) → HandlerOf ReadLeaseOf → Type 0
DrawsStand scene home view ofs handler = AreInTurn scene (run_of ofs home view) (places_of (state_of home view ofs handler))

-- Draws that entered pixels, by where these are, in which turn, and what was queued before: for which no count of leaves is needed.
use Rattle.std.specs.Prelude.{◌≡◌, ℕ, ◌+◌, ◌<◌, ◌≤◌, ◌⊎◌, true, List, ◌∷◌, length, Contains, Some}
use Rattle.law_rights.specs.sf_commit.Handlers.{HandlerOf}
use Rattle.law_rights.specs.sf_script_scene.Scene.{SceneValue}
use Rattle.sf_slots.specs.declared.calls.Entry.{Entry}
use Rattle.sf_slots.specs.declared.calls.PlainReply.TheVariants as plain
use Rattle.law_rights.specs.sf_surface.Tokens.{ReadLeaseOf}
use Rattle.law_rights.specs.sf_actor.Desks.{DeskHome, DeskView, known_of}
use Rattle.law_rights.specs.sf_actor.Draws.{entered_at}
use Rattle.law_rights.specs.sf_actor.Known.{Call, share_of}
use Rattle.law_rights.specs.sf_actor.Makers.{BufferOf, Run, buffer_in, same_maker}
use Rattle.law_rights.specs.sf_actor.Names.{Token}
use Rattle.law_rights.specs.sf_actor.Rights.{Turn, WasGivenAt}
use Rattle.law_rights.specs.sf_actor.Tries.{ActorOf}
use Rattle.law_rights.specs.sf_actor.Written.{FrameNumber, paid_frame}
use Rattle.law_rights.specs.law_played.Actors.{run_of}
use Rattle.law_rights.specs.law_played.Runs.{StepBy, steps_in}
use Rattle.law_rights.specs.law_played.Turns.{calls_in, entered_by, maker_at, turn_frame}
use Rattle.law_rights.specs.InTurn.{IsEarlier, frames_on}
use Rattle.law_rights.specs.Makers.{AreMade, Places, RightAt, WriteAt, places_of}
use Rattle.law_rights.specs.Standing.{state_of}
use Rattle.law_rights.specs.Stays.{AreStays}

-- no call of a later step of its actor queued the frame
abbrev pub IsQueuedBefore : Run → StepBy → FrameNumber → Type 0
IsQueuedBefore run s frame =
    (entry : Entry) → Contains (run.calls frame.0.0) entry → entry.reply ≡ plain.Queued frame.1 → entry.caller.0 ≡ s.actor → entry.step < s.at.place

-- a frame was queued before a step, with an earlier turn of the buffer that it entered
pub record IsBehind (run : Run) (s : StepBy) (turn : Turn) (write : WriteAt) : Type 0 where
  pub buffer : write.write.turn.0 ≡ turn.0
  pub less : write.write.turn.1 < turn.1
  pub queued : IsQueuedBefore run s write.write.frame

-- a frame was queued with this turn
abbrev pub IsQueuedWith : Places → Turn → FrameNumber → Type 0
IsQueuedWith places turn frame = (write : WriteAt) × Contains places.queued write × (write.write ≡ record { turn = turn; frame = frame })

-- What a step entered, in this turn, is a stay that is followed back to its maker. The rights to the pixels of that maker are there or at a
-- later stay; the frame that puts it in order is no later than the next one of its queue; each earlier write is behind; and what was owed is
-- the write of its frame.
pub record IsPlaced (scene : SceneValue) (run : Run) (places : Places) (turn : Turn) (s : StepBy) (token : Token) : Type 0 where
  pub earlier : List BufferOf
  pub made : AreMade run (buffer_in token ∷ earlier)
  pub follows : AreStays run (buffer_in token) earlier
  pub few : length earlier ≤ calls_in scene run
  pub newest : (right : RightAt) → Contains places.live right → same_maker (maker_at scene run right.at) (maker_at scene run (buffer_in token)) ≡ true
      → ((maker_at scene run (buffer_in token)).age < (maker_at scene run right.at).age) ⊎ (buffer_in token ≡ right.at)
  pub frame : turn_frame run s token ≤ frames_on run (buffer_in token).queue + 1
  pub first : (write : WriteAt) → Contains places.queued write → IsEarlier scene run s token write → IsBehind run s turn write
  pub own : (frame : FrameNumber) → Contains (paid_frame (Some token)) frame → IsQueuedWith places turn frame

module _ {B : Type 0} where
  -- of each actor its calls on each queue, as a desk knows them
  abbrev pub calls_of : DeskHome → DeskView B → ℕ → ℕ → List (Call B)
  calls_of home view = λ actor. (share_of actor (known_of home view)).calls

  -- What a step entered is placed, in the turn that the call gave from which its actor has the token; the calls are those of the whole run.
  pub record EntersPlaced (scene : SceneValue) (calls : ℕ → ℕ → List (Call B)) (run : Run) (places : Places) (s : StepBy) (token : Token) : Type 0 where
    pub place : ℕ
    pub at : entered_at s.at ≡ Some place
    pub turn : Turn
    pub given : WasGivenAt (calls s.actor) place (Some turn)
    pub placed : IsPlaced scene run places turn s token

  -- so is all that the steps of a run entered
  abbrev pub ArePlaced : SceneValue → (ℕ → ℕ → List (Call B)) → Run → Places → Type 0
  ArePlaced scene calls run places =
      (s : StepBy) → Contains (steps_in scene run) s → (token : Token) → Contains (entered_by s.at) token → EntersPlaced scene calls run places s token

  abbrev pub DrawsPlaced : SceneValue → DeskHome → DeskView B → List (ActorOf B) → HandlerOf ReadLeaseOf → Type 0
  DrawsPlaced scene home view ofs handler = ArePlaced scene (calls_of home view) (run_of ofs home view) (places_of (state_of home view ofs handler))

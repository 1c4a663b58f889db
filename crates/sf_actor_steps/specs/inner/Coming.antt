-- What a try of a step comes to for its actor.
use Rattle.std.specs.Prelude.{◌≡◌, ℕ, ◌+◌, Bool, true, false, List, [], ◌∷◌, ◌++◌, length, Some, IfSome}
use Rattle.sf_base.specs.Statuses.{number_of}
use Rattle.sf_actor.specs.sf_picture.declared.picture.Picture.{Picture}
use Rattle.sf_actor.specs.sf_script_scene.declared.step.Step.{Step}
use Rattle.sf_actor.specs.sf_script_scene.Named.{picture_named}
use Rattle.sf_actor.specs.declared.done.Done.{Done}
use Rattle.sf_actor.specs.declared.tried.Reply.{Reply}
use Rattle.sf_actor.specs.Desks.{DeskHome, DeskView}
use Rattle.sf_actor.specs.Tries.{ActorOf, DoesStep, Keeps, LeavesStep, next_step}
use Rattle.sf_actor_steps.specs.Actors.{parts_of}
use Rattle.sf_actor_steps.specs.Playable.{IsPlayable}
use Rattle.sf_actor_steps.specs.declared.bindings.Bindings.{Bindings}
use Rattle.sf_actor_steps.specs.declared.tried.Tried.{Tried}
use Rattle.sf_actor_steps.specs.declared.tried.Tried.TheVariants as tried

-- the reply to a step that is done
abbrev pub reply_with : ℕ → ℕ → ℕ → List ℕ → Reply
reply_with actor step_number status values = record { actor = actor; step = step_number; status = status; values = values }

abbrev pub reply_told : ℕ → ℕ → Tried → Reply
reply_told actor step_number (tried.Own status) = reply_with actor step_number status []
reply_told actor step_number (tried.Called status values) = reply_with actor step_number (number_of status) values
reply_told actor step_number (tried.Sent number) = reply_with actor step_number 0 (number ∷ [])
reply_told actor step_number tried.NotYet = reply_with actor step_number 0 []

-- the step is done
abbrev pub is_done : Tried → Bool
is_done tried.NotYet = false
is_done came_to = true

module _ {B : Type 0} where
  -- an actor whose next step is this one, with what it has in its bindings
  pub record IsReady (pictures : ℕ → Picture) (home : DeskHome) (actor : ActorOf B) (bindings : Bindings B) (view : DeskView B) (s : Step) : Type 0 where
    pub parts : actor.parts ≡ parts_of bindings
    pub names : length bindings.names ≡ 32
    pub numbers : length bindings.transactions ≡ 65
    pub is_next : next_step actor ≡ Some s
    pub playable : IsPlayable home s
    pub pictured : IfSome (picture_named s) (λ number. (pictures number).number ≡ number)
    pub keeps : Keeps pictures home actor view

  -- the actor after one more step, with what is in its bindings then
  abbrev pub after_step : ActorOf B → Bindings B → Done → Reply → ActorOf B
  after_step actor bindings done reply = record actor { parts = parts_of bindings; trace = actor.trace ++ done ∷ []; replies = actor.replies ++ reply ∷ [] }

  -- the step is done, and the actor keeps what it keeps
  pub record DoneWith (pictures : ℕ → Picture) (home : DeskHome) (actor : ActorOf B) (bindings : Bindings B) (old new : DeskView B) (reply : Reply) : Type 0 where
    pub done : Done
    pub does : DoesStep pictures home actor old (after_step actor bindings done reply) new reply
    pub keeps : Keeps pictures home (after_step actor bindings done reply) new

  -- the step is not done, and the actor keeps what it keeps
  pub record LeftWith (pictures : ℕ → Picture) (home : DeskHome) (actor : ActorOf B) (bindings : Bindings B) (old new : DeskView B) : Type 0 where
    pub leaves : LeavesStep pictures home actor old actor new
    pub parts : parts_of bindings ≡ actor.parts
    pub keeps : Keeps pictures home actor new

  abbrev pub Comes : (ℕ → Picture) → DeskHome → ActorOf B → Bindings B → DeskView B → DeskView B → Tried → Type 0
  Comes pictures home actor bindings old new tried.NotYet = LeftWith pictures home actor bindings old new
  Comes pictures home actor bindings old new came_to = DoneWith pictures home actor bindings old new (reply_told actor.script.number (length actor.trace + 1) came_to)

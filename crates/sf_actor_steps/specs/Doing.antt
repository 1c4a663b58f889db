-- What a step that makes a call on a queue does.
use Rattle.std.specs.Prelude.{◌≡◌, ℕ, true, Option, Some}
use Rattle.sf_actor.specs.sf_picture.declared.picture.Picture.{Picture}
use Rattle.sf_actor.specs.sf_script_scene.declared.step.Step.{Step}
use Rattle.sf_actor.specs.sf_script_scene.declared.step.Step.TheVariants as step
use Rattle.sf_actor.specs.Desks.{DeskHome, DeskView, has_queue}
use Rattle.sf_actor.specs.Names.{Frame, Lent, Token}
use Rattle.sf_actor_steps.specs.Calling.{TriesCall}
use Rattle.sf_actor_steps.specs.Forming.{FormsCall}
use Rattle.sf_actor_steps.specs.declared.asking.Asking.{Asking}
use Rattle.sf_actor_steps.specs.declared.bindings.Bindings.{Bindings}
use Rattle.sf_actor_steps.specs.declared.producing.QueueInput.{QueueInput}
use Rattle.sf_actor_steps.specs.declared.tried.Tried.{Tried}

-- it makes the step's call, with tokens out of the bindings
pub record MakesCall {B : Type 0} (pictures : ℕ → Picture) (home : DeskHome) (by step_number : ℕ) (s : Step)
    (before after : Bindings B) (old new : DeskView B) (tried : Tried) : Type 0 where
  pub taken : Bindings B
  pub asking : Asking B
  pub forms : FormsCall pictures s before taken asking
  pub tries : TriesCall home by step_number asking taken after old new tried

module _ {B : Type 0} where
  -- whatever the pictures of numbers are, it makes the call of this step, which has this number in its actor's script
  abbrev pub Makes : DeskHome → ℕ → Step → Bindings B → Bindings B → DeskView B → DeskView B → Tried → Type 0
  Makes home step_number s before after old new tried = (pictures : ℕ → Picture) → MakesCall pictures home before.by.0 step_number s before after old new tried

  -- the same of a step that queues what a name holds: as a frame with this input, whatever number its picture has
  abbrev pub MakesQueue : DeskHome → ℕ → ℕ → QueueInput → Bindings B → Bindings B → DeskView B → DeskView B → Tried → Type 0
  MakesQueue home step_number name input before after old new tried =
      (pictures : ℕ → Picture) (number : ℕ) → pictures number ≡ input.picture.now
      → MakesCall pictures home before.by.0 step_number (step.Queue name number input.time input.crop input.points.now) before after old new tried

-- the queue of a lent buffer or of a frame is there
abbrev pub HasQueueOf : DeskHome → Option Token → Type 0
HasQueueOf home (Some (Lent queue token drawn)) = has_queue home queue.0 ≡ true
HasQueueOf home (Some (Frame queue token)) = has_queue home queue.0 ≡ true
HasQueueOf home other = Unit {0}

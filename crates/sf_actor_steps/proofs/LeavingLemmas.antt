-- A step that takes a buffer out of its queue, once its fence is passed.
use Rattle.std.proofs.Common.{ℕ, Option}
use Rattle.std.specs.Prelude.{IfOk, Result, Ok, Err}
use Rattle.sf_base.specs.Fences.{Fence}
use Rattle.sf_actor.specs.sf_picture.declared.picture.Picture.{Picture}
use Rattle.sf_actor.specs.sf_script_scene.declared.step.Step.{Step}
use Rattle.sf_actor.specs.Desks.{DeskHome, DeskView}
use Rattle.sf_actor_steps.specs.Doing.{MakesCall}
use Rattle.sf_actor_steps.specs.Leaving.{LooksFor, TriesToLeave}
use Rattle.sf_actor_steps.specs.declared.bindings.Bindings.{Bindings}
use Rattle.sf_actor_steps.specs.declared.tried.Tried.{Tried}
use Rattle.sf_actor_steps.specs.declared.tried.Tried.TheVariants as tried

-- what holds of each value that is answered
pub ok-map : {T E : Type 0} (P Q : T → Type 0) (r : Result T E) → ((x : T) → P x → Q x) → IfOk r P → IfOk r Q
ok-map P Q (Ok x) f p = f x p
ok-map P Q (Err e) f p = p

pub leaves : {B : Type 0} (pictures : ℕ → Picture) (home : DeskHome) (by step_number : ℕ) (s : Step) (fence : Option Fence) (before after : Bindings B) (old looked new : DeskView B) (came_to : Tried) → LooksFor home fence old looked → MakesCall pictures home by step_number s before after looked new came_to → TriesToLeave pictures home by step_number s fence before after old new came_to
leaves pictures home by step_number s fence before after old looked new (tried.Own status) looks makes = absurd makes.tries
leaves pictures home by step_number s fence before after old looked new (tried.Called status values) looks makes = (looked, looks, makes)
leaves pictures home by step_number s fence before after old looked new (tried.Sent number) looks makes = (looked, looks, makes)
leaves pictures home by step_number s fence before after old looked new tried.NotYet looks makes = (looked, looks, makes)

-- The steps of two forms: a dequeue waits or does not, a buffer is attached or detached as a frame's or as a lent one.
use Rattle.std.proofs.Common.{◌≡◌, ℕ, Bool, true, false, ap, subst, Option}
use Rattle.std.specs.Prelude.{unwrap_or}
use Rattle.sf_base.specs.declared.ids.QueueId.{QueueId}
use Rattle.sf_actor.specs.sf_picture.declared.picture.Picture.{Picture}
use Rattle.sf_actor.specs.sf_surface.declared.call.QCall.TheVariants as call
use Rattle.sf_actor.specs.sf_surface.Tokens.{LooseOf}
use Rattle.sf_actor.specs.sf_turns.Views.{PermitView}
use Rattle.sf_actor.specs.declared.holding.Holding.TheVariants as holding
use Rattle.sf_actor.specs.Desks.{DeskHome, DeskView}
use Rattle.sf_actor.specs.Scripts.{queue_of}
use Rattle.sf_actor_steps.specs.Calling.{TriesCall}
use Rattle.sf_actor_steps.specs.Doing.{MakesCall}
use Rattle.sf_actor_steps.specs.Forming.{Takes, TakesPermit, attach_call, attach_step, dequeue_step, joining, named}
use Rattle.sf_actor_steps.specs.declared.asking.Asking.{Asking}
use Rattle.sf_actor_steps.specs.declared.bindings.Bindings.{Bindings}
use Rattle.sf_actor_steps.specs.declared.tried.Tried.{Tried}

module _ {B : Type 0} (home : DeskHome) (step_number : ℕ) (before taken after : Bindings B) (asking : Asking B) (old new : DeskView B) (came_to : Tried) where
  pub dequeue_made : (wait : Bool) (queue name : ℕ) (size : Option (ℕ × ℕ)) (permit : PermitView) → TakesPermit before taken permit
      → asking ≡ named (queue_of queue) name (call.Dequeue (unwrap_or size (0, 0)).0 (unwrap_or size (0, 0)).1 wait permit)
      → TriesCall home taken.by.0 step_number asking taken after old new came_to
      → (pictures : ℕ → Picture) → MakesCall pictures home before.by.0 step_number (dequeue_step wait queue name size) before after old new came_to
  dequeue_made true queue name size permit takes is tries pictures = record {
    taken = taken;
    asking = asking;
    forms = (permit, takes, is);
    tries = subst (λ (by : ℕ). TriesCall home by step_number asking taken after old new came_to) (ap (λ (b : Bindings B). b.by.0) takes.same) tries;
  }
  dequeue_made false queue name size permit takes is tries pictures = record {
    taken = taken;
    asking = asking;
    forms = (permit, takes, is);
    tries = subst (λ (by : ℕ). TriesCall home by step_number asking taken after old new came_to) (ap (λ (b : Bindings B). b.by.0) takes.same) tries;
  }

  pub attach_made : (reads : Bool) (queue from to : ℕ) (last : QueueId) (loose : LooseOf) → Takes before taken from (holding.Frees last loose)
      → asking ≡ joining (queue_of queue) from to last (attach_call reads loose)
      → TriesCall home taken.by.0 step_number asking taken after old new came_to
      → (pictures : ℕ → Picture) → MakesCall pictures home before.by.0 step_number (attach_step reads queue from to) before after old new came_to
  attach_made true queue from to last loose takes is tries pictures = record {
    taken = taken;
    asking = asking;
    forms = (last, loose, takes, is);
    tries = subst (λ (by : ℕ). TriesCall home by step_number asking taken after old new came_to) (ap (λ (b : Bindings B). b.by.0) takes.rest) tries;
  }
  attach_made false queue from to last loose takes is tries pictures = record {
    taken = taken;
    asking = asking;
    forms = (last, loose, takes, is);
    tries = subst (λ (by : ℕ). TriesCall home by step_number asking taken after old new came_to) (ap (λ (b : Bindings B). b.by.0) takes.rest) tries;
  }

-- What is known of a try that is done, over its actor's own desk.
use Rattle.std.specs.Prelude.{◌≡◌, ℕ, ◌+◌, length, Some}
use Rattle.sf_script_scene.specs.sf_picture.declared.picture.Picture.{Picture}
use Rattle.sf_script_scene.specs.Ranges.{IsStep}
use Rattle.sf_script_scene.specs.declared.step.Step.{Step}
use Rattle.law_draws.specs.sf_actor.declared.tried.Reply.{Reply}
use Rattle.law_draws.specs.sf_actor.Desks.{DeskHome, DeskView}
use Rattle.law_draws.specs.sf_actor.Tests.{refusal_of}
use Rattle.law_draws.specs.sf_actor.Tries.{ActorOf, DoesStep, Keeps, next_step}
use Rattle.law_draws.specs.sf_actor_steps.Acting.{Attempts}
use Rattle.law_draws.specs.sf_actor_steps.Actors.{parts_of}
use Rattle.law_draws.specs.sf_actor_steps.Bindings.{holdings_of}
use Rattle.law_draws.specs.sf_actor_steps.declared.bindings.Bindings.{Bindings}
use Rattle.law_draws.specs.sf_actor_steps.declared.tried.Tried.{Tried}

-- an actor tried its next step and did it, with the tokens in its bindings; it kept what it keeps
pub record DoesTry {B : Type 0} (pictures : ℕ → Picture) (home : DeskHome) (was is : ActorOf B) (next : Step) (before after : Bindings B)
    (old new : DeskView B) (came_to : Tried) : Type 0 where
  pub is_next : next_step was ≡ Some next
  pub parts_was : was.parts ≡ parts_of before
  pub parts_is : is.parts ≡ parts_of after
  pub by_it : was.script.number ≡ before.by.0
  pub wide : length before.names ≡ 32
  pub ranges : IsStep next
  pub keeps_was : Keeps pictures home was old
  pub keeps_is : Keeps pictures home is new
  pub reply : Reply
  pub does : DoesStep pictures home was old is new reply
  pub attempts : Attempts (refusal_of pictures (holdings_of before) next) pictures home before.by.0 (length was.trace + 1) next before after old new came_to

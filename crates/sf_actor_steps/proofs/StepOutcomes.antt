-- What a step comes to that none of its own tests refuses, whatever its form.
use Rattle.std.specs.Prelude.{◌≡◌, ℕ, ◌+◌, length, None}
use Rattle.sf_actor.specs.sf_picture.declared.picture.Picture.{Picture}
use Rattle.sf_actor.specs.sf_script_scene.declared.step.Step.{Step}
use Rattle.sf_actor.specs.sf_script_scene.declared.step.Step.TheVariants as step
use Rattle.sf_actor.specs.Desks.{DeskHome, DeskView}
use Rattle.sf_actor.specs.Tests.{refusal_of}
use Rattle.sf_actor.specs.Tries.{ActorOf, past_of}
use Rattle.sf_actor_steps.specs.Acting.{Acts}
use Rattle.sf_actor_steps.specs.inner.Coming.{Comes, IsReady}
use Rattle.sf_actor_steps.specs.declared.bindings.Bindings.{Bindings}
use Rattle.sf_actor_steps.specs.declared.tried.Tried.{Tried}
use Rattle.sf_actor_steps.proofs.DrawComings.{draw_comes}
use Rattle.sf_actor_steps.proofs.DropComings.{disconnect_comes}
use Rattle.sf_actor_steps.proofs.EditComings.{barrier_comes, begin_comes, desire_comes, merge_comes, send_comes, set_comes, show_comes}
use Rattle.sf_actor_steps.proofs.HoldComings.{cancel_comes, queue_comes, release_comes, request_comes}
use Rattle.sf_actor_steps.proofs.MoveComings.{attach_comes, attach_read_comes, detach_comes, detach_read_comes}
use Rattle.sf_actor_steps.proofs.OwnComings.{signal_comes, wait_comes}
use Rattle.sf_actor_steps.proofs.SetComings.{abandon_comes, async_comes, connect_comes, most_acquired_comes, most_dequeued_comes}
use Rattle.sf_actor_steps.proofs.TakeComings.{acquire_comes, dequeue_comes, dequeue_wait_comes}

module _ {B : Type 0} where
  pub acts_comes : (pictures : ℕ → Picture) (home : DeskHome) (actor : ActorOf B) (before after : Bindings B) (old new : DeskView B) (s : Step) (came_to : Tried) → IsReady pictures home actor before old s → refusal_of pictures (past_of actor).holdings s ≡ None → Acts pictures home actor.script.number (length actor.trace + 1) s before after old new came_to → Comes pictures home actor after old new came_to
  acts_comes pictures home actor before after old new (step.Connect q) came_to ready unrefused acts = connect_comes pictures home actor before after old new q came_to ready unrefused acts
  acts_comes pictures home actor before after old new (step.Disconnect q) came_to ready unrefused acts = disconnect_comes pictures home actor before after old new q came_to ready unrefused acts
  acts_comes pictures home actor before after old new (step.MaxDequeued q n) came_to ready unrefused acts = most_dequeued_comes pictures home actor before after old new q n came_to ready unrefused acts
  acts_comes pictures home actor before after old new (step.Async q on) came_to ready unrefused acts = async_comes pictures home actor before after old new q on came_to ready unrefused acts
  acts_comes pictures home actor before after old new (step.Dequeue q name size) came_to ready unrefused acts = dequeue_comes pictures home actor before after old new q name size came_to ready unrefused acts
  acts_comes pictures home actor before after old new (step.DequeueWait q name size) came_to ready unrefused acts = dequeue_wait_comes pictures home actor before after old new q name size came_to ready unrefused acts
  acts_comes pictures home actor before after old new (step.Request name) came_to ready unrefused acts = request_comes pictures home actor before after old new name came_to ready unrefused acts
  acts_comes pictures home actor before after old new (step.Draw name p) came_to ready unrefused acts = draw_comes pictures home actor before after old new name p came_to ready unrefused acts
  acts_comes pictures home actor before after old new (step.Queue name p time crop points) came_to ready unrefused acts = queue_comes pictures home actor before after old new name p time crop points came_to ready unrefused acts
  acts_comes pictures home actor before after old new (step.Cancel name points) came_to ready unrefused acts = cancel_comes pictures home actor before after old new name points came_to ready unrefused acts
  acts_comes pictures home actor before after old new (step.PDetach from to) came_to ready unrefused acts = detach_comes pictures home actor before after old new from to came_to ready unrefused acts
  acts_comes pictures home actor before after old new (step.PAttach q from to) came_to ready unrefused acts = attach_comes pictures home actor before after old new q from to came_to ready unrefused acts
  acts_comes pictures home actor before after old new (step.MaxAcquired q n) came_to ready unrefused acts = most_acquired_comes pictures home actor before after old new q n came_to ready unrefused acts
  acts_comes pictures home actor before after old new (step.Abandon q) came_to ready unrefused acts = abandon_comes pictures home actor before after old new q came_to ready unrefused acts
  acts_comes pictures home actor before after old new (step.Acquire q i at) came_to ready unrefused acts = acquire_comes pictures home actor before after old new q i at came_to ready unrefused acts
  acts_comes pictures home actor before after old new (step.Release name points) came_to ready unrefused acts = release_comes pictures home actor before after old new name points came_to ready unrefused acts
  acts_comes pictures home actor before after old new (step.CDetach from to) came_to ready unrefused acts = detach_read_comes pictures home actor before after old new from to came_to ready unrefused acts
  acts_comes pictures home actor before after old new (step.CAttach q from to) came_to ready unrefused acts = attach_read_comes pictures home actor before after old new q from to came_to ready unrefused acts
  acts_comes pictures home actor before after old new (step.Signal t v) came_to ready unrefused acts = signal_comes pictures home actor before after old new t v came_to ready unrefused acts
  acts_comes pictures home actor before after old new (step.Wait t v) came_to ready unrefused acts = wait_comes pictures home actor before after old new t v came_to ready unrefused acts
  acts_comes pictures home actor before after old new (step.Tx n) came_to ready unrefused acts = begin_comes pictures home actor before after old new n came_to ready unrefused acts
  acts_comes pictures home actor before after old new (step.Desire n time) came_to ready unrefused acts = desire_comes pictures home actor before after old new n time came_to ready unrefused acts
  acts_comes pictures home actor before after old new (step.Buffer n layer i) came_to ready unrefused acts = show_comes pictures home actor before after old new n layer i came_to ready unrefused acts
  acts_comes pictures home actor before after old new (step.Barrier n layer frame) came_to ready unrefused acts = barrier_comes pictures home actor before after old new n layer frame came_to ready unrefused acts
  acts_comes pictures home actor before after old new (step.Merge n m) came_to ready unrefused acts = merge_comes pictures home actor before after old new n m came_to ready unrefused acts
  acts_comes pictures home actor before after old new (step.Apply n token) came_to ready unrefused acts = send_comes pictures home actor before after old new n token came_to ready unrefused acts
  acts_comes pictures home actor before after old new (step.Set n layer change) came_to ready unrefused acts = set_comes pictures home actor before after old new n layer change came_to ready unrefused acts

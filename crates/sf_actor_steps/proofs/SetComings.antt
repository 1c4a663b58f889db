-- What a step comes to that connects to a queue, abandons it, or sets its limits or its mode.
use Rattle.std.proofs.Common.{◌≡◌, ℕ, ◌+◌, Bool, [], length, ap, ◌∙◌, sym, refl, subst, None}
use Rattle.sf_base.specs.declared.ids.QueueId.{QueueId}
use Rattle.sf_actor.specs.sf_picture.declared.picture.Picture.{Picture}
use Rattle.sf_actor.specs.sf_script_scene.declared.step.Step.{Step}
use Rattle.sf_actor.specs.sf_script_scene.declared.step.Step.TheVariants as step
use Rattle.sf_actor.specs.sf_slots.declared.calls.PlainReply.{PlainReply}
use Rattle.sf_actor.specs.sf_slots.declared.calls.PlainReply.TheVariants as plain
use Rattle.sf_actor.specs.sf_surface.declared.call.Gives.TheVariants as gives
use Rattle.sf_actor.specs.sf_surface.declared.call.QCall.{QCall}
use Rattle.sf_actor.specs.sf_surface.declared.call.QCall.TheVariants as call
use Rattle.sf_actor.specs.sf_surface.declared.call.QReply.{QReply}
use Rattle.sf_actor.specs.sf_surface.Hands.{IsReply}
use Rattle.sf_actor.specs.Desks.{DeskHome, DeskView, known_of, mark_among}
use Rattle.sf_actor.specs.Known.{share_of}
use Rattle.sf_actor.specs.Scripts.{queue_of}
use Rattle.sf_actor.specs.Tests.{refusal_of}
use Rattle.sf_actor.specs.Tries.{ActorKept, ActorOf, past_of, turn_ended}
use Rattle.sf_actor.proofs.CallShare.{answer_told, made_call}
use Rattle.sf_actor.proofs.StepKeepsActor.{stepped}
use Rattle.sf_actor.proofs.SettingSteps.{abandon_keeps, async_keeps, connect_keeps, most_acquired_keeps, most_dequeued_keeps}
use Rattle.sf_actor.proofs.ReplyRecords.{Tells, abandon_tells, async_tells, connect_tells, most_acquired_tells, most_dequeued_tells}
use Rattle.sf_actor_steps.specs.Acting.{Acts}
use Rattle.sf_actor_steps.specs.Actors.{parts_of}
use Rattle.sf_actor_steps.specs.Calling.{Ends, placed, received, with_spare}
use Rattle.sf_actor_steps.specs.inner.Coming.{Comes, IsReady}
use Rattle.sf_actor_steps.specs.Forming.{named}
use Rattle.sf_actor_steps.specs.declared.asking.Asking.{Asking}
use Rattle.sf_actor_steps.specs.declared.asking.Homes.{Homes}
use Rattle.sf_actor_steps.specs.declared.bindings.Bindings.{Bindings}
use Rattle.sf_actor_steps.specs.declared.tried.Tried.{Tried}
use Rattle.sf_actor_steps.proofs.CallComings.{Came, call_comes, called, came_with, ended_turn, formed, none_ended, none_left, unlooked}

module _ {B : Type 0} where
  -- a reply that gives no token, ends no drawing and hands no permit back
  record GivesNone (reply : QReply B) : Type 0 where
    pub gives : reply.gives ≡ gives.Nothing
    pub ends : reply.ends ≡ None
    pub spare : reply.spare ≡ None

  from_reply : (reply other : QReply B) → other.gives ≡ gives.Nothing → other.ends ≡ None → other.spare ≡ None → reply ≡ other → GivesNone reply
  from_reply reply other given ends spare is = record {
    gives = ap (λ (r : QReply B). r.gives) is ∙ given;
    ends = ap (λ (r : QReply B). r.ends) is ∙ ends;
    spare = ap (λ (r : QReply B). r.spare) is ∙ spare;
  }

  connect_gives : (queue : QueueId) (told : PlainReply) (reply : QReply B) → IsReply queue call.Connect told reply → GivesNone reply
  connect_gives queue (plain.Refused cause) reply is = from_reply reply _ refl refl refl is
  connect_gives queue plain.Done reply is = from_reply reply _ refl refl refl is
  connect_gives queue (plain.Dequeued slot held requested reallocated points) reply is = absurd is
  connect_gives queue (plain.Requested held) reply is = absurd is
  connect_gives queue (plain.Queued frame) reply is = absurd is
  connect_gives queue (plain.Attached slot held) reply is = absurd is
  connect_gives queue (plain.Acquired item dropped) reply is = absurd is

  most_dequeued_gives : (queue : QueueId) (n : ℕ) (told : PlainReply) (reply : QReply B) → IsReply queue (call.MaxDequeued n) told reply → GivesNone reply
  most_dequeued_gives queue n (plain.Refused cause) reply is = from_reply reply _ refl refl refl is
  most_dequeued_gives queue n plain.Done reply is = from_reply reply _ refl refl refl is
  most_dequeued_gives queue n (plain.Dequeued slot held requested reallocated points) reply is = absurd is
  most_dequeued_gives queue n (plain.Requested held) reply is = absurd is
  most_dequeued_gives queue n (plain.Queued frame) reply is = absurd is
  most_dequeued_gives queue n (plain.Attached slot held) reply is = absurd is
  most_dequeued_gives queue n (plain.Acquired item dropped) reply is = absurd is

  async_gives : (queue : QueueId) (on : Bool) (told : PlainReply) (reply : QReply B) → IsReply queue (call.Async on) told reply → GivesNone reply
  async_gives queue on (plain.Refused cause) reply is = from_reply reply _ refl refl refl is
  async_gives queue on plain.Done reply is = from_reply reply _ refl refl refl is
  async_gives queue on (plain.Dequeued slot held requested reallocated points) reply is = absurd is
  async_gives queue on (plain.Requested held) reply is = absurd is
  async_gives queue on (plain.Queued frame) reply is = absurd is
  async_gives queue on (plain.Attached slot held) reply is = absurd is
  async_gives queue on (plain.Acquired item dropped) reply is = absurd is

  most_acquired_gives : (queue : QueueId) (n : ℕ) (told : PlainReply) (reply : QReply B) → IsReply queue (call.MaxAcquired n) told reply → GivesNone reply
  most_acquired_gives queue n (plain.Refused cause) reply is = from_reply reply _ refl refl refl is
  most_acquired_gives queue n plain.Done reply is = from_reply reply _ refl refl refl is
  most_acquired_gives queue n (plain.Dequeued slot held requested reallocated points) reply is = absurd is
  most_acquired_gives queue n (plain.Requested held) reply is = absurd is
  most_acquired_gives queue n (plain.Queued frame) reply is = absurd is
  most_acquired_gives queue n (plain.Attached slot held) reply is = absurd is
  most_acquired_gives queue n (plain.Acquired item dropped) reply is = absurd is

  abandon_gives : (queue : QueueId) (told : PlainReply) (reply : QReply B) → IsReply queue call.Abandon told reply → GivesNone reply
  abandon_gives queue (plain.Refused cause) reply is = from_reply reply _ refl refl refl is
  abandon_gives queue plain.Done reply is = from_reply reply _ refl refl refl is
  abandon_gives queue (plain.Dequeued slot held requested reallocated points) reply is = absurd is
  abandon_gives queue (plain.Requested held) reply is = absurd is
  abandon_gives queue (plain.Queued frame) reply is = absurd is
  abandon_gives queue (plain.Attached slot held) reply is = absurd is
  abandon_gives queue (plain.Acquired item dropped) reply is = absurd is

  received_none : (homes : Homes) (bindings : Bindings B) (reply : QReply B) → GivesNone reply → received homes bindings reply ≡ bindings
  received_none homes bindings reply none = λ i. with_spare (placed homes bindings (none.gives i)) (none.spare i)

  -- what the call of such a step came to
  setting_came : (pictures : ℕ → Picture) (home : DeskHome) (actor : ActorOf B) (s : Step) (homes : Homes) (before after : Bindings B) (old called_view new : DeskView B) (reply : QReply B) (told : PlainReply) → IsReady pictures home actor before old s → GivesNone reply → Tells (past_of actor).holdings s told reply → turn_ended actor.parts s ≡ [] → Ends reply.ends called_view new → after ≡ received homes before reply → ActorKept pictures (stepped actor (called s told) actor.parts) (share_of actor.script.number (known_of home called_view)) → Came pictures home actor s after new reply
  setting_came pictures home actor s homes before after old called_view new reply told ready none tells unended ends bindings keeps =
      came_with pictures home actor s after new reply told actor.parts
      (ap (λ (h : Bindings B). parts_of h) (bindings ∙ received_none homes before reply none) ∙ sym ready.parts)
      tells
      (ap ended_turn none.ends ∙ sym (none_ended actor.parts s told unended))
      (subst (λ (view : DeskView B). ActorKept pictures (stepped actor (called s told) actor.parts) (share_of actor.script.number (known_of home view)))
      (sym (none_left reply called_view new none.ends ends)) keeps)
      ready.keeps.there

  pub connect_comes : (pictures : ℕ → Picture) (home : DeskHome) (actor : ActorOf B) (before after : Bindings B) (old new : DeskView B) (q : ℕ) (came_to : Tried) → IsReady pictures home actor before old (step.Connect q) → refusal_of pictures (past_of actor).holdings (step.Connect q) ≡ None → Acts pictures home actor.script.number (length actor.trace + 1) (step.Connect q) before after old new came_to → Comes pictures home actor after old new came_to
  connect_comes pictures home actor before after old new q came_to ready unrefused makes =
      let by = actor.script.number in
      let s : Step = step.Connect q in
      let asked : ℕ × QCall B = (length actor.trace + 1, call.Connect) in
      let asking : Asking B = named (queue_of q) 0 asked.1 in
      call_comes pictures home actor s before after after old old new asking came_to refl refl (unlooked home old)
      (formed home by asked.0 makes.asking asking makes.taken before after old new came_to makes.forms.0 makes.forms.1 makes.tries)
      (λ reply called_view was made ends bindings.
      let queue = (mark_among home.marks q).queue in
      let told = (made_call home old called_view by q asked reply made).told.reply in
      let is = answer_told home old called_view by q asked reply made in
      setting_came pictures home actor s asking.homes before after old called_view new reply told ready
      (connect_gives queue told reply is) (connect_tells queue q (past_of actor).holdings told reply is) refl ends bindings
      (connect_keeps pictures actor q home old called_view reply ready.is_next ready.keeps.kept made))

  pub most_dequeued_comes : (pictures : ℕ → Picture) (home : DeskHome) (actor : ActorOf B) (before after : Bindings B) (old new : DeskView B) (q n : ℕ) (came_to : Tried) → IsReady pictures home actor before old (step.MaxDequeued q n) → refusal_of pictures (past_of actor).holdings (step.MaxDequeued q n) ≡ None → Acts pictures home actor.script.number (length actor.trace + 1) (step.MaxDequeued q n) before after old new came_to → Comes pictures home actor after old new came_to
  most_dequeued_comes pictures home actor before after old new q n came_to ready unrefused makes =
      let by = actor.script.number in
      let s : Step = step.MaxDequeued q n in
      let asked : ℕ × QCall B = (length actor.trace + 1, call.MaxDequeued n) in
      let asking : Asking B = named (queue_of q) 0 asked.1 in
      call_comes pictures home actor s before after after old old new asking came_to refl refl (unlooked home old)
      (formed home by asked.0 makes.asking asking makes.taken before after old new came_to makes.forms.0 makes.forms.1 makes.tries)
      (λ reply called_view was made ends bindings.
      let queue = (mark_among home.marks q).queue in
      let told = (made_call home old called_view by q asked reply made).told.reply in
      let is = answer_told home old called_view by q asked reply made in
      setting_came pictures home actor s asking.homes before after old called_view new reply told ready
      (most_dequeued_gives queue n told reply is) (most_dequeued_tells queue q n (past_of actor).holdings told reply is) refl ends bindings
      (most_dequeued_keeps pictures actor q n home old called_view reply ready.is_next ready.keeps.kept made))

  pub async_comes : (pictures : ℕ → Picture) (home : DeskHome) (actor : ActorOf B) (before after : Bindings B) (old new : DeskView B) (q : ℕ) (on : Bool) (came_to : Tried) → IsReady pictures home actor before old (step.Async q on) → refusal_of pictures (past_of actor).holdings (step.Async q on) ≡ None → Acts pictures home actor.script.number (length actor.trace + 1) (step.Async q on) before after old new came_to → Comes pictures home actor after old new came_to
  async_comes pictures home actor before after old new q on came_to ready unrefused makes =
      let by = actor.script.number in
      let s : Step = step.Async q on in
      let asked : ℕ × QCall B = (length actor.trace + 1, call.Async on) in
      let asking : Asking B = named (queue_of q) 0 asked.1 in
      call_comes pictures home actor s before after after old old new asking came_to refl refl (unlooked home old)
      (formed home by asked.0 makes.asking asking makes.taken before after old new came_to makes.forms.0 makes.forms.1 makes.tries)
      (λ reply called_view was made ends bindings.
      let queue = (mark_among home.marks q).queue in
      let told = (made_call home old called_view by q asked reply made).told.reply in
      let is = answer_told home old called_view by q asked reply made in
      setting_came pictures home actor s asking.homes before after old called_view new reply told ready
      (async_gives queue on told reply is) (async_tells queue q on (past_of actor).holdings told reply is) refl ends bindings
      (async_keeps pictures actor q on home old called_view reply ready.is_next ready.keeps.kept made))

  pub most_acquired_comes : (pictures : ℕ → Picture) (home : DeskHome) (actor : ActorOf B) (before after : Bindings B) (old new : DeskView B) (q n : ℕ) (came_to : Tried) → IsReady pictures home actor before old (step.MaxAcquired q n) → refusal_of pictures (past_of actor).holdings (step.MaxAcquired q n) ≡ None → Acts pictures home actor.script.number (length actor.trace + 1) (step.MaxAcquired q n) before after old new came_to → Comes pictures home actor after old new came_to
  most_acquired_comes pictures home actor before after old new q n came_to ready unrefused makes =
      let by = actor.script.number in
      let s : Step = step.MaxAcquired q n in
      let asked : ℕ × QCall B = (length actor.trace + 1, call.MaxAcquired n) in
      let asking : Asking B = named (queue_of q) 0 asked.1 in
      call_comes pictures home actor s before after after old old new asking came_to refl refl (unlooked home old)
      (formed home by asked.0 makes.asking asking makes.taken before after old new came_to makes.forms.0 makes.forms.1 makes.tries)
      (λ reply called_view was made ends bindings.
      let queue = (mark_among home.marks q).queue in
      let told = (made_call home old called_view by q asked reply made).told.reply in
      let is = answer_told home old called_view by q asked reply made in
      setting_came pictures home actor s asking.homes before after old called_view new reply told ready
      (most_acquired_gives queue n told reply is) (most_acquired_tells queue q n (past_of actor).holdings told reply is) refl ends bindings
      (most_acquired_keeps pictures actor q n home old called_view reply ready.is_next ready.keeps.kept made))

  pub abandon_comes : (pictures : ℕ → Picture) (home : DeskHome) (actor : ActorOf B) (before after : Bindings B) (old new : DeskView B) (q : ℕ) (came_to : Tried) → IsReady pictures home actor before old (step.Abandon q) → refusal_of pictures (past_of actor).holdings (step.Abandon q) ≡ None → Acts pictures home actor.script.number (length actor.trace + 1) (step.Abandon q) before after old new came_to → Comes pictures home actor after old new came_to
  abandon_comes pictures home actor before after old new q came_to ready unrefused makes =
      let by = actor.script.number in
      let s : Step = step.Abandon q in
      let asked : ℕ × QCall B = (length actor.trace + 1, call.Abandon) in
      let asking : Asking B = named (queue_of q) 0 asked.1 in
      call_comes pictures home actor s before after after old old new asking came_to refl refl (unlooked home old)
      (formed home by asked.0 makes.asking asking makes.taken before after old new came_to makes.forms.0 makes.forms.1 makes.tries)
      (λ reply called_view was made ends bindings.
      let queue = (mark_among home.marks q).queue in
      let told = (made_call home old called_view by q asked reply made).told.reply in
      let is = answer_told home old called_view by q asked reply made in
      setting_came pictures home actor s asking.homes before after old called_view new reply told ready
      (abandon_gives queue told reply is) (abandon_tells queue q (past_of actor).holdings told reply is) refl ends bindings
      (abandon_keeps pictures actor q home old called_view reply ready.is_next ready.keeps.kept made))

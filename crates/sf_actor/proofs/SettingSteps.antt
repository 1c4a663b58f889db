-- What an actor keeps where it connects to a queue, abandons it, or sets its limits or its mode.
use Rattle.std.proofs.Common.{◌≡◌, ℕ, ◌+◌, Bool, length, ap, refl, Some, None}
use Rattle.sf_base.specs.declared.ids.QueueId.{QueueId}
use Rattle.sf_script_scene.specs.sf_picture.declared.picture.Picture.{Picture}
use Rattle.sf_script_scene.specs.declared.step.Step.TheVariants as step
use Rattle.sf_surface.specs.sf_slots.declared.calls.PlainReply.{PlainReply}
use Rattle.sf_surface.specs.sf_slots.declared.calls.PlainReply.TheVariants as plain
use Rattle.sf_surface.specs.declared.call.QCall.{QCall}
use Rattle.sf_surface.specs.declared.call.QCall.TheVariants as call
use Rattle.sf_surface.specs.declared.call.QReply.{QReply}
use Rattle.sf_surface.specs.Calls.{told_call}
use Rattle.sf_surface.specs.Hands.{IsReply}
use Rattle.sf_actor.specs.declared.done.Answered.TheVariants as answered
use Rattle.sf_actor.specs.Desks.{DeskHome, DeskView, MadeCall, known_of, mark_among}
use Rattle.sf_actor.specs.Known.{share_of}
use Rattle.sf_actor.specs.Names.{Holdings}
use Rattle.sf_actor.specs.Scripts.{queue_of}
use Rattle.sf_actor.specs.Tests.{refusal_of}
use Rattle.sf_actor.specs.Tries.{ActorKept, ActorOf, next_step, past_of}
use Rattle.sf_actor.proofs.Forms.{plain_keeps}
use Rattle.sf_actor.proofs.CallShare.{answer_told, made_call, one_more}
use Rattle.sf_actor.proofs.StepKeepsActor.{stepped}

no_connect_test : (pictures : ℕ → Picture) (holdings : Holdings) (q : ℕ) → refusal_of pictures holdings (step.Connect q) ≡ None
unfolding refusal_of
no_connect_test pictures holdings q = refl

no_most_dequeued_test : (pictures : ℕ → Picture) (holdings : Holdings) (q n : ℕ) → refusal_of pictures holdings (step.MaxDequeued q n) ≡ None
unfolding refusal_of
no_most_dequeued_test pictures holdings q n = refl

no_async_test : (pictures : ℕ → Picture) (holdings : Holdings) (q : ℕ) (on : Bool) → refusal_of pictures holdings (step.Async q on) ≡ None
unfolding refusal_of
no_async_test pictures holdings q on = refl

no_most_acquired_test : (pictures : ℕ → Picture) (holdings : Holdings) (q n : ℕ) → refusal_of pictures holdings (step.MaxAcquired q n) ≡ None
unfolding refusal_of
no_most_acquired_test pictures holdings q n = refl

no_abandon_test : (pictures : ℕ → Picture) (holdings : Holdings) (q : ℕ) → refusal_of pictures holdings (step.Abandon q) ≡ None
unfolding refusal_of
no_abandon_test pictures holdings q = refl

module _ {B : Type 0} where
  -- their replies end no drawing
  connect_ends : (queue : QueueId) (told : PlainReply) (reply : QReply B) → IsReply queue call.Connect told reply → reply.ends ≡ None
  connect_ends queue (plain.Refused cause) reply is = ap (λ (r : QReply B). r.ends) is
  connect_ends queue plain.Done reply is = ap (λ (r : QReply B). r.ends) is
  connect_ends queue (plain.Dequeued slot held requested reallocated points) reply is = absurd is
  connect_ends queue (plain.Requested held) reply is = absurd is
  connect_ends queue (plain.Queued frame) reply is = absurd is
  connect_ends queue (plain.Attached slot held) reply is = absurd is
  connect_ends queue (plain.Acquired item dropped) reply is = absurd is

  most_dequeued_ends : (queue : QueueId) (n : ℕ) (told : PlainReply) (reply : QReply B) → IsReply queue (call.MaxDequeued n) told reply → reply.ends ≡ None
  most_dequeued_ends queue n (plain.Refused cause) reply is = ap (λ (r : QReply B). r.ends) is
  most_dequeued_ends queue n plain.Done reply is = ap (λ (r : QReply B). r.ends) is
  most_dequeued_ends queue n (plain.Dequeued slot held requested reallocated points) reply is = absurd is
  most_dequeued_ends queue n (plain.Requested held) reply is = absurd is
  most_dequeued_ends queue n (plain.Queued frame) reply is = absurd is
  most_dequeued_ends queue n (plain.Attached slot held) reply is = absurd is
  most_dequeued_ends queue n (plain.Acquired item dropped) reply is = absurd is

  async_ends : (queue : QueueId) (on : Bool) (told : PlainReply) (reply : QReply B) → IsReply queue (call.Async on) told reply → reply.ends ≡ None
  async_ends queue on (plain.Refused cause) reply is = ap (λ (r : QReply B). r.ends) is
  async_ends queue on plain.Done reply is = ap (λ (r : QReply B). r.ends) is
  async_ends queue on (plain.Dequeued slot held requested reallocated points) reply is = absurd is
  async_ends queue on (plain.Requested held) reply is = absurd is
  async_ends queue on (plain.Queued frame) reply is = absurd is
  async_ends queue on (plain.Attached slot held) reply is = absurd is
  async_ends queue on (plain.Acquired item dropped) reply is = absurd is

  most_acquired_ends : (queue : QueueId) (n : ℕ) (told : PlainReply) (reply : QReply B) → IsReply queue (call.MaxAcquired n) told reply → reply.ends ≡ None
  most_acquired_ends queue n (plain.Refused cause) reply is = ap (λ (r : QReply B). r.ends) is
  most_acquired_ends queue n plain.Done reply is = ap (λ (r : QReply B). r.ends) is
  most_acquired_ends queue n (plain.Dequeued slot held requested reallocated points) reply is = absurd is
  most_acquired_ends queue n (plain.Requested held) reply is = absurd is
  most_acquired_ends queue n (plain.Queued frame) reply is = absurd is
  most_acquired_ends queue n (plain.Attached slot held) reply is = absurd is
  most_acquired_ends queue n (plain.Acquired item dropped) reply is = absurd is

  abandon_ends : (queue : QueueId) (told : PlainReply) (reply : QReply B) → IsReply queue call.Abandon told reply → reply.ends ≡ None
  abandon_ends queue (plain.Refused cause) reply is = ap (λ (r : QReply B). r.ends) is
  abandon_ends queue plain.Done reply is = ap (λ (r : QReply B). r.ends) is
  abandon_ends queue (plain.Dequeued slot held requested reallocated points) reply is = absurd is
  abandon_ends queue (plain.Requested held) reply is = absurd is
  abandon_ends queue (plain.Queued frame) reply is = absurd is
  abandon_ends queue (plain.Attached slot held) reply is = absurd is
  abandon_ends queue (plain.Acquired item dropped) reply is = absurd is

  pub connect_keeps : (pictures : ℕ → Picture) (actor : ActorOf B) (q : ℕ) (home : DeskHome) (old new : DeskView B) (reply : QReply B) → next_step actor ≡ Some (step.Connect q) → ActorKept pictures actor (share_of actor.script.number (known_of home old)) → (made : MadeCall home old new actor.script.number q (length actor.trace + 1, call.Connect) reply) → ActorKept pictures (stepped actor (record { step = step.Connect q; answered = answered.Called (made_call home old new actor.script.number q (length actor.trace + 1, call.Connect) reply made).told.reply }) actor.parts) (share_of actor.script.number (known_of home new))
  connect_keeps pictures actor q home old new reply is_next is made =
      let by = actor.script.number in
      let asking : ℕ × QCall B = (length actor.trace + 1, call.Connect) in
      let c = made_call home old new by q asking reply made in
      plain_keeps pictures actor (step.Connect q) (queue_of q, told_call (mark_among home.marks q).queue asking.1) c (share_of by (known_of home old)) (share_of by (known_of home new)) is_next
      (record {
        test = no_connect_test pictures (past_of actor).holdings q;
        fence = refl;
        waits = refl;
        asks = refl;
        overtakes = refl;
        quiet = record { signals = refl; pays = refl; enters = refl; shows = refl };
        holds = refl;
        uses = refl;
        fills = refl;
        step = refl;
        call = refl;
        unwaited = refl;
        token = refl;
        permit = refl;
        shows = tt;
        ends = connect_ends (mark_among home.marks q).queue c.told.reply reply (answer_told home old new by q asking reply made);
      })
      is (one_more home old new by q asking reply made)

  pub most_dequeued_keeps : (pictures : ℕ → Picture) (actor : ActorOf B) (q n : ℕ) (home : DeskHome) (old new : DeskView B) (reply : QReply B) → next_step actor ≡ Some (step.MaxDequeued q n) → ActorKept pictures actor (share_of actor.script.number (known_of home old)) → (made : MadeCall home old new actor.script.number q (length actor.trace + 1, call.MaxDequeued n) reply) → ActorKept pictures (stepped actor (record { step = step.MaxDequeued q n; answered = answered.Called (made_call home old new actor.script.number q (length actor.trace + 1, call.MaxDequeued n) reply made).told.reply }) actor.parts) (share_of actor.script.number (known_of home new))
  most_dequeued_keeps pictures actor q n home old new reply is_next is made =
      let by = actor.script.number in
      let asking : ℕ × QCall B = (length actor.trace + 1, call.MaxDequeued n) in
      let c = made_call home old new by q asking reply made in
      plain_keeps pictures actor (step.MaxDequeued q n) (queue_of q, told_call (mark_among home.marks q).queue asking.1) c (share_of by (known_of home old)) (share_of by (known_of home new)) is_next
      (record {
        test = no_most_dequeued_test pictures (past_of actor).holdings q n;
        fence = refl;
        waits = refl;
        asks = refl;
        overtakes = refl;
        quiet = record { signals = refl; pays = refl; enters = refl; shows = refl };
        holds = refl;
        uses = refl;
        fills = refl;
        step = refl;
        call = refl;
        unwaited = refl;
        token = refl;
        permit = refl;
        shows = tt;
        ends = most_dequeued_ends (mark_among home.marks q).queue n c.told.reply reply (answer_told home old new by q asking reply made);
      })
      is (one_more home old new by q asking reply made)

  pub async_keeps : (pictures : ℕ → Picture) (actor : ActorOf B) (q : ℕ) (on : Bool) (home : DeskHome) (old new : DeskView B) (reply : QReply B) → next_step actor ≡ Some (step.Async q on) → ActorKept pictures actor (share_of actor.script.number (known_of home old)) → (made : MadeCall home old new actor.script.number q (length actor.trace + 1, call.Async on) reply) → ActorKept pictures (stepped actor (record { step = step.Async q on; answered = answered.Called (made_call home old new actor.script.number q (length actor.trace + 1, call.Async on) reply made).told.reply }) actor.parts) (share_of actor.script.number (known_of home new))
  async_keeps pictures actor q on home old new reply is_next is made =
      let by = actor.script.number in
      let asking : ℕ × QCall B = (length actor.trace + 1, call.Async on) in
      let c = made_call home old new by q asking reply made in
      plain_keeps pictures actor (step.Async q on) (queue_of q, told_call (mark_among home.marks q).queue asking.1) c (share_of by (known_of home old)) (share_of by (known_of home new)) is_next
      (record {
        test = no_async_test pictures (past_of actor).holdings q on;
        fence = refl;
        waits = refl;
        asks = refl;
        overtakes = refl;
        quiet = record { signals = refl; pays = refl; enters = refl; shows = refl };
        holds = refl;
        uses = refl;
        fills = refl;
        step = refl;
        call = refl;
        unwaited = refl;
        token = refl;
        permit = refl;
        shows = tt;
        ends = async_ends (mark_among home.marks q).queue on c.told.reply reply (answer_told home old new by q asking reply made);
      })
      is (one_more home old new by q asking reply made)

  pub most_acquired_keeps : (pictures : ℕ → Picture) (actor : ActorOf B) (q n : ℕ) (home : DeskHome) (old new : DeskView B) (reply : QReply B) → next_step actor ≡ Some (step.MaxAcquired q n) → ActorKept pictures actor (share_of actor.script.number (known_of home old)) → (made : MadeCall home old new actor.script.number q (length actor.trace + 1, call.MaxAcquired n) reply) → ActorKept pictures (stepped actor (record { step = step.MaxAcquired q n; answered = answered.Called (made_call home old new actor.script.number q (length actor.trace + 1, call.MaxAcquired n) reply made).told.reply }) actor.parts) (share_of actor.script.number (known_of home new))
  most_acquired_keeps pictures actor q n home old new reply is_next is made =
      let by = actor.script.number in
      let asking : ℕ × QCall B = (length actor.trace + 1, call.MaxAcquired n) in
      let c = made_call home old new by q asking reply made in
      plain_keeps pictures actor (step.MaxAcquired q n) (queue_of q, told_call (mark_among home.marks q).queue asking.1) c (share_of by (known_of home old)) (share_of by (known_of home new)) is_next
      (record {
        test = no_most_acquired_test pictures (past_of actor).holdings q n;
        fence = refl;
        waits = refl;
        asks = refl;
        overtakes = refl;
        quiet = record { signals = refl; pays = refl; enters = refl; shows = refl };
        holds = refl;
        uses = refl;
        fills = refl;
        step = refl;
        call = refl;
        unwaited = refl;
        token = refl;
        permit = refl;
        shows = tt;
        ends = most_acquired_ends (mark_among home.marks q).queue n c.told.reply reply (answer_told home old new by q asking reply made);
      })
      is (one_more home old new by q asking reply made)

  pub abandon_keeps : (pictures : ℕ → Picture) (actor : ActorOf B) (q : ℕ) (home : DeskHome) (old new : DeskView B) (reply : QReply B) → next_step actor ≡ Some (step.Abandon q) → ActorKept pictures actor (share_of actor.script.number (known_of home old)) → (made : MadeCall home old new actor.script.number q (length actor.trace + 1, call.Abandon) reply) → ActorKept pictures (stepped actor (record { step = step.Abandon q; answered = answered.Called (made_call home old new actor.script.number q (length actor.trace + 1, call.Abandon) reply made).told.reply }) actor.parts) (share_of actor.script.number (known_of home new))
  abandon_keeps pictures actor q home old new reply is_next is made =
      let by = actor.script.number in
      let asking : ℕ × QCall B = (length actor.trace + 1, call.Abandon) in
      let c = made_call home old new by q asking reply made in
      plain_keeps pictures actor (step.Abandon q) (queue_of q, told_call (mark_among home.marks q).queue asking.1) c (share_of by (known_of home old)) (share_of by (known_of home new)) is_next
      (record {
        test = no_abandon_test pictures (past_of actor).holdings q;
        fence = refl;
        waits = refl;
        asks = refl;
        overtakes = refl;
        quiet = record { signals = refl; pays = refl; enters = refl; shows = refl };
        holds = refl;
        uses = refl;
        fills = refl;
        step = refl;
        call = refl;
        unwaited = refl;
        token = refl;
        permit = refl;
        shows = tt;
        ends = abandon_ends (mark_among home.marks q).queue c.told.reply reply (answer_told home old new by q asking reply made);
      })
      is (one_more home old new by q asking reply made)
